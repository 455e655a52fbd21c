use Rattle.std.proofs.Common.{◌≡◌, length}
use Rattle.bits.specs.Gf2.{rows}
use Rattle.batches.specs.Lanes.{lane}
use Rattle.batches.proofs.lanes.gather.Given as goal

abbrev pub invariant-loop-j : goal.invariant-loop-j
invariant-loop-j l = let m = l.fn.blocks in l.word ≡ lane l.i (rows m.width (length l.yielded) m.words.now)
