use Rattle.std.proofs.Common.{◌≡◌, map, take}
use Rattle.bits.specs.Matrices.{rows_in}
use Rattle.batches.specs.Lanes.{columns}
use Rattle.batches.proofs.lanes.load.Given as goal

abbrev pub invariant-loop-i : goal.invariant-loop-i
invariant-loop-i g l = map g.E.Engine.means (take l.i l.cells) ≡ columns l.i (rows_in l.fn.blocks)
