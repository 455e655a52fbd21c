use Rattle.std.proofs.Common.{◌≡◌, ◌+◌, ◌%◌, drop}
use Rattle.bits.specs.Gf2.{dot, value, parity}
use Rattle.bits.proofs.words.parity.Given as goal

abbrev pub invariant-loop-i : goal.invariant-loop-i
invariant-loop-i l = (parity l.acc + dot (value (drop l.i l.row)) (value (drop l.i l.v))) % 2 ≡ dot (value l.row) (value l.v)
