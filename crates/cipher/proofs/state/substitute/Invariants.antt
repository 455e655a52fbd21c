use Rattle.std.proofs.Common.{◌≡◌}
use Rattle.bits.specs.Gf2.{value}
use Rattle.cipher.specs.Boxes.{boxes}
use Rattle.cipher.proofs.state.substitute.Given as goal

abbrev pub invariant-loop-t : goal.invariant-loop-t
invariant-loop-t l = value l.s ≡ boxes l.way l.t (value l.initial.s)
