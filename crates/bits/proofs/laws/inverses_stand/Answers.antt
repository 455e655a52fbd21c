use Rattle.bits.proofs.Inverse.{collapses_or_inverse, not_both, one_side_is_both}
use Rattle.bits.proofs.Ends.{one_inverse}
use Rattle.bits.proofs.laws.inverses_stand.Goals as goal

pub returns : goal.returns
returns c = record { either = collapses_or_inverse; never = not_both; sides = one_side_is_both; one = one_inverse }
