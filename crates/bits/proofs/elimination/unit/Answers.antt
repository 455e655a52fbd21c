use Rattle.std.proofs.Common.{◌≡◌, pow_pos, ap, ◌∙◌, arith}
use Rattle.bits.specs.Gf2.{value}
use Rattle.bits.proofs.Vectors.{value_zeros}
use Rattle.bits.proofs.elimination.unit.Goals as goal
use Rattle.bits.proofs.elimination.unit.Goals.{After-fill}

cleared : (c : After-fill) → value c.fill.new.self ≡ 0
cleared c = ap value (c.fill.ensures.after (λ x e. e)) ∙ value_zeros _

pub put_bit-requires-clause-above : goal.put_bit-requires-clause-above
put_bit-requires-clause-above c = omega (arith, cleared (goal.at.put_bit-requires-clause-above c).After-fill, pow_pos c.args.k)

pub returns : goal.returns
returns c = omega (arith, cleared (goal.at.returns c).After-fill, c.put_bit.ensures)
