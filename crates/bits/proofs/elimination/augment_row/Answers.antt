use Rattle.std.proofs.Common.{◌≡◌, ◌+◌, ◌*◌, ◌^◌, length, refl, ap, ◌∙◌, arith, length-append, length-drop, length-take}
use Rattle.bits.specs.Gf2.{value}
use Rattle.bits.proofs.Memory.{augmented}
use Rattle.bits.proofs.elimination.augment_row.Goals as goal

pub returns : goal.returns
returns c =
    let w = length c.args.from.now in
    let k : length c.copy_from_slice.new.self ≡ w = ap length c.copy_from_slice.ensures.after in
    augmented w c.args.from.now c.copy_from_slice.new.self c.args.to.now c.unit.new.v refl c.requires.size c.copy_from_slice.ensures.after
    (omega (arith, simp (length-take, length-drop, length-append) at c.unit.auto.v))
    ∙ ap (λ x. value c.args.from.now + 2 ^ (64 * w) * x) c.unit.ensures
