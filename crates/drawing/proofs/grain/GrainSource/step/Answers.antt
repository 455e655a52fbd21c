use Rattle.std.proofs.Common.{◌≡◌, ℕ, ◌+◌, ◌*◌, ◌/◌, ◌%◌, ◌^◌, ◌<◌, sym, ap, ◌∙◌, subst, arith}
use Rattle.drawing.specs.Grain.{new_bit_of, shift}
use Rattle.drawing.specs.Digits.{new_below}
use Rattle.drawing.proofs.Register.{shift_below, shift_some}
use Rattle.drawing.proofs.grain.GrainSource.step.Goals as goal

small : (s b : ℕ) → b ≡ new_bit_of s → s / 2 + b * 2 ^ 79 % 2 ^ 128 ≡ shift s
small s b e =
    let l : b < 2 = subst (λ (x : ℕ). x < 2) (sym e) (new_below s) in
    let is : s / 2 + b * 2 ^ 79 % 2 ^ 128 ≡ s / 2 + b * 2 ^ 79 = omega arith in
    is ∙ ap (λ (x : ℕ). s / 2 + x * 2 ^ 79) e

pub invariant_of-self : goal.invariant_of-self
invariant_of-self c =
    let s : ℕ = c.args.self.now.register in
    let is : s / 2 + c.new_bit-bit.result * 2 ^ 79 % 2 ^ 128 ≡ shift s = small s c.new_bit-bit.result c.new_bit-bit.ensures in
    record {
      some = subst (λ (x : ℕ). 0 < x) (sym is) (shift_some s c.args.self.now.some);
      within = subst (λ (x : ℕ). x < 2 ^ 80) (sym is) (shift_below s c.args.self.now.within);
    }
