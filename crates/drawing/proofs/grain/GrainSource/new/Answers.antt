use Rattle.std.proofs.Common.{◌≡◌, ℕ, sym, refl, ap, ◌∙◌, arith}
use Rattle.drawing.specs.Grain.{begun, ones, shift, shifted}
use Rattle.drawing.proofs.Register.{shifted_more}
use Rattle.drawing.proofs.grain.GrainSource.new.Goals as goal

pub loop-i-init : goal.loop-i-init
unfolding shifted
loop-i-init c = refl

pub loop-i-preserved : goal.loop-i-preserved
loop-i-preserved c = c.step.ensures.moved ∙ ap shift c.loop-i.invariant ∙ sym (shifted_more c.loop-i._i ones)

pub returns : goal.returns
unfolding begun
returns c = let e : c.loop-i._i ≡ 160 = omega arith in c.loop-i.invariant ∙ ap (λ (n : ℕ). shifted n ones) e
