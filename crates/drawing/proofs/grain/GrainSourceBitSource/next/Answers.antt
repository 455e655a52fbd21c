use Rattle.std.proofs.Common.{◌≡◌, ℕ, sym, ap, ◌∙◌, arith}
use Rattle.drawing.specs.Grain.{new_bit_of, shift}
use Rattle.drawing.proofs.Register.{gave, gave_nothing, pair_given, pair_nothing}
use Rattle.drawing.proofs.grain.GrainSourceBitSource.next.Goals as goal

pub returns-then-first-eq1 : goal.returns-then-first-eq1
returns-then-first-eq1 c =
    let s : ℕ = c.loop-pair.ahead.register in
    let e : c.step-first.new.self.register ≡ shift s = c.step-first.ensures.moved in
    gave _ _ _ (sym c.loop-pair.invariant.0 ∙ pair_given c.loop-pair._pair s c.step-second.result c.step-second.new.self.register c.loop-pair-test.true
    (sym c.step-first.ensures.bit ∙ c.if-first-eq1.true)
    (c.step-second.ensures.bit ∙ ap new_bit_of e) (c.step-second.ensures.moved ∙ ap shift e))

pub loop-pair-preserved : goal.loop-pair-preserved
loop-pair-preserved c =
    let s : ℕ = c.loop-pair.ahead.register in (
      pair_nothing c.loop-pair._pair s c.step-second.new.self.register c.loop-pair-test.true
          (λ q. c.if-first-eq1.false (c.step-first.ensures.bit ∙ q))
          (c.step-second.ensures.moved ∙ ap shift c.step-first.ensures.moved) ∙ c.loop-pair.invariant.0,
      c.loop-pair.invariant.1,
    )

pub returns : goal.returns
returns c = (gave_nothing c.loop-pair._pair _ c.loop-pair.ahead.register (omega arith) c.loop-pair.invariant.0, c.loop-pair.invariant.1)
