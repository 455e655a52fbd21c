use Rattle.std.proofs.Common.{◌≡◌, ◌-◌, ◌∙◌, None, Some, sym, arith, length, ap, drop, length-drop, length-take}
use Rattle.std.proofs.lemmas.List.{take_all}
use Rattle.cipher.specs.Instances.{many_limits}
use Rattle.cipher.proofs.Strays.{length_many_limits, part_stray, stray_within}
use Rattle.cipher.proofs.stray.first_in_part.Goals as goal
use Rattle.cipher.proofs.stray.first_in_part.Goals.{After-new}

-- the words that the call is for
part : (c : After-new) → c.new.result.words.now ≡ drop c.args.at c.args.set.words.now
part c = c.new.ensures.words ∙ take_all (length c.args.set.words.now - c.args.at) (drop c.args.at c.args.set.words.now) (simp length-drop (omega arith))

pub returns-in_err-i : goal.returns-in_err-i
returns-in_err-i c =
    c.from_residual.ensures ∙ part_stray c.args.w c.args.bits c.args.count c.args.at _ _ c.args.set.words.now _ None c.new.ensures.shape.0 c.new.ensures.shape.1 (part (goal.at.returns-in_err-i c).After-new) c.in_err-i.ensures

pub overflow_add-result : goal.overflow_add-result
overflow_add-result c =
    let m = c.new.result in
    let part : length m.words.now ≡ length c.args.set.words.now - c.args.at =
    ap length c.new.ensures.words ∙ simp (length-take, length-drop) (omega arith) in
    omega (arith, stray_within 0 c.in_ok-i.i (many_limits m.width c.args.bits m.height) m.words.now (sym c.in_ok-i.ensures), length_many_limits m.width c.args.bits m.height, m.fits, part, c.requires)

pub returns : goal.returns
returns c =
    part_stray c.args.w c.args.bits c.args.count c.args.at _ _ c.args.set.words.now _ (Some c.in_ok-i.i) c.new.ensures.shape.0 c.new.ensures.shape.1 (part (goal.at.returns c).After-new) c.in_ok-i.ensures
