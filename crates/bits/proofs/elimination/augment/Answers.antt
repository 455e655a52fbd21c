use borrow.Rule.Slice.PartMut.{put_mid}
use Rattle.std.proofs.Common.{ℕ, ◌<◌, ◌++◌, ◌∷◌, [], sym, ◌≡◌, ◌+◌, ◌-◌, ◌*◌, ◌^◌, length, ◌∙◌, ap, ap₂, arith, length-drop, length-take, rules, subst}
use Rattle.std.proofs.lemmas.List.{length_push}
use Rattle.bits.specs.Gf2.{value}
use Rattle.bits.specs.Gauss.{row_at}
use Rattle.bits.proofs.RowLoops.{AtRow, length_row_words, numbered_end, numbered_row}
use Rattle.bits.proofs.Memory.{put_more}
use Rattle.bits.proofs.elimination.augment.Goals as goal
use Rattle.bits.proofs.elimination.augment.Goals.{In-Some}

pub loop-i-init-derived : goal.loop-i-init-derived
loop-i-init-derived c = let n = length_row_words c.rows.result.width c.rows.result.left c.rows.result.words.now in search (rules, n)

at_row : (c : In-Some) → AtRow c.args.layer.width c.args.layer.height c.args.layer.words.now (length c.loop-i.yielded) c.in-Some.i c.in-Some.row.now
at_row c = numbered_row _ _ _ c.into_iter-i-iterator.result c.loop-i.i-iterator c.next.new.self c.loop-i.yielded _ (cc) (cc) c.loop-i.yielded_by c.next.ensures.steps (c.in-Some.i, c.in-Some.row) c.in-Some.is c.args.layer.fits

pub overflow_mul-start : goal.overflow_mul-start
overflow_mul-start c = omega (arith, (at_row (goal.at.overflow_mul-start c).In-Some).ends (λ v. 2 * v))

pub overflow_add-start : goal.overflow_add-start
overflow_add-start c = omega (arith, (at_row (goal.at.overflow_add-start c).In-Some).ends (λ v. 2 * v))

pub offset_bounds-work-start : goal.offset_bounds-work-start
offset_bounds-work-start c = omega (arith, (at_row (goal.at.offset_bounds-work-start c).In-Some).ends (λ v. 2 * v))

pub slice_bounds-augment_row-end : goal.slice_bounds-augment_row-end
slice_bounds-augment_row-end c = omega (arith, (at_row (goal.at.slice_bounds-augment_row-end c).In-Some).ends (λ v. 2 * v))

pub augment_row-requires-clause-place : goal.augment_row-requires-clause-place
augment_row-requires-clause-place c = omega (arith, (at_row (goal.at.augment_row-requires-clause-place c).In-Some).below, (at_row (goal.at.augment_row-requires-clause-place c).In-Some).size, c.requires.fits)

pub loop-i-preserved : goal.loop-i-preserved
loop-i-preserved c =
    let m = c.args.layer in
    let i = c.in-Some.i in
    let w = m.width in
    let row = c.in-Some.row.now in
    let t = at_row (goal.at.loop-i-preserved c).In-Some in
    let n = length_push c.loop-i.yielded (c.in-Some.i, c.in-Some.row) in
    let long : length c.augment_row.new.to ≡ 2 * length row = omega (arith, t.ends (λ v. 2 * v), simp (length-take, length-drop) at c.augment_row.auto.to) in
    subst (λ v. (k : ℕ) → k < length (c.loop-i.yielded ++ (c.in-Some.i, c.in-Some.row) ∷ []) →
    row_at (2 * w) (put_mid (i * (2 * v)) (i * (2 * v) + 2 * v - i * (2 * v)) c.loop-i.work c.augment_row.new.to) k ≡ row_at w m.words.now k + 2 ^ (64 * w) * 2 ^ k) (sym t.size)
    (λ k h. put_more (2 * w) m.height i _ c.loop-i.work c.augment_row.new.to (λ j. row_at w m.words.now j + 2 ^ (64 * w) * 2 ^ j) t.below (omega arith) (omega (arith, long, t.size)) (omega arith)
    (λ j l. c.loop-i.invariant j (omega (arith, t.turn))) (c.augment_row.ensures ∙ ap₂ (λ x v. x + 2 ^ (64 * v) * 2 ^ i) (ap value t.words) t.size) k (omega (arith, t.turn, n)))

pub returns : goal.returns
returns c =
    let e = numbered_end c.args.layer.width c.args.layer.height c.args.layer.words.now c.into_iter-i-iterator.result c.loop-i.i-iterator c.next.new.self c.loop-i.yielded _ (cc) (cc) c.loop-i.yielded_by c.next.ensures.steps c.in-None.is in
    λ k h. c.loop-i.invariant k (omega (arith, e))
