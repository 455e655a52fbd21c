use Rattle.std.proofs.Common.{◌/◌, ◌≡◌, ◌+◌, ◌-◌, ◌*◌, ◌^◌, ◌≤◌, length, take, drop, ◌∙◌, ap, arith, length-drop, length-take, rules, subst}
use Rattle.std.proofs.lemmas.List.{length_push}
use Rattle.bits.specs.Gf2.{value}
use Rattle.bits.specs.Gauss.{row_at}
use Rattle.bits.proofs.RowLoops.{AtRow, length_row_words, numbered_end, numbered_row}
use Rattle.bits.proofs.Memory.{put_more, row_high}
use Rattle.bits.proofs.elimination.write_out.Goals as goal
use Rattle.bits.proofs.elimination.write_out.Goals.{In-Some}

pub loop-i-init-derived : goal.loop-i-init-derived
loop-i-init-derived c = let n = length_row_words c.rows.result.width c.rows.result.left c.rows.result.words.now in search (rules, n)

at_row : (c : In-Some) → AtRow c.args.work.width c.args.work.height c.args.work.words.now (length c.loop-i.yielded) c.in-Some.i c.in-Some.row.now
at_row c = numbered_row _ _ _ c.into_iter-i-iterator.result c.loop-i.i-iterator c.next.new.self c.loop-i.yielded _ (cc) (cc) c.loop-i.yielded_by c.next.ensures.steps (c.in-Some.i, c.in-Some.row) c.in-Some.is c.args.work.fits

pub overflow_mul-i : goal.overflow_mul-i
overflow_mul-i c = omega (arith, (at_row (goal.at.overflow_mul-i c).In-Some).ends (λ _. c.args.w))

pub overflow_mul-i-in-loop-i : goal.overflow_mul-i-in-loop-i
overflow_mul-i-in-loop-i c = omega (arith, (at_row (goal.at.overflow_mul-i-in-loop-i c).In-Some).ends (λ _. c.args.w))

pub overflow_add-i : goal.overflow_add-i
overflow_add-i c = omega (arith, (at_row (goal.at.overflow_add-i c).In-Some).ends (λ _. c.args.w))

pub offset_bounds-out-i : goal.offset_bounds-out-i
offset_bounds-out-i c = omega (arith, (at_row (goal.at.offset_bounds-out-i c).In-Some).ends (λ _. c.args.w))

pub slice_bounds-copy_from_slice-end : goal.slice_bounds-copy_from_slice-end
slice_bounds-copy_from_slice-end c = omega (arith, (at_row (goal.at.slice_bounds-copy_from_slice-end c).In-Some).ends (λ _. c.args.w))

pub slice_bounds-copy_from_slice-count-in-loop-i : goal.slice_bounds-copy_from_slice-count-in-loop-i
slice_bounds-copy_from_slice-count-in-loop-i c = omega (arith, (at_row (goal.at.slice_bounds-copy_from_slice-count-in-loop-i c).In-Some).size)

pub slice_bounds-copy_from_slice-start-in-loop-i : goal.slice_bounds-copy_from_slice-start-in-loop-i
slice_bounds-copy_from_slice-start-in-loop-i c = omega (arith, (at_row (goal.at.slice_bounds-copy_from_slice-start-in-loop-i c).In-Some).size)

pub copy_from_slice-requires : goal.copy_from_slice-requires
copy_from_slice-requires c = simp (length-take, length-drop) (omega (arith, (at_row (goal.at.copy_from_slice-requires c).In-Some).size, (at_row (goal.at.copy_from_slice-requires c).In-Some).ends (λ _. c.args.w), c.requires.halves, c.requires.room))

pub loop-i-preserved : goal.loop-i-preserved
loop-i-preserved c =
    let m = c.args.work in
    let i = c.in-Some.i in
    let w = c.args.w in
    let ws = m.words.now in
    let t = at_row (goal.at.loop-i-preserved c).In-Some in
    let n = length_push c.loop-i.yielded (c.in-Some.i, c.in-Some.row) in
    let long : length c.copy_from_slice.new.self ≡ w = omega (arith, t.ends (λ _. w), simp (length-take, length-drop) at c.copy_from_slice.auto.self) in
    let here : c.in-Some.row.now ≡ take (2 * w) (drop (i * (2 * w)) ws) = t.words ∙ ap (λ v. take v (drop (i * v) ws)) c.requires.halves in
    let fits : i * (2 * w) + 2 * w ≤ length ws = subst (λ v. i * v + v ≤ length ws) c.requires.halves (omega (arith, t.ends (λ _. m.width), m.fits)) in
    let half : value c.copy_from_slice.new.self ≡ row_at (2 * w) ws i / 2 ^ (64 * w) =
    ap value (c.copy_from_slice.ensures.after ∙ ap (λ xs. take (length xs - w) (drop w xs)) here)
    ∙ row_high w i ws m.typed fits in
    λ k h. put_more w m.height i _ c.loop-i.out c.copy_from_slice.new.self (λ j. row_at (2 * w) ws j / 2 ^ (64 * w)) t.below (omega arith) long (omega arith)
    (λ j l. c.loop-i.invariant j (omega (arith, t.turn))) half k (omega (arith, t.turn, n))

pub returns : goal.returns
returns c =
    let e = numbered_end c.args.work.width c.args.work.height c.args.work.words.now c.into_iter-i-iterator.result c.loop-i.i-iterator c.next.new.self c.loop-i.yielded _ (cc) (cc) c.loop-i.yielded_by c.next.ensures.steps c.in-None.is in
    λ k h. c.loop-i.invariant k (omega (arith, e))
