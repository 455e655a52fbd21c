use Rattle.std.proofs.Common.{◌≡◌, length, ◌∙◌, ap, arith, rules, subst}
use Rattle.std.proofs.lemmas.List.{length_push}
use Rattle.bits.specs.Gf2.{value, dot, mul, rows}
use Rattle.bits.proofs.RowLoops.{AtRow, length_row_words, numbered_end, numbered_row}
use Rattle.bits.proofs.Vectors.{product_more, value_zeros}
use Rattle.bits.proofs.matrix.product.Goals as goal
use Rattle.bits.proofs.matrix.product.Goals.{In-Some}

pub loop-i-init-derived : goal.loop-i-init-derived
loop-i-init-derived c =
    let n = length_row_words c.rows.result.width c.rows.result.left c.rows.result.words.now in
    search (rules, n)

pub loop-i-init : goal.loop-i-init
loop-i-init c = ap value (c.fill.ensures.after (λ x e. e)) ∙ value_zeros _

at_row : (c : In-Some) → AtRow c.args.m.width c.args.m.height c.args.m.words.now (length c.loop-i.yielded) c.in-Some.i c.in-Some.row.now
at_row c = numbered_row _ _ _ c.into_iter-i-iterator.result c.loop-i.i-iterator c.next.new.self c.loop-i.yielded _ (cc) (cc) c.loop-i.yielded_by c.next.ensures.steps (c.in-Some.i, c.in-Some.row) c.in-Some.is c.args.m.fits

pub bounds-out-i : goal.bounds-out-i
bounds-out-i c = omega (arith, (at_row (goal.at.bounds-out-i c).In-Some).below)

pub bounds-out-i-in-loop-i : goal.bounds-out-i-in-loop-i
bounds-out-i-in-loop-i c = omega (arith, (at_row (goal.at.bounds-out-i-in-loop-i c).In-Some).below)

pub loop-i-preserved : goal.loop-i-preserved
loop-i-preserved c =
    let m = c.args.m in
    let t = at_row (goal.at.loop-i-preserved c).In-Some in
    rw (length_push c.loop-i.yielded (c.in-Some.i, c.in-Some.row), t.turn)
    (product_more m.words.now c.loop-i.out m.width (length c.loop-i.yielded) (value c.args.v.now) c.parity.result (omega (arith, t.below, t.turn)) c.loop-i.invariant
    (c.parity.ensures ∙ ap (λ xs. dot (value xs) (value c.args.v.now)) (rw t.turn at t.words)))

pub returns : goal.returns
returns c =
    let e = numbered_end c.args.m.width c.args.m.height c.args.m.words.now c.into_iter-i-iterator.result c.loop-i.i-iterator c.next.new.self c.loop-i.yielded _ (cc) (cc) c.loop-i.yielded_by c.next.ensures.steps c.in-None.is in
    subst (λ n. value c.loop-i.out ≡ mul (rows c.args.m.width n c.args.m.words.now) (value c.args.v.now)) e c.loop-i.invariant
