use Rattle.std.proofs.Common.{rules, eqb, ◌≡◌, ◌-◌, ◌*◌, ◌<◌, ◌^◌, length, take, drop, sym, ap₂, ◌∙◌, subst, arith}
use Rattle.std.proofs.lemmas.List.{length_push}
use Rattle.bits.specs.Gf2.{comb, rows, value}
use Rattle.cipher.specs.Instances.{same, times, units}
use Rattle.cipher.specs.Places.{constant_at}
use Rattle.cipher.proofs.Passes.{next_zero}
use Rattle.bits.specs.Matrices.{rows_in}
use Rattle.bits.proofs.RowLoops.{length_row_words, numbered_end, numbered_turn}
use Rattle.cipher.proofs.Sums.{same_end, same_more, same_not}
use Rattle.cipher.proofs.inverse.undoes_in.Goals as goal
use Rattle.cipher.proofs.inverse.undoes_in.Goals.{In-Some}

-- the row of this turn
turn : (c : In-Some) → (length c.loop-j.yielded < c.args.inverse.height) × (c.in-Some.j ≡ length c.loop-j.yielded) × (c.in-Some.row.now ≡ take c.args.inverse.width (drop (length c.loop-j.yielded * c.args.inverse.width) c.args.inverse.words.now))
turn c =
    let m = c.args.inverse in
    numbered_turn m.width m.height m.words.now c.into_iter-j-iterator.result c.loop-j.j-iterator c.next.new.self c.loop-j.yielded _ (cc) (cc) c.loop-j.yielded_by c.next.ensures.steps (c.in-Some.j, c.in-Some.row) c.in-Some.is

pub loop-j-init-derived : goal.loop-j-init-derived
loop-j-init-derived c = let n = length_row_words c.rows.result.width c.rows.result.left c.rows.result.words.now in search (rules, n)

pub row_stands-requires-clause-place : goal.row_stands-requires-clause-place
row_stands-requires-clause-place c =
    let m = c.args.inverse in
    let t = turn (goal.at.row_stands-requires-clause-place c).In-Some in
    omega (arith, t.0, t.1, c.requires.tall)

pub returns-then-not-row_stands : goal.returns-then-not-row_stands
returns-then-not-row_stands c =
    let m = c.args.inverse in
    let t = turn (goal.at.returns-then-not-row_stands c).In-Some in
    let k = length c.loop-j.yielded in
    let w = m.width in
    let ws = m.words.now in
    let L = rows_in c.args.layer in
    let here : c.row_stands.result ≡ eqb (comb L (constant_at w (k * w) ws)) (2 ^ k) = c.row_stands.ensures ∙ ap₂ (λ xs i. eqb (comb L (value xs)) (2 ^ i)) t.2 t.1 in
    same_not w m.height ws L k (k * w) c.row_stands.result _ t.0 here c.if-not-row_stands.true c.loop-j.invariant

pub loop-j-preserved : goal.loop-j-preserved
loop-j-preserved c =
    let m = c.args.inverse in
    let t = turn (goal.at.loop-j-preserved c).In-Some in
    let k = length c.loop-j.yielded in
    let w = m.width in
    let ws = m.words.now in
    let L = rows_in c.args.layer in
    let here : c.row_stands.result ≡ eqb (comb L (constant_at w (k * w) ws)) (2 ^ k) = c.row_stands.ensures ∙ ap₂ (λ xs i. eqb (comb L (value xs)) (2 ^ i)) t.2 t.1 in
    subst (λ n. same (times (rows w (m.height - n) (drop (n * w) ws)) L) (units (2 ^ n) (m.height - n)) ≡ same (times (rows_in m) L) (units 1 m.height))
    (sym (length_push c.loop-j.yielded (c.in-Some.j, c.in-Some.row)))
    (same_more w m.height ws L k (k * w) _ c.row_stands.result _ t.0 (next_zero k w) here c.if-not-row_stands.false c.loop-j.invariant)

pub returns : goal.returns
returns c =
    let m = c.args.inverse in
    let e = numbered_end m.width m.height m.words.now c.into_iter-j-iterator.result c.loop-j.j-iterator c.next.new.self c.loop-j.yielded _ (cc) (cc) c.loop-j.yielded_by c.next.ensures.steps c.in-None.is in
    same_end m.width m.height (length c.loop-j.yielded) (length c.loop-j.yielded * m.width) m.words.now (rows_in c.args.layer) _ e c.loop-j.invariant
