use Rattle.std.proofs.Common.{rules, Some, None, ◌≡◌, ◌+◌, ◌-◌, ◌*◌, ◌<◌, ◌≤◌, length, take, drop, sym, ap, ◌∙◌, subst, arith}
use Rattle.std.proofs.lemmas.List.{length_push}
use Rattle.cipher.specs.Instances.{first_stray_of, many_limits}
use Rattle.cipher.proofs.Passes.{next_zero}
use Rattle.bits.proofs.RowLoops.{length_row_words, numbered_end, numbered_turn}
use Rattle.bits.proofs.Vectors.{row_ends}
use Rattle.cipher.proofs.Strays.{row_inside, row_seen, rows_end, rows_here, rows_more}
use Rattle.cipher.proofs.stray.first_in_rows.Goals as goal
use Rattle.cipher.proofs.stray.first_in_rows.Goals.{In-Some, In-Some-first_stray}

-- the row of this turn
turn : (c : In-Some) → (length c.loop-j.yielded < c.args.m.height) × (c.in-Some.j ≡ length c.loop-j.yielded) × (c.in-Some.row.now ≡ take c.args.m.width (drop (length c.loop-j.yielded * c.args.m.width) c.args.m.words.now))
turn c =
    let m = c.args.m in
    numbered_turn m.width m.height m.words.now c.into_iter-j-iterator.result c.loop-j.j-iterator c.next.new.self c.loop-j.yielded _ (cc) (cc) c.loop-j.yielded_by c.next.ensures.steps (c.in-Some.j, c.in-Some.row) c.in-Some.is

-- its words are all there
room : (c : In-Some) → length c.loop-j.yielded * c.args.m.width + c.args.m.width ≤ length c.args.m.words.now
room c =
    let m = c.args.m in
    let t = turn c in
    let ends = row_ends (length c.loop-j.yielded) m.height m.width t.0 in
    omega (arith, ends, m.fits)

-- where the row begins
at : (c : In-Some) → c.in-Some.j * c.args.m.width ≡ length c.loop-j.yielded * c.args.m.width
at c =
    let t = turn c in
    ap (λ i. i * c.args.m.width) t.1

pub loop-j-init-derived : goal.loop-j-init-derived
loop-j-init-derived c = let n = length_row_words c.rows.result.width c.rows.result.left c.rows.result.words.now in search (rules, n)

-- the word found in it is one of the matrix's
inside : (c : In-Some-first_stray) → c.in-Some.j * c.args.m.width + c.in-Some-first_stray.i < length c.args.m.words.now
inside c =
    let here = (goal.at.overflow_mul-result c).In-Some in
    let m = c.args.m in
    let t = turn here in
    let a = length c.loop-j.yielded * m.width in
    let seen = row_seen m.width c.args.bits a m.words.now c.in-Some.row.now _ t.2 c.in-Some-first_stray.ensures in
    omega (arith, at here, room here, row_inside m.width c.args.bits a m.words.now (room here) c.in-Some-first_stray.i seen)

pub overflow_mul-result : goal.overflow_mul-result
overflow_mul-result c = omega (arith, inside c)

pub overflow_add-result : goal.overflow_add-result
overflow_add-result c = omega (arith, inside c)

pub returns-in-Some-first_stray : goal.returns-in-Some-first_stray
returns-in-Some-first_stray c =
    let here = (goal.at.returns-in-Some-first_stray c).In-Some in
    let m = c.args.m in
    let t = turn here in
    let k = length c.loop-j.yielded in
    let a = k * m.width in
    let seen = row_seen m.width c.args.bits a m.words.now c.in-Some.row.now _ t.2 c.in-Some-first_stray.ensures in
    ap (λ i. Some (i + c.in-Some-first_stray.i)) (at here)
    ∙ rows_here m.width c.args.bits a m.words.now (room here) k m.height c.in-Some-first_stray.i _ t.0 seen c.loop-j.invariant

pub loop-j-preserved : goal.loop-j-preserved
loop-j-preserved c =
    let here = (goal.at.loop-j-preserved c).In-Some in
    let m = c.args.m in
    let t = turn here in
    let k = length c.loop-j.yielded in
    let w = m.width in
    let ws = m.words.now in
    let seen = row_seen w c.args.bits (k * w) ws c.in-Some.row.now None t.2 c.in_default.ensures in
    subst (λ n. first_stray_of (n * w) (many_limits w c.args.bits (m.height - n)) (drop (n * w) ws) ≡ first_stray_of 0 (many_limits w c.args.bits m.height) ws)
    (sym (length_push c.loop-j.yielded (c.in-Some.j, c.in-Some.row)))
    (rows_more w c.args.bits (k * w) ws (room here) k m.height _ _ t.0 (next_zero k w) seen c.loop-j.invariant)

pub returns : goal.returns
returns c =
    let m = c.args.m in
    let e = numbered_end m.width m.height m.words.now c.into_iter-j-iterator.result c.loop-j.j-iterator c.next.new.self c.loop-j.yielded _ (cc) (cc) c.loop-j.yielded_by c.next.ensures.steps c.in-None.is in
    rows_end m.width c.args.bits (length c.loop-j.yielded * m.width) m.words.now (length c.loop-j.yielded) m.height _ (omega (arith, e)) c.loop-j.invariant
