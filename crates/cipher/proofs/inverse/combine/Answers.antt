use Rattle.std.proofs.Common.{rules, ◌≡◌, ◌-◌, ◌*◌, ◌<◌, ◌/◌, ◌^◌, length, take, drop, sym, refl, ap₂, ◌∙◌, subst, arith}
use Rattle.std.proofs.lemmas.List.{length_push}
use lib.Bits.{bit_xor}
use Rattle.bits.specs.Gf2.{comb, dot, rows, value}
use Rattle.cipher.specs.Places.{constant_at}
use Rattle.cipher.proofs.Passes.{next_zero}
use Rattle.bits.specs.Matrices.{rows_in}
use Rattle.bits.proofs.RowLoops.{length_row_words, numbered_end, numbered_turn, row_length}
use Rattle.bits.proofs.Vectors.{value_cleared}
use Rattle.cipher.proofs.Sums.{comb_end, comb_more, comb_start}
use Rattle.cipher.proofs.inverse.combine.Goals as goal
use Rattle.cipher.proofs.inverse.combine.Goals.{In-Some}

-- the row of this turn
turn : (c : In-Some) → (length c.loop-i.yielded < c.args.m.height) × (c.in-Some.i ≡ length c.loop-i.yielded) × (c.in-Some.row.now ≡ take c.args.m.width (drop (length c.loop-i.yielded * c.args.m.width) c.args.m.words.now))
turn c =
    let m = c.args.m in
    numbered_turn m.width m.height m.words.now c.into_iter-i-iterator.result c.loop-i.i-iterator c.next.new.self c.loop-i.yielded _ (cc) (cc) c.loop-i.yielded_by c.next.ensures.steps (c.in-Some.i, c.in-Some.row) c.in-Some.is

pub loop-i-init-derived : goal.loop-i-init-derived
loop-i-init-derived c = let n = length_row_words c.rows.result.width c.rows.result.left c.rows.result.words.now in search (rules, n)

pub loop-i-init : goal.loop-i-init
loop-i-init c =
    let m = c.args.m in
    comb_start m.width m.height (value c.args.pick.now) (value c.fill.new.self) m.words.now (value_cleared c.fill.new.self (λ k h. c.fill.ensures.clones k 0 (omega (arith, h, c.fill.ensures.len)) refl))

pub add_picked-requires : goal.add_picked-requires
add_picked-requires c =
    let m = c.args.m in
    let t = turn (goal.at.add_picked-requires c).In-Some in
    let size : length c.in-Some.row.now ≡ m.width = row_length m.width m.height m.words.now (length c.loop-i.yielded) c.in-Some.row.now m.fits t.0 t.2 in
    omega (arith, size, c.requires)

pub loop-i-preserved : goal.loop-i-preserved
loop-i-preserved c =
    let m = c.args.m in
    let t = turn (goal.at.loop-i-preserved c).In-Some in
    let k = length c.loop-i.yielded in
    let w = m.width in
    let ws = m.words.now in
    let here : value c.add_picked.new.sum ≡ bit_xor (value c.loop-i.sum) (dot (2 ^ k) (value c.args.pick.now) * constant_at w (k * w) ws) =
    c.add_picked.ensures ∙ ap₂ (λ i xs. bit_xor (value c.loop-i.sum) (dot (2 ^ i) (value c.args.pick.now) * value xs)) t.1 t.2 in
    subst (λ n. bit_xor (value c.add_picked.new.sum) (comb (rows w (m.height - n) (drop (n * w) ws)) (value c.args.pick.now / 2 ^ n)) ≡ comb (rows_in m) (value c.args.pick.now))
    (sym (length_push c.loop-i.yielded (c.in-Some.i, c.in-Some.row)))
    (comb_more w m.height k (k * w) _ (value c.args.pick.now) (value c.loop-i.sum) (value c.add_picked.new.sum) _ ws t.0 (next_zero k w) here c.loop-i.invariant)

pub returns : goal.returns
returns c =
    let m = c.args.m in
    let e = numbered_end m.width m.height m.words.now c.into_iter-i-iterator.result c.loop-i.i-iterator c.next.new.self c.loop-i.yielded _ (cc) (cc) c.loop-i.yielded_by c.next.ensures.steps c.in-None.is in
    comb_end m.width m.height (length c.loop-i.yielded) (length c.loop-i.yielded * m.width) (value c.args.pick.now / 2 ^ length c.loop-i.yielded) (value c.loop-i.sum) _ m.words.now (omega (arith, e)) c.loop-i.invariant
