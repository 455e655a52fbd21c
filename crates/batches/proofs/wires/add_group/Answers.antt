use Rattle.std.proofs.Common.{subst, ◌≡◌, ℕ, ◌+◌, ◌*◌, ◌/◌, ◌%◌, ◌^◌, ◌<◌, ◌≤◌, map, length, get_or, drop, sym, ap, ◌∙◌, ap₂, mod-lt, arith, pow_pos}
use lib.Bits.{bit_xor}
use Rattle.std.proofs.lemmas.Nat.{shl_whole}
use Rattle.bits.specs.Gauss.{row_at}
use Rattle.bits.specs.Gf2.{Words, value}
use Rattle.bits.proofs.RowLoops.{row_length}
use Rattle.bits.proofs.Vectors.{words_drop, words_take}
use Rattle.batches.proofs.Packing.{group_place, group_step, group_word, read_map, same_past, some_groups}
use Rattle.batches.proofs.wires.add_group.Goals as goal

-- where the group begins
place : (b g : ℕ) → b * (64 / b) ≡ 64 → (64 * (g / (64 / b)) + b * (g % (64 / b)) ≡ b * g) × (b * (g % (64 / b)) + b ≤ 64)
place b g e = group_place b (64 / b) g e (some_groups b (64 / b) e)

pub bounds-row-word : goal.bounds-row-word
bounds-row-word g c =
    let m = c.args.m in
    let size = row_length m.width m.height m.words.now c.loop-i.i c.row.result.now m.fits (omega arith) c.row.ensures in
    omega (arith, size, c.requires.place, place c.args.b c.args.g c.requires.whole.2)

pub overflow_shr-pick : goal.overflow_shr-pick
overflow_shr-pick g c = omega (arith, c.requires.whole.0, place c.args.b c.args.g c.requires.whole.2)

pub loop-i-preserved : goal.loop-i-preserved
loop-i-preserved g c =
    let f = g.E.Engine.means in
    let xs = c.loop-i.to in
    let from = c.args.to.now in
    let sums = c.args.sums.now in
    let m = c.args.m in
    let i = c.loop-i.i in
    let b = c.args.b in
    let k = c.args.g in
    let q = 64 / b in
    let whole = c.requires.whole.2 in
    let p = place b k whole in
    let lt : i < length xs = omega arith in
    let ways : 1 * 2 ^ b % 2 ^ 64 ≡ 2 ^ b = shl_whole 1 1 b 64 (omega arith) (omega (arith, c.requires.whole.1)) ∙ omega arith in
    let row = c.row.result.now in
    let long = row_length m.width m.height m.words.now i row m.fits (omega arith) c.row.ensures in
    let fits : Words row = subst Words (sym c.row.ensures) (words_take m.width (drop (i * m.width) m.words.now) (words_drop (i * m.width) m.words.now m.typed)) in
    let pick : ℕ = get_or row (k / q) 0 / 2 ^ (b * (k % q)) % (1 * 2 ^ b % 2 ^ 64) in
    let is : pick ≡ row_at m.width m.words.now i / 2 ^ (b * k) % 2 ^ b =
    ap (λ n. get_or row (k / q) 0 / 2 ^ (b * (k % q)) % n) ways
    ∙ group_word row b q k fits whole (some_groups b q whole) (omega (arith, long, p, c.requires.place)) ∙ ap (λ ws. value ws / 2 ^ (b * k) % 2 ^ b) c.row.ensures in
    let few : row_at m.width m.words.now i / 2 ^ (b * k) % 2 ^ b < 2 ^ b = mod-lt _ (pow_pos b) in
    group_step f xs from i c.add.result (λ j. bit_xor (get_or (map f from) j 0) (get_or (map f sums) (row_at m.width m.words.now j / 2 ^ (b * k) % 2 ^ b) 0)) lt c.loop-i.invariant.0 c.loop-i.invariant.1
    (c.add.ensures ∙ ap₂ bit_xor (ap f (sym c.index-to-i.is) ∙ same_past f xs from i _ lt c.index-to-i.is c.loop-i.invariant.1)
    (read_map f sums pick _ (omega (arith, is, few, c.requires.room)) c.index-sums-pick.is ∙ ap (λ p. get_or (map f sums) p 0) is))
