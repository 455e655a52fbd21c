use Rattle.std.proofs.Common.{◌≡◌, ℕ, ◌-◌, ◌*◌, ◌%◌, ◌^◌, ◌<◌, ◌≤◌, map, length, get_or, set, sym, refl, ap, ◌∙◌, arith, length-set, pow_pos, pow_mono, below_more}
use native.Mathlib.Nat.{zero-mod}
use Rattle.std.proofs.lemmas.Nat.{shl_whole}
use Rattle.bits.specs.Gf2.{comb}
use Rattle.batches.proofs.Packing.{comb_zero, read_map, read_other, read_set, ways_more}
use Rattle.batches.proofs.wires.sum_ways.Goals as goal

pub loop-t-init : goal.loop-t-init
loop-t-init g c s h =
    let m = g.E.Engine.means in
    let ms = map m c.args.from.now in
    let e : s ≡ 0 = omega arith in
    read_set m c.args.sums.now 0 s c.enter.result (omega (arith, c.requires.room, pow_pos c.args.b)) e ∙ c.enter.ensures ∙ zero-mod _ ∙ sym (ap (comb ms) e ∙ comb_zero ms)

-- the number of ways
ways : (b : ℕ) → b ≤ 4 → (1 * 2 ^ b % 2 ^ 64 ≡ 1 * 2 ^ b) × (2 ^ b ≤ 16)
ways b h = (shl_whole 1 1 b 64 (omega arith) (omega arith), pow_mono h)

pub highest-top-requires : goal.highest-top-requires
highest-top-requires g c =
    let n = ways c.args.b c.requires.few in
    (omega arith, omega (arith, n, c.loop-t-test.true))

pub loop-t-preserved : goal.loop-t-preserved
loop-t-preserved g c =
    let m = g.E.Engine.means in
    let ms = map m c.args.from.now in
    let xs = c.loop-t.sums in
    let t = c.loop-t.t in
    let b = c.highest-top.result in
    let h = c.highest-top.ensures in
    let n = ways c.args.b c.requires.few in
    let one = (ways b (omega (arith, h.0))).0 in
    let u : ℕ = t - 1 * 2 ^ b % 2 ^ 64 in
    let e : u ≡ t - 2 ^ b = omega (arith, one) in
    let low : u < t = omega (arith, h.1, e, pow_pos b) in
    let long : t < length xs = omega (arith, n.0, c.loop-t-test.true, c.requires.room, c.loop-t.auto.sums ∙ length-set c.args.sums.now 0 c.enter.result) in
    below_more (λ s. get_or (map m (set xs t c.add.result)) s 0 ≡ comb ms s) t
    (λ s l. read_other m xs t s c.add.result (omega arith) ∙ c.loop-t.invariant s l)
    (read_set m xs t t c.add.result long refl ∙ c.add.ensures
    ∙ ways_more b t u _ _ ms h.1 h.2 e (read_map m xs u _ (omega (arith, low, long)) c.index-sums-t.is ∙ c.loop-t.invariant u low) c.wire_at.ensures)

pub returns : goal.returns
returns g c t h = c.loop-t.invariant t (omega (arith, h, (ways c.args.b c.requires.few).0, c.loop-t-test.false))
