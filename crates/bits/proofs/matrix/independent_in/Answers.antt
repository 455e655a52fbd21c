use Rattle.std.proofs.Common.{◌≡◌, ℕ, suc, ◌+◌, ◌-◌, ◌*◌, ◌^◌, ◌<◌, map, length, take, drop, sym, ap, ◌∙◌, arith, suc-mul}
use Rattle.bits.specs.Gf2.{rows, value}
use Rattle.bits.specs.Gauss.{clear}
use Rattle.bits.proofs.Vectors.{elim_zero, independent_next}
use Rattle.bits.proofs.matrix.independent_in.Goals as goal

pub returns-in_default-clause-complete : goal.returns-in_default-clause-complete
returns-in_default-clause-complete c p =
    let w = c.args.w in
    let m = c.loop-i.rest.now in
    let more : c.args.count - c.loop-i.i ≡ suc (c.args.count - 1 - c.loop-i.i) = omega arith in
    let z : value (take w m) ≡ 0 = ap value (sym c.split_at_mut-row.ensures.front) ∙ c.in_default.ensures.lowest in
    absurd (elim_zero (value (take w m)) (rows w (c.args.count - 1 - c.loop-i.i) (drop w m)) (rows w (c.args.count - c.loop-i.i) m) z (ap (λ (k : ℕ). rows w k m) more) (c.loop-i.invariant.0.1 p))

pub loop-i-preserved : goal.loop-i-preserved
loop-i-preserved c =
    let i = c.loop-i.i in
    let w = c.args.w in
    let m = c.loop-i.rest.now in
    let r = c.split_at_mut-row.result.0.now in
    let h : i < c.args.count = omega arith in
    let size : length r ≡ w = omega arith in
    let left : (c.args.count - i) * w ≡ w + (c.args.count - (i + 1)) * w =
    ap (λ (k : ℕ). k * w) (omega arith) ∙ suc-mul (c.args.count - (i + 1)) w ∙ omega arith in (
      independent_next w i c.args.count c.in-Some.j m r c.clear_rows.new.rest _ h size c.split_at_mut-row.ensures.front c.in-Some.ensures.lowest.1.one
          (c.clear_rows.ensures ∙ ap (λ xs. map (clear (2 ^ c.in-Some.j) (value r)) (rows (length r) (c.args.count - 1 - i) xs)) c.split_at_mut-row.ensures.back)
          c.loop-i.invariant.0,
      omega (arith, left, c.loop-i.invariant.1),
    )
