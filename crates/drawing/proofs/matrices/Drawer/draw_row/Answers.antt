use Rattle.std.proofs.Common.{◌≡◌, ℕ, ◌+◌, ◌*◌, ◌/◌, ◌%◌, ◌^◌, ◌<◌, List, length, get_or, set, replicate, Some, None, Ok, Err, sym, refl, ap, ◌∙◌, subst, add-zero, mul-le-mul_right, add-one, arith}
use lib.Bits.{bit_or}
use Rattle.std.proofs.lemmas.Nat.{or_lt, shl_whole}
use Rattle.std.proofs.lemmas.Result.{err_from_is_err_and}
use Rattle.bits.specs.declared.refusal.Fault.{Fault}
use Rattle.bits.specs.Gf2.{Words, value, words_of}
use Rattle.bits.proofs.Products.{pow_step}
use Rattle.bits.proofs.Vectors.{value_bit, value_zeros, words_set, words_of_value}
use Rattle.drawing.specs.Drawing.{row}
use Rattle.drawing.proofs.Taking.{drew_stop, row_more, row_none, row_stop, sees_here, sees_more, words_zeros}
use Rattle.drawing.proofs.matrices.Drawer.draw_row.Goals as goal

-- one more bit is put above the others
pub record Put (out : List ℕ) (i b : ℕ) (new : List ℕ) : Type 0 where
  pub words : Words new
  pub below : value new < 2 ^ (i + 1)
  pub is : value new ≡ value out + b * 2 ^ i

put : (out : List ℕ) (i b : ℕ) → i / 64 < length out → Words out → value out < 2 ^ i → b < 2
    → Put out i b (set out (i / 64) (bit_or (get_or out (i / 64) 0) (b * 2 ^ (i % 64) % 2 ^ 64)))
put out i b h f l d =
    let s : b * 2 ^ (i % 64) % 2 ^ 64 ≡ b * 2 ^ (i % 64) = shl_whole b 1 (i % 64) 64 d (omega arith) in
    let new : ℕ → List ℕ = λ x. set out (i / 64) (bit_or (get_or out (i / 64) 0) x) in
    let is : value (new (b * 2 ^ (i % 64) % 2 ^ 64)) ≡ value out + b * 2 ^ i = ap (λ (x : ℕ). value (new x)) s ∙ value_bit out i b h l in
    record {
      words = words_set out (i / 64) _ f (or_lt 64 (get_or out (i / 64) 0) (b * 2 ^ (i % 64) % 2 ^ 64) (f (i / 64)) (omega arith));
      below = omega (arith, is, l, mul-le-mul_right {m = b} {n = 1} (2 ^ i) (omega arith), ap (λ (k : ℕ). 2 ^ k) (add-one i) ∙ pow_step i);
      is = is;
    }

pub loop-i-init : goal.loop-i-init
loop-i-init g c =
    let n : ℕ = length c.args.out.now in
    let z : c.fill.new.self ≡ replicate n 0 = c.fill.ensures.after (λ y e. e) in
    let v : value c.fill.new.self ≡ 0 = ap value z ∙ value_zeros n in (
      subst Words (sym z) (words_zeros n),
      omega (arith, v),
      sym (add-zero c.args.self.now.taken),
      refl,
      λ f s. (row_none f c.args.self.now.taken ∙ sym (ap (λ (x : ℕ). Ok (x, c.args.self.now.taken)) v), s),
    )

pub returns-in_err-draw_bit-clause-drew : goal.returns-in_err-draw_bit-clause-drew
returns-in_err-draw_bit-clause-drew g c f s =
    let q = err_from_is_err_and c.from_residual.result c.from_residual.ensures.1 in
    let at : ℕ = c.loop-i.self.taken in
    let v = c.loop-i.invariant.4 f s in
    let b = c.in_err-draw_bit.ensures.took in
    let p : at + 0 ≡ c.in_err-draw_bit.field-0.0.place = add-zero at ∙ sym (ap (λ (e : Fault). e.place) b.1) in
    drew_stop f (row f c.args.count c.args.self.now.taken) _ _ c.from_residual.result c.draw_bit.new.self.taken c.in_err-draw_bit.field-0.0 q.0 q.1 q.2
    (row_stop f c.loop-i.i c.args.count c.args.self.now.taken (value c.loop-i.out) at c.loop-i-test.true v.0 (sees_here f _ at None v.1 b.0) ∙ ap Err (sym b.1))
    (sees_more f _ _ at 0 c.in_err-draw_bit.field-0.0.place v.1 b.2 p)

pub loop-i-preserved : goal.loop-i-preserved
loop-i-preserved g c =
    let a = c.in_ok-draw_bit.ensures.took in
    let i : ℕ = c.loop-i.i in
    let out : List ℕ = c.loop-i.out in
    let at : ℕ = c.loop-i.self.taken in
    let b : ℕ = c.from.result in
    let same : b ≡ c.in_ok-draw_bit.field-0 = c.from.ensures in
    let w : Put out i b (set out (i / 64) (bit_or (get_or out (i / 64) 0) (b * 2 ^ (i % 64) % 2 ^ 64))) =
    put out i b (omega (arith, c.loop-i-test.true, c.requires.room, c.loop-i.auto.out)) c.loop-i.invariant.0 c.loop-i.invariant.1 (omega (arith, same, a.1)) in (
      w.words,
      w.below,
      omega (arith, a.3, c.loop-i.invariant.2),
      c.in_ok-draw_bit.ensures.same ∙ c.loop-i.invariant.3,
      λ f s.
          let v = c.loop-i.invariant.4 f s in (
            row_more f i c.args.self.now.taken (value out) at c.in_ok-draw_bit.field-0 _ c.draw_bit.new.self.taken v.0 (sees_here f _ at (Some c.in_ok-draw_bit.field-0) v.1 a.0)
                (w.is ∙ ap (λ (x : ℕ). value out + x * 2 ^ i) same) a.3,
            sees_more f _ _ at 1 c.draw_bit.new.self.taken v.1 a.2 (sym a.3),
          ),
    )

pub returns-clause-drew : goal.returns-clause-drew
returns-clause-drew g c f s =
    let e : c.loop-i.i ≡ c.args.count = omega arith in
    let out : List ℕ = c.loop-i.out in
    let v = c.loop-i.invariant.4 f s in (
      value out,
      subst (λ (k : ℕ). row f k c.args.self.now.taken ≡ Ok (value out, c.loop-i.self.taken)) e v.0,
      (
        subst (λ (k : ℕ). value out < 2 ^ k) e c.loop-i.invariant.1,
        sym (words_of_value out c.loop-i.invariant.0) ∙ ap (λ (k : ℕ). words_of k (value out)) (omega arith),
      ),
      v.1,
    )
