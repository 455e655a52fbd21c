-- The steps of `flip` and `substitute`.
use Rattle.std.proofs.Common.{◌≡◌, ℕ, zero, suc, ◌+◌, ◌*◌, ◌/◌, ◌%◌, ◌^◌, ◌<◌, List, length, get_or, set, sym, refl, ap, ◌∙◌, subst, ap₂, add-zero, mul_assoc, mul_comm, zero-add, mul-one, div-one, mul_left_comm, add-one, arith, pow_pos, pow-add, shr-shr}
use lib.Pow.{field}
use lib.Bits.{bit_and, bit_xor, and_lt, xor_assoc, xor_block, xor_lt, xor_self, xor_zero_r}
use Rattle.std.proofs.lemmas.Nat.{shl_whole}
use Rattle.bits.specs.Gf2.{Words, dot, value}
use Rattle.bits.proofs.Products.{dot_below}
use Rattle.bits.proofs.Rank.{dot_power}
use Rattle.bits.proofs.Vectors.{value_set_xor}
use Rattle.cipher.specs.Boxes.{added as added_by, boxes}
use Rattle.cipher.specs.declared.direction.Direction.{Direction}
use Rattle.cipher.specs.declared.direction.Direction.TheVariants.{Encrypt, Decrypt}
use Rattle.cipher.specs.LowMC.{box, each, substitution, unbox, unsubstitution}
use Rattle.cipher.proofs.Substitution.{box_below, eight, unbox_below}

pub flipped : (ws : List ℕ) (j on : ℕ) → j < 64 * length ws → on < 2 → Words ws
    → value (set ws (j / 64) (bit_xor (get_or ws (j / 64) 0) (on * 2 ^ (j % 64) % 2 ^ 64))) ≡ bit_xor (value ws) (on * 2 ^ j)
flipped ws j on h l f =
    let e : 2 ^ (j % 64) * 2 ^ (64 * (j / 64)) ≡ 2 ^ j = let k : j % 64 + 64 * (j / 64) ≡ j = omega arith in sym (pow-add 2 (j % 64) (64 * (j / 64))) ∙ ap (λ (i : ℕ). 2 ^ i) k in
    value_set_xor ws (j / 64) (on * 2 ^ (j % 64) % 2 ^ 64) (omega arith) f (omega arith)
    ∙ ap (λ (x : ℕ). bit_xor (value ws) (x * 2 ^ (64 * (j / 64)))) (shl_whole on 1 (j % 64) 64 l (omega arith))
    ∙ ap (bit_xor (value ws)) (mul_assoc on (2 ^ (j % 64)) (2 ^ (64 * (j / 64))) ∙ ap (λ (x : ℕ). on * x) e)

xor_eight : (p q a b : ℕ) → p < 8 → q < 8 → bit_xor (p + 8 * a) (q + 8 * b) ≡ bit_xor p q + 8 * bit_xor a b
xor_eight p q a b hp hq =
    let ea : p + 8 * a ≡ a * 2 ^ 3 + p = omega arith in
    let eb : q + 8 * b ≡ b * 2 ^ 3 + q = omega arith in
    ap₂ bit_xor ea eb ∙ xor_block 3 a b p q hp hq ∙ omega arith

-- three digits at once
xor_times : (i x y : ℕ) → bit_xor (x * 2 ^ i) (y * 2 ^ i) ≡ bit_xor x y * 2 ^ i
xor_times i x y =
    ap₂ bit_xor (sym (add-zero (x * 2 ^ i))) (sym (add-zero (y * 2 ^ i))) ∙ xor_block i x y 0 0 (pow_pos i) (pow_pos i) ∙ add-zero (bit_xor x y * 2 ^ i)

shifted : (i k x : ℕ) → x * 2 ^ (i + k) ≡ 2 ^ k * x * 2 ^ i
shifted i k x =
    ap (λ (y : ℕ). x * y) (pow-add 2 i k ∙ mul_comm (2 ^ i) (2 ^ k)) ∙ sym (mul_assoc x (2 ^ k) (2 ^ i)) ∙ ap (λ (y : ℕ). y * 2 ^ i) (mul_comm x (2 ^ k))

three : (v i p q r : ℕ) → bit_xor (bit_xor (bit_xor v (p * 2 ^ i)) (q * 2 ^ (i + 1))) (r * 2 ^ (i + 2)) ≡ bit_xor v (bit_xor (bit_xor p (2 * q)) (4 * r) * 2 ^ i)
three v i p q r =
    ap₂ (λ (x y : ℕ). bit_xor (bit_xor (bit_xor v (p * 2 ^ i)) x) y) (shifted i 1 q) (shifted i 2 r)
    ∙ ap (λ (x : ℕ). bit_xor x (4 * r * 2 ^ i)) (xor_assoc v (p * 2 ^ i) (2 * q * 2 ^ i) ∙ ap (bit_xor v) (xor_times i p (2 * q)))
    ∙ xor_assoc v (bit_xor p (2 * q) * 2 ^ i) (4 * r * 2 ^ i) ∙ ap (bit_xor v) (xor_times i (bit_xor p (2 * q)) (4 * r))

-- f on one triple more, where p, q and r are what f adds to its digits
module _ (f : ℕ → ℕ) (within : (t : ℕ) → t < 8 → f t < 8) where
  change : ℕ → ℕ
  change t = bit_xor t (f t)

  changed : (t : ℕ) → bit_xor t (change t) ≡ f t
  unfolding change
  changed t = sym (xor_assoc t t (f t)) ∙ ap (λ (x : ℕ). bit_xor x (f t)) (xor_self t)

  change_below : (t : ℕ) → t < 8 → change t < 8
  unfolding change
  change_below t h = xor_lt 3 t (f t) h (within t h)

  each_suc : (t s : ℕ) → each f (suc t) s ≡ bit_xor (each f t s) (change (each f t s / 2 ^ (3 * t) % 8) * 2 ^ (3 * t))
  unfolding each
  each_suc zero s =
      let p : s % 8 < 8 = omega arith in
      let es : s ≡ s % 8 + 8 * (s / 8) = omega arith in
      let ec : change (s % 8) ≡ change (s % 8) + 8 * 0 = omega arith in
      sym (ap (λ (x : ℕ). bit_xor s (change (x % 8) * 1)) (div-one s) ∙ ap (bit_xor s) (mul-one (change (s % 8)))
      ∙ ap₂ bit_xor es ec ∙ xor_eight (s % 8) (change (s % 8)) (s / 8) 0 p (change_below (s % 8) p)
      ∙ ap₂ (λ (x y : ℕ). x + 8 * y) (changed (s % 8)) (xor_zero_r (s / 8)))
  each_suc (suc t) s =
      let v : ℕ = each f t (s / 8) in
      let b : ℕ = f (s % 8) in
      let hb : b < 8 = within (s % 8) (omega arith) in
      let e : 3 * suc t ≡ 3 + 3 * t = omega arith in
      let h : (b + 8 * v) / 2 ^ (3 * suc t) ≡ v / 2 ^ (3 * t) =
      let r : (b + 8 * v) / 8 ≡ v = omega arith in
      ap (λ (i : ℕ). (b + 8 * v) / 2 ^ i) e ∙ sym (shr-shr (b + 8 * v) 3 (3 * t)) ∙ ap (λ (x : ℕ). x / 2 ^ (3 * t)) r in
      let x : ℕ = change (v / 2 ^ (3 * t) % 8) in
      let g : x * 2 ^ (3 * suc t) ≡ 0 + 8 * (x * 2 ^ (3 * t)) =
      ap (λ (i : ℕ). x * 2 ^ i) e ∙ ap (λ (i : ℕ). x * i) (pow-add 2 3 (3 * t)) ∙ mul_left_comm x 8 (2 ^ (3 * t)) ∙ sym (zero-add (8 * (x * 2 ^ (3 * t)))) in
      ap (λ (y : ℕ). b + 8 * y) (each_suc t (s / 8))
      ∙ ap (λ (y : ℕ). y + 8 * bit_xor v (x * 2 ^ (3 * t))) (sym (xor_zero_r b))
      ∙ sym (ap (λ (y : ℕ). bit_xor (b + 8 * v) (change (y % 8) * 2 ^ (3 * suc t))) h ∙ ap (bit_xor (b + 8 * v)) g ∙ xor_eight b 0 v (x * 2 ^ (3 * t)) hb (omega arith))

  module _ (p q r : ℕ → ℕ → ℕ → ℕ) where
    abbrev added : ℕ → ℕ → ℕ → ℕ
    added a b c = bit_xor (bit_xor (p a b c) (2 * q a b c)) (4 * r a b c)

    each_more : ((t : ℕ) → t < 8 → added (t % 2) (t / 2 % 2) (t / 4) ≡ bit_xor t (f t))
        → (t s v a b c : ℕ) → v ≡ each f t s → a ≡ dot (2 ^ (3 * t)) v → b ≡ dot (2 ^ (3 * t + 1)) v → c ≡ dot (2 ^ (3 * t + 2)) v
        → bit_xor (bit_xor (bit_xor v (p a b c * 2 ^ (3 * t))) (q a b c * 2 ^ (3 * t + 1))) (r a b c * 2 ^ (3 * t + 2)) ≡ each f (t + 1) s
    unfolding change
    each_more is t s v a b c ev ea eb ec =
        let i : ℕ = 3 * t in
        let u : ℕ = v / 2 ^ i in
        let da : a ≡ u % 8 % 2 = ea ∙ dot_power i v ∙ omega arith in
        let db : b ≡ u % 8 / 2 % 2 =
        eb ∙ dot_power (i + 1) v ∙ ap (λ (x : ℕ). x % 2) (sym (shr-shr v i 1)) ∙ let m : u / 2 % 2 ≡ u / 2 % 4 % 2 = omega arith in m ∙ ap (λ (x : ℕ). x % 2) (sym (field u 2 1)) in
        let dc : c ≡ u % 8 / 4 = ec ∙ dot_power (i + 2) v ∙ ap (λ (x : ℕ). x % 2) (sym (shr-shr v i 2)) ∙ sym (field u 1 2) in
        let d : added a b c ≡ change (u % 8) = rw (da, db, dc) (is (u % 8) (omega arith)) in
        three v i (p a b c) (q a b c) (r a b c) ∙ ap (λ (x : ℕ). bit_xor v (x * 2 ^ i)) d
        ∙ rw (ev, add-one) (sym (each_suc t s))

pub substitution_more : (t s v a b c : ℕ) → v ≡ substitution t s → a ≡ dot (2 ^ (3 * t)) v → b ≡ dot (2 ^ (3 * t + 1)) v → c ≡ dot (2 ^ (3 * t + 2)) v
    → bit_xor (bit_xor (bit_xor v (bit_and b c * 2 ^ (3 * t))) (bit_xor a (bit_and a c) * 2 ^ (3 * t + 1))) (bit_xor (bit_xor a b) (bit_and a b) * 2 ^ (3 * t + 2)) ≡ substitution (t + 1) s
unfolding substitution box each
substitution_more = each_more box box_below p q r (eight (λ t. added box box_below p q r (t % 2) (t / 2 % 2) (t / 4) ≡ bit_xor t (box t)) (refl, refl, refl, refl, refl, refl, refl, refl))
  where
    p : ℕ → ℕ → ℕ → ℕ
    p a b c = bit_and b c

    q : ℕ → ℕ → ℕ → ℕ
    q a b c = bit_xor a (bit_and a c)

    r : ℕ → ℕ → ℕ → ℕ
    r a b c = bit_xor (bit_xor a b) (bit_and a b)

pub unsubstitution_more : (t s v a b c : ℕ) → v ≡ unsubstitution t s → a ≡ dot (2 ^ (3 * t)) v → b ≡ dot (2 ^ (3 * t + 1)) v → c ≡ dot (2 ^ (3 * t + 2)) v
    → bit_xor (bit_xor (bit_xor v (bit_xor b (bit_and b c) * 2 ^ (3 * t))) (bit_and a c * 2 ^ (3 * t + 1))) (bit_xor (bit_xor a b) (bit_and a b) * 2 ^ (3 * t + 2)) ≡ unsubstitution (t + 1) s
unfolding unsubstitution unbox each
unsubstitution_more = each_more unbox unbox_below p q r (eight (λ t. added unbox unbox_below p q r (t % 2) (t / 2 % 2) (t / 4) ≡ bit_xor t (unbox t)) (refl, refl, refl, refl, refl, refl, refl, refl))
  where
    p : ℕ → ℕ → ℕ → ℕ
    p a b c = bit_xor b (bit_and b c)

    q : ℕ → ℕ → ℕ → ℕ
    q a b c = bit_and a c

    r : ℕ → ℕ → ℕ → ℕ
    r a b c = bit_xor (bit_xor a b) (bit_and a b)

-- no triple yet
pub substitution_none : (x : ℕ) → x ≡ substitution 0 x
unfolding substitution each
substitution_none x = refl

pub unsubstitution_none : (x : ℕ) → x ≡ unsubstitution 0 x
unfolding unsubstitution each
unsubstitution_none x = refl

-- ---- either way

pub boxes_none : (way : Direction) (x : ℕ) → x ≡ boxes way 0 x
boxes_none Encrypt x = substitution_none x
boxes_none Decrypt x = unsubstitution_none x

-- what is added to a bit is a bit
pub added_digits : (way : Direction) (a b c : ℕ) → a < 2 → b < 2 → c < 2 → ((added_by way a b c).0 < 2) × ((added_by way a b c).1 < 2) × ((added_by way a b c).2 < 2)
added_digits Encrypt a b c ha hb hc = (and_lt 1 b c hb hc, xor_lt 1 a (bit_and a c) ha (and_lt 1 a c ha hc), xor_lt 1 (bit_xor a b) (bit_and a b) (xor_lt 1 a b ha hb) (and_lt 1 a b ha hb))
added_digits Decrypt a b c ha hb hc = (xor_lt 1 b (bit_and b c) hb (and_lt 1 b c hb hc), and_lt 1 a c ha hc, xor_lt 1 (bit_xor a b) (bit_and a b) (xor_lt 1 a b ha hb) (and_lt 1 a b ha hb))

pub boxes_more : (way : Direction) (t s v a b c : ℕ) → v ≡ boxes way t s → a ≡ dot (2 ^ (3 * t)) v → b ≡ dot (2 ^ (3 * t + 1)) v → c ≡ dot (2 ^ (3 * t + 2)) v
    → bit_xor (bit_xor (bit_xor v ((added_by way a b c).0 * 2 ^ (3 * t))) ((added_by way a b c).1 * 2 ^ (3 * t + 1))) ((added_by way a b c).2 * 2 ^ (3 * t + 2)) ≡ boxes way (t + 1) s
boxes_more Encrypt = substitution_more
boxes_more Decrypt = unsubstitution_more

-- the three additions in the code
pub changes_small : (way : Direction) (v i a b c : ℕ) (r : ℕ × ℕ × ℕ) → a ≡ dot (2 ^ i) v → b ≡ dot (2 ^ (i + 1)) v → c ≡ dot (2 ^ (i + 2)) v → r ≡ added_by way a b c → (r.0 < 2) × (r.1 < 2) × (r.2 < 2)
changes_small way v i a b c r ea eb ec er =
    subst (λ (x : ℕ × ℕ × ℕ). (x.0 < 2) × (x.1 < 2) × (x.2 < 2)) (sym er)
    (added_digits way a b c (omega (arith, ea, dot_below (2 ^ i) v)) (omega (arith, eb, dot_below (2 ^ (i + 1)) v)) (omega (arith, ec, dot_below (2 ^ (i + 2)) v)))

pub boxes_step : (way : Direction) (t s v a b c x y z : ℕ) (r : ℕ × ℕ × ℕ) → v ≡ boxes way t s → a ≡ dot (2 ^ (3 * t)) v → b ≡ dot (2 ^ (3 * t + 1)) v → c ≡ dot (2 ^ (3 * t + 2)) v → r ≡ added_by way a b c
    → x ≡ bit_xor v (r.0 * 2 ^ (3 * t)) → y ≡ bit_xor x (r.1 * 2 ^ (3 * t + 1)) → z ≡ bit_xor y (r.2 * 2 ^ (3 * t + 2)) → z ≡ boxes way (t + 1) s
boxes_step way t s v a b c x y z r ev ea eb ec er ex ey ez =
    ez ∙ ap (λ (u : ℕ). bit_xor u (r.2 * 2 ^ (3 * t + 2))) (ey ∙ ap (λ (u : ℕ). bit_xor u (r.1 * 2 ^ (3 * t + 1))) ex)
    ∙ ap (λ (q : ℕ × ℕ × ℕ). bit_xor (bit_xor (bit_xor v (q.0 * 2 ^ (3 * t))) (q.1 * 2 ^ (3 * t + 1))) (q.2 * 2 ^ (3 * t + 2))) er
    ∙ boxes_more way t s v a b c ev ea eb ec
