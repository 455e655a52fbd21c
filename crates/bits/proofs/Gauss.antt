-- Digits of vectors, and one step of the elimination, on rows as numbers.
use Rattle.std.proofs.Common.{◌≡◌, ℕ, zero, suc, ◌+◌, ◌-◌, ◌*◌, ◌/◌, ◌%◌, ◌^◌, ◌<◌, ◌≤◌, min, ◌≢◌, List, [], ◌∷◌, length, get_or, MatchOption, None, Some, Option, sym, refl, ap, ◌∙◌, subst, ap₂, mul_comm, arith}
use native.Mathlib.Decide.{ℕ_discrete}
use lib.Bits.{bit_and, bit_xor, and_block, and_lt, xor_lt}
use Rattle.bits.specs.Gf2.{dot, parity, mul}
use Rattle.bits.specs.Gauss.{Carried, Kills, Missing, Solved, clear}
use Rattle.bits.proofs.Products.{pow_step, dot_below, dot_comm, dot_zero_r, dot_xor, dot_xor_r}
use Rattle.bits.proofs.Rank.{dot_one, dot_double, dot_scale, scale_below}
use Rattle.bits.proofs.Vectors.{parity_cat}
use Rattle.bits.proofs.Inverse.{Linear, basis}

-- ---- digits

pub power_other : (j k : ℕ) → j ≢ k → dot (2 ^ j) (2 ^ k) ≡ 0
power_other zero zero d = absurd (d refl)
power_other zero (suc k) d = dot_one (2 ^ suc k) ∙ omega (arith, pow_step k)
power_other (suc j) zero d = ap (λ (p : ℕ). dot p 1) (pow_step j) ∙ dot_double (2 ^ j) 1 ∙ dot_zero_r (2 ^ j)
power_other (suc j) (suc k) d =
    let e : 2 ^ suc k / 2 ≡ 2 ^ k = omega (arith, pow_step k) in
    ap (λ (p : ℕ). dot p (2 ^ suc k)) (pow_step j) ∙ dot_double (2 ^ j) (2 ^ suc k) ∙ ap (dot (2 ^ j)) e ∙ power_other j k (λ q. d (ap suc q))

pub power_same : (k : ℕ) → dot (2 ^ k) (2 ^ k) ≡ 1
power_same zero = dot_one 1
power_same (suc k) =
    let e : 2 ^ suc k / 2 ≡ 2 ^ k = omega (arith, pow_step k) in
    ap (λ (p : ℕ). dot p (2 ^ suc k)) (pow_step k) ∙ dot_double (2 ^ k) (2 ^ suc k) ∙ ap (dot (2 ^ k)) e ∙ power_same k

pub power_past : (k u : ℕ) → u < 2 ^ k → dot (2 ^ k) u ≡ 0
power_past zero u h = dot_one u ∙ omega arith
power_past (suc k) u h = ap (λ (p : ℕ). dot p u) (pow_step k) ∙ dot_double (2 ^ k) u ∙ power_past k (u / 2) (omega (arith, pow_step k))

xor_of_bits : (a b : ℕ) → a < 2 → b < 2 → (a + b) % 2 ≡ bit_xor a b
xor_of_bits zero zero ha hb = refl
xor_of_bits zero (suc zero) ha hb = refl
xor_of_bits (suc zero) zero ha hb = refl
xor_of_bits (suc zero) (suc zero) ha hb = refl
xor_of_bits zero (suc (suc b)) ha hb = absurd (omega arith)
xor_of_bits (suc zero) (suc (suc b)) ha hb = absurd (omega arith)
xor_of_bits (suc (suc a)) b ha hb = absurd (omega arith)

pub dot_linear : (r : ℕ) → Linear (dot r)
dot_linear r x y = dot_xor_r r x y ∙ xor_of_bits (dot r x) (dot r y) (dot_below r x) (dot_below r y)

-- the dot product, cut at digit m
pub dot_cat : (m a b x y : ℕ) → a < 2 ^ m → x < 2 ^ m → dot (a + 2 ^ m * b) (x + 2 ^ m * y) ≡ (dot a x + dot b y) % 2
unfolding dot
dot_cat m a b x y ha hx =
    let ea : a + 2 ^ m * b ≡ b * 2 ^ m + a = omega (arith, mul_comm (2 ^ m) b) in
    let ex : x + 2 ^ m * y ≡ y * 2 ^ m + x = omega (arith, mul_comm (2 ^ m) y) in
    ap₂ (λ (p q : ℕ). parity (bit_and p q)) ea ex ∙ ap parity (and_block m b y a x ha hx)
    ∙ parity_cat m (bit_and b y) (bit_and a x) (and_lt m a x ha hx) ∙ omega arith

-- digit k of a product
pub mul_bit : (rs : List ℕ) (x k : ℕ) → k < length rs → dot (2 ^ k) (mul rs x) ≡ dot (get_or rs k 0) x
mul_bit [] x k h = absurd (omega arith)
mul_bit (r ∷ rs) x zero h = dot_one (dot r x + 2 * mul rs x) ∙ omega (arith, dot_below r x)
mul_bit (r ∷ rs) x (suc k) h =
    let e : (dot r x + 2 * mul rs x) / 2 ≡ mul rs x = omega (arith, dot_below r x) in
    ap (λ (p : ℕ). dot p (dot r x + 2 * mul rs x)) (pow_step k) ∙ dot_double (2 ^ k) (dot r x + 2 * mul rs x) ∙ ap (dot (2 ^ k)) e ∙ mul_bit rs x k (omega arith)

-- and a product from its digits
pub mul_bits : (rs : List ℕ) (x y : ℕ) → y < 2 ^ length rs → ((k : ℕ) → k < length rs → dot (get_or rs k 0) x ≡ dot (2 ^ k) y) → mul rs x ≡ y
mul_bits [] x y h f = omega arith
mul_bits (r ∷ rs) x y h f =
    omega (
      arith,
      f 0 (omega arith),
      dot_one y,
      mul_bits rs x (y / 2) (omega (arith, pow_step (length rs))) (λ k l. f (suc k) (omega arith) ∙ ap (λ (p : ℕ). dot p y) (pow_step k) ∙ dot_double (2 ^ k) y),
    )

-- where the first c columns are the identity's, so are the products with vectors of c digits
pub solved_dot : (n c : ℕ) (f : ℕ → ℕ) → Solved n c f → (k x : ℕ) → k < n → x < 2 ^ c → dot (f k) x ≡ dot (2 ^ k) x
solved_dot n c f s k x h l =
    basis c (dot (f k)) (dot (2 ^ k)) (dot_linear (f k)) (dot_linear (2 ^ k))
    (λ j i. dot_comm (f k) (2 ^ j) ∙ s k j h i ∙ dot_comm (2 ^ j) (2 ^ k)) x l

-- ---- one column: `pivot` is row c, plus row r where row c lacks the digit c; it is taken out of the other rows and stands at c then

pub clear_dot : (p r s z : ℕ) → dot (clear p r s) z ≡ (dot s z + min (dot p s) (dot r z)) % 2
unfolding clear
clear_dot p r s z = dot_xor z s (dot p s * r) ∙ ap (λ (q : ℕ). (dot s z + q) % 2) (dot_scale (dot p s) r z (dot_below p s))

pub clear_below : (m p r s : ℕ) → r < 2 ^ m → s < 2 ^ m → clear p r s < 2 ^ m
unfolding clear
clear_below m p r s hr hs = xor_lt m s (dot p s * r) hs (scale_below m (dot p s) r (dot_below p s) hr)

module _ (n c r pivot : ℕ) (f g : ℕ → ℕ) (cr : c ≤ r) (rn : r < n) (has : dot (2 ^ c) (f r) ≡ 1)
    (is : pivot ≡ bit_xor (f c) ((1 - dot (2 ^ c) (f c)) * f r)) (here : g c ≡ pivot)
    (other : (k : ℕ) → k < n → k ≢ c → g k ≡ clear (2 ^ c) pivot (f k)) where
  pivot_dot : (z : ℕ) → dot pivot z ≡ (dot (f c) z + min (1 - dot (2 ^ c) (f c)) (dot (f r) z)) % 2
  pivot_dot z =
      ap (λ (q : ℕ). dot q z) is ∙ dot_xor z (f c) ((1 - dot (2 ^ c) (f c)) * f r)
      ∙ ap (λ (q : ℕ). (dot (f c) z + q) % 2) (dot_scale (1 - dot (2 ^ c) (f c)) (f r) z (omega arith))

  pivot_has : dot pivot (2 ^ c) ≡ 1
  pivot_has = omega (arith, pivot_dot (2 ^ c), dot_comm (f c) (2 ^ c), dot_comm (f r) (2 ^ c), dot_below (2 ^ c) (f c))

  other_dot : (k z : ℕ) → k < n → k ≢ c → dot (g k) z ≡ (dot (f k) z + min (dot (2 ^ c) (f k)) (dot pivot z)) % 2
  other_dot k z h d = ap (λ (q : ℕ). dot q z) (other k h d) ∙ clear_dot (2 ^ c) pivot (f k) z

  there : (z : ℕ) → Kills n f z → Kills n g z
  there z e k h = elim (ℕ_discrete k c) [
    | yes q ↦ ap (λ (i : ℕ). dot (g i) z) q ∙ ap (λ (i : ℕ). dot i z) here ∙ gone
    | no d ↦ omega (arith, other_dot k z h d, e k h, gone)
  ]
    where
      gone : dot pivot z ≡ 0
      gone = omega (arith, pivot_dot z, e c (omega arith), e r rn)

  back : (z : ℕ) → Kills n g z → Kills n f z
  back z e k h = elim (ℕ_discrete k c) [ yes q ↦ ap (λ (i : ℕ). dot (f i) z) q ∙ at_c (ℕ_discrete r c) | no d ↦ at_other k h d ]
    where
      gone : dot pivot z ≡ 0
      gone = ap (λ (i : ℕ). dot i z) (sym here) ∙ e c (omega arith)

      at_other : (i : ℕ) → i < n → i ≢ c → dot (f i) z ≡ 0
      at_other i l d = omega (arith, other_dot i z l d, e i l, gone, dot_below (f i) z)

      at_c : Dec (r ≡ c) → dot (f c) z ≡ 0
      at_c (yes q) = omega (arith, pivot_dot z, gone, ap (λ (i : ℕ). dot (2 ^ c) (f i)) q, has, dot_below (f c) z)
      at_c (no d) = omega (arith, pivot_dot z, gone, at_other r rn d, dot_below (f c) z)

  pub step_carried : Carried n f g
  step_carried = record {
    kernel = λ z. (there z, back z);
    narrow = λ m s k h.
        let b : pivot < 2 ^ m = subst (λ (q : ℕ). q < 2 ^ m) (sym is) (xor_lt m (f c) _ (s c (omega arith)) (scale_below m (1 - dot (2 ^ c) (f c)) (f r) (omega arith) (s r rn))) in
        elim (ℕ_discrete k c) [
          | yes q ↦ subst (λ (i : ℕ). g i < 2 ^ m) (sym q) (subst (λ (i : ℕ). i < 2 ^ m) (sym here) b)
          | no d ↦ subst (λ (i : ℕ). i < 2 ^ m) (sym (other k h d)) (clear_below m (2 ^ c) pivot (f k) b (s k h))
        ];
  }

  pub step_solved : Solved n c f → Solved n (c + 1) g
  step_solved s k j h l = dot_comm (2 ^ j) (g k) ∙ elim (ℕ_discrete k c) [
    | yes q ↦ ap (λ (i : ℕ). dot (g i) (2 ^ j)) q ∙ ap (λ (i : ℕ). dot i (2 ^ j)) here ∙ column ∙ ap (λ (i : ℕ). dot (2 ^ j) (2 ^ i)) (sym q)
    | no d ↦ other_dot k (2 ^ j) h d ∙ at_other d (ℕ_discrete j c)
  ]
    where
      before : (i : ℕ) → j ≢ c → c ≤ i → i < n → dot (f i) (2 ^ j) ≡ 0
      before i d ci hi = dot_comm (f i) (2 ^ j) ∙ s i j hi (omega arith) ∙ power_other j i (omega arith)

      lacks : j ≢ c → dot pivot (2 ^ j) ≡ 0
      lacks d = omega (arith, pivot_dot (2 ^ j), before c d (omega arith) (omega arith), before r d cr rn)

      column : dot pivot (2 ^ j) ≡ dot (2 ^ j) (2 ^ c)
      column = elim (ℕ_discrete j c) [
        | yes q ↦ ap (λ (i : ℕ). dot pivot (2 ^ i)) q ∙ pivot_has ∙ sym (ap (λ (i : ℕ). dot (2 ^ i) (2 ^ c)) q ∙ power_same c)
        | no d ↦ lacks d ∙ sym (power_other j c d)
      ]

      at_other : k ≢ c → Dec (j ≡ c) → (dot (f k) (2 ^ j) + min (dot (2 ^ c) (f k)) (dot pivot (2 ^ j))) % 2 ≡ dot (2 ^ j) (2 ^ k)
      at_other d (yes q) = omega (
        arith,
        dot_comm (f k) (2 ^ j),
        ap (λ (i : ℕ). dot (2 ^ i) (f k)) q,
        ap (λ (i : ℕ). dot pivot (2 ^ i)) q,
        pivot_has,
        power_other j k (omega arith),
        dot_below (2 ^ c) (f k),
      )
      at_other d (no e) = omega (arith, dot_comm (f k) (2 ^ j), s k j h (omega arith), lacks e, dot_below (2 ^ j) (f k))

pub carried_trans : (n : ℕ) (f g h : ℕ → ℕ) → Carried n f g → Carried n g h → Carried n f h
carried_trans n f g h a b = record {
  kernel = λ z. (λ e. (b.kernel z).0 ((a.kernel z).0 e), λ e. (a.kernel z).1 ((b.kernel z).1 e));
  narrow = λ m s. b.narrow m (a.narrow m s);
}

zero_where_not_one : (b : ℕ) → b < 2 → (b ≡ 1 → ⊥) → b ≡ 0
zero_where_not_one b h never = omega (arith, never)

-- what the search for a row with bit c says
pub found_row : (r : Option ℕ) (c n : ℕ) (f : ℕ → ℕ)
    → MatchOption r ((k : ℕ) → c ≤ k → k < n → dot (2 ^ c) (f k) ≡ 1 → ⊥) (λ i. (c ≤ i) × (i < n) × (dot (2 ^ c) (f i) ≡ 1) × ((k : ℕ) → c ≤ k → k < i → dot (2 ^ c) (f k) ≡ 1 → ⊥))
    → MatchOption r (Missing n c f) (λ k. (c ≤ k) × (k < n) × (dot (2 ^ c) (f k) ≡ 1))
found_row None c n f never = λ k a b. zero_where_not_one (dot (2 ^ c) (f k)) (dot_below (2 ^ c) (f k)) (never k a b)
found_row (Some i) c n f here = (here.0, here.1, here.2)
