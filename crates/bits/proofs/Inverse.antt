-- The matrix of a linear function, and that a square matrix collapses or has an inverse.
use Rattle.std.proofs.Common.{◌≡◌, ℕ, zero, suc, ◌+◌, ◌*◌, ◌/◌, ◌%◌, ◌^◌, ◌<◌, ◌≤◌, min, Bool, true, false, cond, eqb, List, length, sym, refl, ap, ◌∙◌, subst, ap₂, inl, inr, mod-lt, mod-eq_of_lt, zero-add, arith, pow_pos, eq-eqb, eqb-true}
use native.Mathlib.Nat.{min-zero}
use native.Mathlib.Decide.{ℕ_discrete}
use lib.Bits.{bit_xor, xor_self, xor_zero_r, xor_assoc, xor_mod, xor_lt}
use Rattle.bits.specs.Gf2.{Below, CollapsesOrInverse, Inverse, NotBoth, OneSideIsBoth, dot, inverse_of, matrix_of, mul, row_of, seek, solve}
use Rattle.bits.proofs.Products.{pow_step, dot_step, dot_zero_l, xor_cons, xor_low, xor_half, mul_xor, mul_zero, mul_below}
use Rattle.bits.proofs.Finite.{searched, onto, other_side, Injective}

-- ---- the matrix of a linear function

pub xor_double : (x y : ℕ) → bit_xor (2 * x) (2 * y) ≡ 2 * bit_xor x y
xor_double x y =
    let ex : 0 + 2 * x ≡ 2 * x = zero-add (2 * x) in
    let ey : 0 + 2 * y ≡ 2 * y = zero-add (2 * y) in
    ap₂ bit_xor (sym ex) (sym ey) ∙ xor_cons 0 0 x y (omega arith) (omega arith) ∙ zero-add (2 * bit_xor x y)

abbrev Functional : (ℕ → ℕ) → Type 0
Functional φ = (x y : ℕ) → φ (bit_xor x y) ≡ (φ x + φ y) % 2

by_bit : (φ : ℕ → ℕ) → Functional φ → (b : ℕ) → b < 2 → φ b ≡ min (φ 1) b
by_bit φ l zero h = omega (arith, l 0 0)
by_bit φ l (suc zero) h = omega (arith, l 1 0)
by_bit φ l (suc (suc b)) h = absurd (omega arith)

pub low_first : (x : ℕ) → bit_xor (x % 2) (2 * (x / 2)) ≡ x
low_first x =
    let ex : 0 + 2 * (x / 2) ≡ 2 * (x / 2) = zero-add (2 * (x / 2)) in
    let e : x % 2 + 2 * 0 ≡ x % 2 = omega arith in
    ap₂ bit_xor (sym e) (sym ex) ∙ xor_cons (x % 2) 0 0 (x / 2) (omega arith) (omega arith) ∙ omega arith

row_more : (φ : ℕ → ℕ) → Functional φ → (r x : ℕ) → dot r (x / 2) ≡ φ (2 * (x / 2)) → dot (φ 1 + 2 * r) x ≡ φ x
row_more φ l r x ih =
    let b : φ 1 < 2 = omega (arith, l 1 0) in
    let e : (φ 1 + 2 * r) / 2 ≡ r = omega arith in
    let m : (φ 1 + 2 * r) % 2 ≡ φ 1 = omega arith in
    dot_step (φ 1 + 2 * r) x ∙ ap₂ (λ (p q : ℕ). (min p (x % 2) + dot q (x / 2)) % 2) m e
    ∙ ap₂ (λ (p q : ℕ). (p + q) % 2) (sym (by_bit φ l (x % 2) (omega arith))) ih
    ∙ sym (l (x % 2) (2 * (x / 2))) ∙ ap φ (low_first x)

pub row_dot : (n : ℕ) (φ : ℕ → ℕ) → Functional φ → (x : ℕ) → x < 2 ^ n → dot (row_of φ n) x ≡ φ x
unfolding row_of
row_dot zero φ l x h =
    let e : x ≡ 0 = omega arith in
    rw e (dot_zero_l 0 ∙ sym (by_bit φ l 0 (omega arith) ∙ min-zero (φ 1)))
row_dot (suc n) φ l x h =
    let ih = row_dot n (λ y. φ (2 * y)) (λ a b. ap φ (sym (xor_double a b)) ∙ l (2 * a) (2 * b)) (x / 2) (omega (arith, pow_step n)) in
    row_more φ l (row_of (λ y. φ (2 * y)) n) x ih

row_below : (n : ℕ) (φ : ℕ → ℕ) → Functional φ → row_of φ n < 2 ^ n
unfolding row_of
row_below zero φ l = omega arith
row_below (suc n) φ l =
    let ih = row_below n (λ y. φ (2 * y)) (λ a b. ap φ (sym (xor_double a b)) ∙ l (2 * a) (2 * b)) in
    omega (arith, ih, pow_step n, l 1 0)

abbrev pub Linear : (ℕ → ℕ) → Type 0
Linear g = (x y : ℕ) → g (bit_xor x y) ≡ bit_xor (g x) (g y)

pub mat_mul : (n m : ℕ) (g : ℕ → ℕ) → Linear g → ((x : ℕ) → g x < 2 ^ m) → (x : ℕ) → x < 2 ^ n → mul (matrix_of g n m) x ≡ g x
unfolding matrix_of
mat_mul n zero g l b x h = omega (arith, b x)
mat_mul n (suc m) g l b x h =
    let lo : dot (row_of (λ x. g x % 2) n) x ≡ g x % 2 = row_dot n (λ x. g x % 2) (λ u v. omega (arith, ap (λ (z : ℕ). z % 2) (l u v), xor_low (g u) (g v))) x h in
    let hi : mul (matrix_of (λ x. g x / 2) n m) x ≡ g x / 2 =
    mat_mul n m (λ x. g x / 2) (λ u v. ap (λ (z : ℕ). z / 2) (l u v) ∙ xor_half (g u) (g v)) (λ u. omega (arith, b u, pow_step m)) x h in
    omega (arith, lo, hi)

mat_below : (n m : ℕ) (g : ℕ → ℕ) → Linear g → Below n (matrix_of g n m)
unfolding matrix_of
mat_below n zero g l = tt
mat_below n (suc m) g l = (
  row_below n (λ x. g x % 2) (λ u v. omega (arith, ap (λ (z : ℕ). z % 2) (l u v), xor_low (g u) (g v))),
  mat_below n m (λ x. g x / 2) (λ u v. ap (λ (z : ℕ). z / 2) (l u v) ∙ xor_half (g u) (g v)),
)

pub mat_length : (n m : ℕ) (g : ℕ → ℕ) → length (matrix_of g n m) ≡ m
unfolding matrix_of
mat_length n zero g = refl
mat_length n (suc m) g = ap suc (mat_length n m (λ x. g x / 2))

-- two linear functions that agree at 1, 2, 4, .. agree
pub basis : (n : ℕ) (f g : ℕ → ℕ) → Linear f → Linear g → ((j : ℕ) → j < n → f (2 ^ j) ≡ g (2 ^ j)) → (x : ℕ) → x < 2 ^ n → f x ≡ g x
basis zero f g lf lg h x l = ap f zeroed ∙ lf 0 0 ∙ xor_self (f 0) ∙ sym (ap g zeroed ∙ lg 0 0 ∙ xor_self (g 0))
  where
    zeroed : x ≡ 0
    zeroed = omega arith
basis (suc n) f g lf lg h x l =
    ap f (sym (low_first x)) ∙ lf (x % 2) (2 * (x / 2))
    ∙ ap₂ bit_xor (bit (x % 2) (omega arith))
    (basis n (λ y. f (2 * y)) (λ y. g (2 * y)) (λ a b. ap f (sym (xor_double a b)) ∙ lf (2 * a) (2 * b)) (λ a b. ap g (sym (xor_double a b)) ∙ lg (2 * a) (2 * b))
    (λ j k. ap f (sym (pow_step j)) ∙ h (suc j) (omega arith) ∙ ap g (pow_step j)) (x / 2) (omega (arith, pow_step n)))
    ∙ sym (lg (x % 2) (2 * (x / 2))) ∙ ap g (low_first x)
  where
    bit : (b : ℕ) → b < 2 → f b ≡ g b
    bit zero k = lf 0 0 ∙ xor_self (f 0) ∙ sym (lg 0 0 ∙ xor_self (g 0))
    bit (suc zero) k = h 0 (omega arith)
    bit (suc (suc b)) k = absurd (omega arith)

-- ---- a bounded search finds what there is

pub seek_finds : (f : ℕ → Bool) (d x y : ℕ) → x ≤ y → y < x + d → f y ≡ true → (f (seek f d x) ≡ true) × (seek f d x < x + d)
unfolding seek
seek_finds f zero x y l h t = absurd (omega arith)
seek_finds f (suc d) x y l h t = go (f x) refl (λ k. seek_finds f d (suc x) y k (omega arith) t)
  where
    past : f x ≡ false → suc x ≤ y
    past e = elim (ℕ_discrete y x) [
      | yes q ↦ let z : ◌≡◌ {A = ℕ} 0 1 = cc in absurd (omega arith)
      | no q ↦ omega arith
    ]

    go : (b : Bool) → f x ≡ b → (suc x ≤ y → (f (seek f d (suc x)) ≡ true) × (seek f d (suc x) < suc x + d))
        → (f (cond b x (seek f d (suc x))) ≡ true) × (cond b x (seek f d (suc x)) < x + suc d)
    go true e rest = (e, omega arith)
    go false e rest = let r = rest (past e) in (r.0, omega (arith, r.1))

-- ---- a square matrix collapses or has an inverse

pub xor_same : (x y : ℕ) → bit_xor x y ≡ 0 → x ≡ y
xor_same x y e = sym (xor_zero_r x) ∙ ap (bit_xor x) (sym (xor_self y)) ∙ sym (xor_assoc x y y) ∙ ap (λ (z : ℕ). bit_xor z y) e

sent_to_zero : (L : List ℕ) (x : ℕ) → Dec ((0 < x) × (mul L x ≡ 0))
sent_to_zero L zero = no (λ p. omega arith)
sent_to_zero L (suc x) = elim (ℕ_discrete (mul L (suc x)) 0) [ yes e ↦ yes (omega arith, e) | no e ↦ no (λ p. e p.1) ]

module _ (L : List ℕ) (free : (x : ℕ) → x < 2 ^ length L → (0 < x) × (mul L x ≡ 0) → ⊥) where
  injective : Injective (2 ^ length L) (mul L)
  injective x y hx hy e = xor_same x y (go (bit_xor x y) refl)
    where
      go : (z : ℕ) → bit_xor x y ≡ z → bit_xor x y ≡ 0
      go zero p = p
      go (suc z) p = absurd (free (bit_xor x y) (xor_lt (length L) x y hx hy) (omega arith, mul_xor L x y ∙ ap (λ (w : ℕ). bit_xor w (mul L y)) e ∙ xor_self (mul L y)))

  solved : (y : ℕ) → (mul L (solve L y) ≡ y % 2 ^ length L) × (solve L y < 2 ^ length L)
  unfolding solve
  solved y =
      let n : ℕ = 2 ^ length L in
      let s = onto n (mul L) (λ x h. mul_below L x) injective (y % n) (mod-lt y (pow_pos (length L))) in
      let h : s.0 < n = s.1 in
      let r = seek_finds (λ x. eqb (mul L x) (y % n)) n 0 s.0 (omega arith) (omega arith) (eq-eqb (mul L s.0) (y % n) s.2) in
      (eqb-true (mul L (solve L y)) (y % n) r.0, omega (arith, r.1))

  solve_linear : Linear (solve L)
  solve_linear x y =
      injective (solve L (bit_xor x y)) (bit_xor (solve L x) (solve L y)) (solved (bit_xor x y)).1
      (xor_lt (length L) (solve L x) (solve L y) (solved x).1 (solved y).1)
      ((solved (bit_xor x y)).0 ∙ xor_mod x y (length L) ∙ sym (mul_xor L (solve L x) (solve L y) ∙ ap₂ bit_xor (solved x).0 (solved y).0))

  column : (x : ℕ) → x < 2 ^ length L → mul (inverse_of L) x ≡ solve L x
  unfolding inverse_of
  column = mat_mul (length L) (length L) (solve L) solve_linear (λ x. (solved x).1)

  inverse : Inverse L (inverse_of L)
  unfolding inverse_of
  inverse = record {
    size = mat_length (length L) (length L) (solve L);
    small = mat_below (length L) (length L) (solve L) solve_linear;
    left = λ x h. column (mul L x) (mul_below L x) ∙ injective (solve L (mul L x)) x (solved (mul L x)).1 h ((solved (mul L x)).0 ∙ mod-eq_of_lt (mul_below L x));
    right = λ x h. ap (mul L) (column x h) ∙ (solved x).0 ∙ mod-eq_of_lt h;
  }

pub collapses_or_inverse : CollapsesOrInverse
collapses_or_inverse L = elim (searched (λ x. (0 < x) × (mul L x ≡ 0)) (sent_to_zero L) (2 ^ length L)) [
  | inl s ↦ inl (s.0, record { some = s.2.0; small = s.1; sent = s.2.1 })
  | inr f ↦ inr (inverse L f)
]

pub not_both : NotBoth
not_both L N v k =
    let z : k.0 ≡ 0 = sym (v.left k.0 k.1.small) ∙ ap (mul N) k.1.sent ∙ mul_zero N in
    omega (arith, z, k.1.some)

pub one_side_is_both : OneSideIsBoth
one_side_is_both L M s e =
    other_side (2 ^ length L) (mul L) (mul M) (λ x h. mul_below L x) (λ x h. subst (λ (k : ℕ). mul M x < 2 ^ k) s (mul_below M x)) e
