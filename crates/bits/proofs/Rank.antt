-- Sums of rows, and what taking one row out of the others keeps.
use Rattle.std.proofs.Common.{◌≡◌, ℕ, zero, suc, ◌+◌, ◌*◌, ◌/◌, ◌%◌, ◌^◌, ◌<◌, min, List, [], ◌∷◌, map, length, sym, refl, ap, ◌∙◌, subst, ap₂, inl, inr, add_comm, one-mul, mul-zero, zero-mul, div-one, add-one, arith, pow_pos}
use Rattle.std.proofs.lemmas.Nat.{shr-shr}
use lib.Count.{count_trailing_zeros, under}
use lib.Bits.{bit_xor, xor_self, xor_zero_r, xor_assoc, xor_comm, xor_lt}
use lib.ListN.{length-map}
use Rattle.bits.specs.Gf2.{Below, Collapses, Independent, Inverse, comb, dot, inverse_of, mul}
use Rattle.bits.specs.Gauss.{clear}
use Rattle.bits.proofs.Products.{pow_step, dot_step, dot_below, dot_comm, dot_zero_l, dot_zero_r, dot_xor, dot_xor_r, xor_low, xor_half}
use Rattle.bits.proofs.Finite.{onto, Injective}
use Rattle.bits.proofs.Inverse.{xor_same, Linear, collapses_or_inverse}

-- ---- digits

pub dot_double : (p x : ℕ) → dot (2 * p) x ≡ dot p (x / 2)
dot_double p x =
    let e : 2 * p / 2 ≡ p = omega arith in
    let m : 2 * p % 2 ≡ 0 = omega arith in
    omega (arith, dot_step (2 * p) x, ap (λ (q : ℕ). dot q (x / 2)) e, dot_below p (x / 2))

pub dot_one : (x : ℕ) → dot 1 x ≡ x % 2
dot_one x = omega (arith, dot_step 1 x, dot_zero_l (x / 2))

-- only 0 has the dot product 0 with every vector
pub dot_all : (n x : ℕ) → x < 2 ^ n → ((w : ℕ) → w < 2 ^ n → dot w x ≡ 0) → x ≡ 0
dot_all zero x h f = omega arith
dot_all (suc n) x h f =
    let e : x / 2 ≡ 0 = dot_all n (x / 2) (omega (arith, pow_step n)) (λ w l. sym (dot_double w x) ∙ f (2 * w) (omega (arith, pow_step n))) in
    omega (arith, e, dot_one x, f 1 (omega (arith, pow_step n, pow_pos n)))

-- ---- bits times rows

scale_xor : (a b r : ℕ) → a < 2 → b < 2 → bit_xor (a * r) (b * r) ≡ (a + b) % 2 * r
scale_xor zero zero r ha hb = simp zero-mul
scale_xor zero (suc zero) r ha hb = simp (zero-mul, one-mul)
scale_xor (suc zero) zero r ha hb = simp (zero-mul, one-mul) (xor_zero_r r)
scale_xor (suc zero) (suc zero) r ha hb = simp (zero-mul, one-mul) (xor_self r)
scale_xor zero (suc (suc b)) r ha hb = absurd (omega arith)
scale_xor (suc zero) (suc (suc b)) r ha hb = absurd (omega arith)
scale_xor (suc (suc a)) b r ha hb = absurd (omega arith)

-- a linear function passes a bit
linear_zero : (t : ℕ → ℕ) → Linear t → t 0 ≡ 0
linear_zero t l = l 0 0 ∙ xor_self (t 0)

linear_scale : (t : ℕ → ℕ) → Linear t → (b x : ℕ) → b < 2 → t (b * x) ≡ b * t x
linear_scale t l zero x h = ap t (zero-mul x) ∙ linear_zero t l ∙ sym (zero-mul (t x))
linear_scale t l (suc zero) x h = ap t (one-mul x) ∙ sym (one-mul (t x))
linear_scale t l (suc (suc b)) x h = absurd (omega arith)

pub dot_scale : (b r v : ℕ) → b < 2 → dot (b * r) v ≡ min b (dot r v)
dot_scale zero r v h = ap (λ (x : ℕ). dot x v) (zero-mul r) ∙ omega (arith, dot_zero_l v)
dot_scale (suc zero) r v h = ap (λ (x : ℕ). dot x v) (one-mul r) ∙ omega (arith, dot_below r v)
dot_scale (suc (suc b)) r v h = absurd (omega arith)

xor_swap : (a b c d : ℕ) → bit_xor (bit_xor a b) (bit_xor c d) ≡ bit_xor (bit_xor a c) (bit_xor b d)
xor_swap a b c d =
    xor_assoc a b (bit_xor c d) ∙ ap (bit_xor a) (sym (xor_assoc b c d) ∙ ap (λ (x : ℕ). bit_xor x d) (xor_comm b c) ∙ xor_assoc c b d)
    ∙ sym (xor_assoc a c (bit_xor b d))

-- ---- sums of rows

pub comb_map : (t : ℕ → ℕ) → Linear t → (rs : List ℕ) (y : ℕ) → comb (map t rs) y ≡ t (comb rs y)
comb_map t l [] y = sym (linear_zero t l)
comb_map t l (r ∷ rs) y =
    ap₂ bit_xor (sym (linear_scale t l (y % 2) r (omega arith))) (comb_map t l rs (y / 2)) ∙ sym (l (y % 2 * r) (comb rs (y / 2)))

pub comb_zero : (rs : List ℕ) → comb rs 0 ≡ 0
comb_zero [] = refl
comb_zero (r ∷ rs) = ap₂ bit_xor (zero-mul r) (comb_zero rs)

pub comb_xor : (rs : List ℕ) → Linear (comb rs)
comb_xor [] x y = refl
comb_xor (r ∷ rs) x y =
    let e : bit_xor x y % 2 ≡ (x % 2 + y % 2) % 2 = omega (arith, xor_low x y) in
    ap₂ bit_xor (ap (λ (b : ℕ). b * r) e ∙ sym (scale_xor (x % 2) (y % 2) r (omega arith) (omega arith)))
    (ap (comb rs) (xor_half x y) ∙ comb_xor rs (x / 2) (y / 2))
    ∙ xor_swap (x % 2 * r) (y % 2 * r) (comb rs (x / 2)) (comb rs (y / 2))

-- the transpose
pub adjoint : (rs : List ℕ) (y v : ℕ) → dot (comb rs y) v ≡ dot y (mul rs v)
adjoint [] y v = dot_zero_l v ∙ sym (dot_zero_r y)
adjoint (r ∷ rs) y v =
    let m : (dot r v + 2 * mul rs v) % 2 ≡ dot r v = omega (arith, dot_below r v) in
    let h : (dot r v + 2 * mul rs v) / 2 ≡ mul rs v = omega (arith, dot_below r v) in
    dot_xor v (y % 2 * r) (comb rs (y / 2)) ∙ ap₂ (λ (p q : ℕ). (p + q) % 2) (dot_scale (y % 2) r v (omega arith)) (adjoint rs (y / 2) v)
    ∙ sym (dot_step y (dot r v + 2 * mul rs v) ∙ ap₂ (λ (p q : ℕ). (min (y % 2) p + dot (y / 2) q) % 2) m h)

-- ---- one step of elimination: r, whose dot product with p is 1, is taken out of the rows below

clear_linear : (p r : ℕ) → Linear (clear p r)
unfolding clear
clear_linear p r x y =
    ap (λ (b : ℕ). bit_xor (bit_xor x y) (b * r)) (dot_xor_r p x y)
    ∙ ap (bit_xor (bit_xor x y)) (sym (scale_xor (dot p x) (dot p y) r (dot_below p x) (dot_below p y)))
    ∙ xor_swap x y (dot p x * r) (dot p y * r)

clear_self : (p r : ℕ) → dot p r ≡ 1 → clear p r r ≡ 0
unfolding clear
clear_self p r e = ap (λ (b : ℕ). bit_xor r (b * r)) e ∙ ap (bit_xor r) (one-mul r) ∙ xor_self r

pub cleared_on : (p r : ℕ) (rs : List ℕ) → Independent (r ∷ rs) → Independent (map (clear p r) rs)
unfolding clear
cleared_on p r rs i z h e =
    let c : ℕ = dot p (comb rs z) in
    let l : z < 2 ^ length rs = subst (λ (k : ℕ). z < 2 ^ k) (length-map rs (clear p r)) h in
    let b : c < 2 = dot_below p (comb rs z) in
    let m : (c + 2 * z) % 2 ≡ c = omega arith in
    let d : (c + 2 * z) / 2 ≡ z = omega arith in
    let w : comb rs z ≡ c * r = xor_same (comb rs z) (c * r) (sym (comb_map (clear p r) (clear_linear p r) rs z) ∙ e) in
    let k : c + 2 * z ≡ 0 = i (c + 2 * z) (omega (arith, pow_step (length rs)))
    (ap₂ (λ (u v : ℕ). bit_xor (u * r) (comb rs v)) m d ∙ ap (bit_xor (c * r)) w ∙ xor_self (c * r)) in
    omega arith

pub cleared_back : (p r : ℕ) (rs : List ℕ) → dot p r ≡ 1 → Independent (map (clear p r) rs) → Independent (r ∷ rs)
cleared_back p r rs o i y h e =
    let same : y % 2 * r ≡ comb rs (y / 2) = xor_same (y % 2 * r) (comb rs (y / 2)) e in
    let lin : Linear (clear p r) = clear_linear p r in
    let zer : comb (map (clear p r) rs) (y / 2) ≡ 0 =
    comb_map (clear p r) lin rs (y / 2) ∙ ap (clear p r) (sym same) ∙ linear_scale (clear p r) lin (y % 2) r (omega arith)
    ∙ ap (λ (q : ℕ). y % 2 * q) (clear_self p r o) ∙ mul-zero (y % 2) in
    let hi : y / 2 ≡ 0 = i (y / 2) (subst (λ (k : ℕ). y / 2 < 2 ^ k) (sym (length-map rs (clear p r))) (omega (arith, pow_step (length rs)))) zer in
    let none : y % 2 * r ≡ 0 = same ∙ ap (comb rs) hi ∙ comb_zero rs in
    let bit : min (y % 2) (dot r p) ≡ 0 = sym (dot_scale (y % 2) r p (omega arith)) ∙ ap (λ (q : ℕ). dot q p) none ∙ dot_zero_l p in
    omega (arith, dot_comm p r)

pub no_zero_row : (rs : List ℕ) → Independent (0 ∷ rs) → ⊥
no_zero_row rs i = omega (arith, i 1 (omega (arith, pow_step (length rs), pow_pos (length rs))) (comb_zero rs))

-- ---- a square matrix with independent rows has an inverse

pub scale_below : (k b r : ℕ) → b < 2 → r < 2 ^ k → b * r < 2 ^ k
scale_below k zero r hb hr = omega (arith, pow_pos k)
scale_below k (suc zero) r hb hr = omega arith
scale_below k (suc (suc b)) r hb hr = absurd (omega arith)

pub comb_below : (k : ℕ) (rs : List ℕ) → Below k rs → (y : ℕ) → comb rs y < 2 ^ k
comb_below k [] b y = pow_pos k
comb_below k (r ∷ rs) b y = xor_lt k (y % 2 * r) (comb rs (y / 2)) (scale_below k (y % 2) r (omega arith) b.0) (comb_below k rs b.1 (y / 2))

linear_injective : (t : ℕ → ℕ) → Linear t → (n : ℕ) → ((x : ℕ) → x < 2 ^ n → t x ≡ 0 → x ≡ 0) → Injective (2 ^ n) t
linear_injective t l n f x y hx hy e =
    xor_same x y (f (bit_xor x y) (xor_lt n x y hx hy) (l x y ∙ ap (λ (w : ℕ). bit_xor w (t y)) e ∙ xor_self (t y)))

pub independent_inverse : (L : List ℕ) → Below (length L) L → Independent L → Inverse L (inverse_of L)
independent_inverse L b i = elim (collapses_or_inverse L) [ inr s ↦ s | inl k ↦ absurd (clash k) ]
  where
    reach : (w : ℕ) → w < 2 ^ length L → (y : ℕ) × (y < 2 ^ length L) × (comb L y ≡ w)
    reach = onto (2 ^ length L) (comb L) (λ y h. comb_below (length L) L b y) (linear_injective (comb L) (comb_xor L) (length L) i)

    clash : Collapses L → ⊥
    clash k =
        let z : k.0 ≡ 0 = dot_all (length L) k.0 k.1.small (λ w h. ap (λ (u : ℕ). dot u k.0) (sym (reach w h).2) ∙ adjoint L (reach w h).0 k.0
        ∙ ap (dot (reach w h).0) k.1.sent ∙ dot_zero_r (reach w h).0) in
        omega (arith, k.1.some)

pub inverse_independent : (L N : List ℕ) → Inverse L N → Independent L
inverse_independent L N v y h e =
    dot_all (length L) y h (λ w l. dot_comm w y ∙ ap (dot y) (sym (v.right w l)) ∙ sym (adjoint L y (mul N w))
    ∙ ap (λ (u : ℕ). dot u (mul N w)) e ∙ dot_zero_l (mul N w))

-- ---- the product of two matrices: its rows are sums of the second's rows

pub mul_mul : (A B : List ℕ) (x : ℕ) → mul (map (comb B) A) x ≡ mul A (mul B x)
mul_mul [] B x = refl
mul_mul (a ∷ az) B x = ap₂ (λ (p q : ℕ). p + 2 * q) (adjoint B a x) (mul_mul az B x)

pub dot_power : (j x : ℕ) → dot (2 ^ j) x ≡ x / 2 ^ j % 2
dot_power zero x = dot_one x ∙ ap (λ (y : ℕ). y % 2) (sym (div-one x))
dot_power (suc j) x =
    ap (λ (p : ℕ). dot p x) (pow_step j) ∙ dot_double (2 ^ j) x ∙ dot_power j (x / 2)
    ∙ ap (λ (y : ℕ). y % 2) (shr-shr x 1 j ∙ ap (λ (k : ℕ). x / 2 ^ k) (add_comm 1 j ∙ add-one j))

pub trailing_dot : (k n : ℕ) → 0 < n → n < 2 ^ k → (dot (2 ^ count_trailing_zeros k n) n ≡ 1) × (count_trailing_zeros k n < k)
unfolding count_trailing_zeros
trailing_dot zero n p h = absurd (omega arith)
trailing_dot (suc k) n p h = go (n % 2) refl (λ q. trailing_dot k (n / 2) q (omega (arith, pow_step k)))
  where
    go : (b : ℕ) → n % 2 ≡ b → (0 < n / 2 → (dot (2 ^ count_trailing_zeros k (n / 2)) (n / 2) ≡ 1) × (count_trailing_zeros k (n / 2) < k))
        → (dot (2 ^ under b (count_trailing_zeros k (n / 2))) n ≡ 1) × (under b (count_trailing_zeros k (n / 2)) < suc k)
    go zero e ih =
        let t = ih (omega arith) in
        (ap (λ (p : ℕ). dot p n) (pow_step (count_trailing_zeros k (n / 2))) ∙ dot_double (2 ^ count_trailing_zeros k (n / 2)) n ∙ t.0, omega (arith, t.1))
    go (suc b) e ih = (omega (arith, dot_one n), omega arith)
