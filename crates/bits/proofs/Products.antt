-- Parity, dot products and products of a matrix and a vector, one digit at a time.
use Rattle.std.proofs.Common.{◌≡◌, ℕ, zero, suc, ◌+◌, ◌*◌, ◌/◌, ◌%◌, ◌^◌, ◌<◌, ◌≤◌, min, List, [], ◌∷◌, length, sym, refl, ap, ◌∙◌, ap₂, le_refl, not-suc-le-zero, mul_comm, pow-suc, arith}
use native.Mathlib.Decide.{le_ind}
use lib.Arith.{bin_ind, half_le}
use lib.Bits.{bit_and, bit_xor, and_comm, and_shr, and_step, and_zero_r, xor_add_and, xor_shr}
use lib.Count.{ones, ones_step}
use Rattle.bits.specs.Gf2.{parity_in, parity, dot, mul}

pub pow_step : (k : ℕ) → 2 ^ suc k ≡ 2 * 2 ^ k
pow_step k = pow-suc 2 k ∙ mul_comm (2 ^ k) 2

-- parity, one digit at a time
more : (d n : ℕ) → n ≤ d → parity_in (suc d) n ≡ parity_in d n
unfolding parity_in
more zero zero h = refl
more zero (suc n) h = absurd (not-suc-le-zero h)
more (suc d) zero h = refl
more (suc d) (suc n) h = ap (λ (x : ℕ). (suc n % 2 + x) % 2) (more d (suc n / 2) (half_le h))

enough : (d n : ℕ) → n ≤ d → parity_in d n ≡ parity_in n n
enough d n h = le_ind (λ (m : ℕ). parity_in m n ≡ parity_in n n) refl (λ m k e. more m n k ∙ e) d h

pub parity_step : (n : ℕ) → parity n ≡ (n % 2 + parity (n / 2)) % 2
unfolding parity
parity_step zero = refl
parity_step (suc n) = ap (λ (x : ℕ). (suc n % 2 + x) % 2) (enough n (suc n / 2) (half_le (le_refl (suc n))))

pub parity_below : (n : ℕ) → parity n < 2
parity_below n = omega (arith, parity_step n)

pub parity_ones : (n : ℕ) → parity n ≡ ones n % 2
unfolding parity ones
parity_ones = bin_ind (λ (n : ℕ). parity n ≡ ones n % 2) refl (λ n ih. omega (arith, parity_step n, ones_step n))

-- dot, one digit at a time
pub dot_step : (r v : ℕ) → dot r v ≡ (min (r % 2) (v % 2) + dot (r / 2) (v / 2)) % 2
unfolding dot
dot_step r v =
    let s : bit_and r v % 2 ≡ min (r % 2) (v % 2) = omega (arith, and_step r v) in
    let h : bit_and r v / 2 ≡ bit_and (r / 2) (v / 2) = and_shr r v 1 in
    parity_step (bit_and r v) ∙ ap₂ (λ (x y : ℕ). (x + parity y) % 2) s h

pub dot_below : (r v : ℕ) → dot r v < 2
dot_below r v = omega (arith, dot_step r v)

pub dot_comm : (r v : ℕ) → dot r v ≡ dot v r
unfolding dot
dot_comm r v = ap parity (and_comm r v)

pub dot_zero_r : (r : ℕ) → dot r 0 ≡ 0
unfolding dot
dot_zero_r r = ap parity (and_zero_r r)

pub dot_zero_l : (v : ℕ) → dot 0 v ≡ 0
unfolding dot
dot_zero_l v = refl

pub xor_low : (a b : ℕ) → bit_xor a b % 2 ≡ (a + b) % 2
xor_low a b = omega (arith, xor_add_and a b)

pub xor_half : (a b : ℕ) → bit_xor a b / 2 ≡ bit_xor (a / 2) (b / 2)
xor_half a b = xor_shr a b 1

digit_xor : (v p q c d : ℕ) → v < 2 → p < 2 → q < 2 → (min ((p + q) % 2) v + (c + d) % 2) % 2 ≡ ((min p v + c) % 2 + (min q v + d) % 2) % 2
digit_xor zero p q c d hv hp hq = omega arith
digit_xor (suc zero) p q c d hv hp hq =
    let a : min p 1 ≡ p = omega arith in
    let b : min q 1 ≡ q = omega arith in
    let s : min ((p + q) % 2) 1 ≡ (p + q) % 2 = omega arith in
    rw (a, b, s) (omega arith)
digit_xor (suc (suc v)) p q c d hv hp hq = absurd (omega arith)

pub dot_xor : (v a b : ℕ) → dot (bit_xor a b) v ≡ (dot a v + dot b v) % 2
dot_xor =
    bin_ind (λ (v : ℕ). (a b : ℕ) → dot (bit_xor a b) v ≡ (dot a v + dot b v) % 2)
    (λ a b. omega (arith, dot_zero_r (bit_xor a b), dot_zero_r a, dot_zero_r b))
    (λ v ih a b.
    let e : dot (bit_xor a b / 2) (v / 2) ≡ (dot (a / 2) (v / 2) + dot (b / 2) (v / 2)) % 2 = rw (xor_half a b) (ih (a / 2) (b / 2)) in
    let l : bit_xor a b % 2 ≡ (a % 2 + b % 2) % 2 = omega (arith, xor_low a b) in
    dot_step (bit_xor a b) v ∙ ap₂ (λ (x y : ℕ). (min x (v % 2) + y) % 2) l e
    ∙ digit_xor (v % 2) (a % 2) (b % 2) (dot (a / 2) (v / 2)) (dot (b / 2) (v / 2)) (omega arith) (omega arith) (omega arith)
    ∙ sym (ap₂ (λ (x y : ℕ). (x + y) % 2) (dot_step a v) (dot_step b v)))

pub dot_xor_r : (r x y : ℕ) → dot r (bit_xor x y) ≡ (dot r x + dot r y) % 2
dot_xor_r r x y = omega (arith, dot_xor r x y, dot_comm r (bit_xor x y), dot_comm r x, dot_comm r y)

-- a number by its lowest digit and the rest
pub xor_cons : (p q a b : ℕ) → p < 2 → q < 2 → bit_xor (p + 2 * a) (q + 2 * b) ≡ (p + q) % 2 + 2 * bit_xor a b
xor_cons p q a b hp hq =
    let l : bit_xor (p + 2 * a) (q + 2 * b) % 2 ≡ (p + q) % 2 = omega (arith, xor_low (p + 2 * a) (q + 2 * b)) in
    let ea : (p + 2 * a) / 2 ≡ a = omega arith in
    let eb : (q + 2 * b) / 2 ≡ b = omega arith in
    let h : bit_xor (p + 2 * a) (q + 2 * b) / 2 ≡ bit_xor a b = xor_half (p + 2 * a) (q + 2 * b) ∙ ap₂ bit_xor ea eb in
    omega arith

pub mul_xor : (M : List ℕ) (x y : ℕ) → mul M (bit_xor x y) ≡ bit_xor (mul M x) (mul M y)
mul_xor [] x y = refl
mul_xor (r ∷ rs) x y =
    let e = xor_cons (dot r x) (dot r y) (mul rs x) (mul rs y) (dot_below r x) (dot_below r y) in
    omega (arith, e, mul_xor rs x y, dot_xor_r r x y)

pub mul_zero : (M : List ℕ) → mul M 0 ≡ 0
mul_zero [] = refl
mul_zero (r ∷ rs) = omega (arith, mul_zero rs, dot_zero_r r)

pub mul_below : (M : List ℕ) (x : ℕ) → mul M x < 2 ^ length M
mul_below [] x = omega arith
mul_below (r ∷ rs) x = omega (arith, mul_below rs x, dot_below r x, pow_step (length rs))

-- ---- and distributes over xor; and is associative

and_low : (a b : ℕ) → bit_and a b % 2 ≡ min (a % 2) (b % 2)
and_low a b = omega (arith, and_step a b)

same_digits : (a b : ℕ) → a / 2 ≡ b / 2 → a % 2 ≡ b % 2 → a ≡ b
same_digits a b h l = omega arith

digit_and : (p q v : ℕ) → v < 2 → p < 2 → q < 2 → min ((p + q) % 2) v ≡ (min p v + min q v) % 2
digit_and p q zero hv hp hq = omega arith
digit_and p q (suc zero) hv hp hq = omega arith
digit_and p q (suc (suc v)) hv hp hq = absurd (omega arith)

pub and_xor : (v a b : ℕ) → bit_and (bit_xor a b) v ≡ bit_xor (bit_and a v) (bit_and b v)
and_xor =
    bin_ind (λ (v : ℕ). (a b : ℕ) → bit_and (bit_xor a b) v ≡ bit_xor (bit_and a v) (bit_and b v))
    (λ a b. and_zero_r (bit_xor a b) ∙ sym (ap₂ bit_xor (and_zero_r a) (and_zero_r b)))
    (λ v ih a b. same_digits _ _
    (and_shr (bit_xor a b) v 1 ∙ ap (λ (x : ℕ). bit_and x (v / 2)) (xor_half a b) ∙ ih (a / 2) (b / 2)
    ∙ sym (xor_half (bit_and a v) (bit_and b v) ∙ ap₂ bit_xor (and_shr a v 1) (and_shr b v 1)))
    (let l : bit_xor a b % 2 ≡ (a % 2 + b % 2) % 2 = omega (arith, xor_low a b) in
    let r : bit_xor (bit_and a v) (bit_and b v) % 2 ≡ (bit_and a v % 2 + bit_and b v % 2) % 2 = omega (arith, xor_low (bit_and a v) (bit_and b v)) in
    and_low (bit_xor a b) v ∙ ap (λ (x : ℕ). min x (v % 2)) l ∙ digit_and (a % 2) (b % 2) (v % 2) (omega arith) (omega arith) (omega arith)
    ∙ sym (r ∙ ap₂ (λ (x y : ℕ). (x + y) % 2) (and_low a v) (and_low b v))))

min3 : (a b c : ℕ) → min (min a b) c ≡ min a (min b c)
min3 a b c = omega arith

pub and_assoc : (a b c : ℕ) → bit_and (bit_and a b) c ≡ bit_and a (bit_and b c)
and_assoc =
    bin_ind (λ (a : ℕ). (b c : ℕ) → bit_and (bit_and a b) c ≡ bit_and a (bit_and b c)) (λ b c. refl)
    (λ a ih b c. same_digits _ _
    (and_shr (bit_and a b) c 1 ∙ ap (λ (x : ℕ). bit_and x (c / 2)) (and_shr a b 1) ∙ ih (b / 2) (c / 2)
    ∙ sym (and_shr a (bit_and b c) 1 ∙ ap (bit_and (a / 2)) (and_shr b c 1)))
    (and_low (bit_and a b) c ∙ ap (λ (x : ℕ). min x (c % 2)) (and_low a b) ∙ min3 (a % 2) (b % 2) (c % 2)
    ∙ sym (and_low a (bit_and b c) ∙ ap (min (a % 2)) (and_low b c))))
