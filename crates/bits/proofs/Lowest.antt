-- The lowest one of a vector in words.
use Rattle.std.proofs.Common.{◌≡◌, ℕ, zero, suc, ◌+◌, ◌*◌, ◌/◌, ◌%◌, ◌^◌, ◌<◌, ◌≤◌, List, get_or, Some, None, sym, refl, ap, ◌∙◌, le_refl, arith}
use native.Mathlib.Decide.{dec_lt}
use lib.Arith.{half_le}
use lib.Count.{trailing_le, count_trailing_zeros, under}
use Rattle.bits.specs.Gf2.{Words, dot, further, lowest_from, lowest_in, lowest_one_of, value}
use Rattle.bits.specs.Gauss.{Lowest}
use Rattle.bits.proofs.Products.{pow_step, dot_zero_r}
use Rattle.bits.proofs.Rank.{dot_double, dot_one, trailing_dot}
use Rattle.bits.proofs.Vectors.{dot_bit}

-- the bit that `lowest_one` finds
pub lowest_found : (ws : List ℕ) (k : ℕ) → Words ws → 0 < get_or ws k 0 → (dot (2 ^ (64 * k + count_trailing_zeros 64 (get_or ws k 0))) (value ws) ≡ 1) × (count_trailing_zeros 64 (get_or ws k 0) < 64)
lowest_found ws k f p =
    let t = trailing_dot 64 (get_or ws k 0) p (f k) in
    (dot_bit ws k (count_trailing_zeros 64 (get_or ws k 0)) t.1 f ∙ t.0, t.1)

-- no digit below the trailing zeros' count is set
pub trailing_clear : (k n j : ℕ) → j < count_trailing_zeros k n → dot (2 ^ j) n ≡ 0
unfolding count_trailing_zeros
trailing_clear zero n j h = absurd (omega arith)
trailing_clear (suc k) n j h = go (n % 2) refl j h (trailing_clear k (n / 2))
  where
    go : (b : ℕ) → n % 2 ≡ b → (j : ℕ) → j < under b (count_trailing_zeros k (n / 2)) → ((i : ℕ) → i < count_trailing_zeros k (n / 2) → dot (2 ^ i) (n / 2) ≡ 0) → dot (2 ^ j) n ≡ 0
    go zero e zero l ih = omega (arith, dot_one n)
    go zero e (suc j) l ih = ap (λ (p : ℕ). dot p n) (pow_step j) ∙ dot_double (2 ^ j) n ∙ ih j (omega arith)
    go (suc b) e j l ih = absurd (omega arith)

-- what `lowest_one` finds is least: word k is its word, and those before are 0
pub lowest_least : (ws : List ℕ) (k : ℕ) → Words ws → ((m : ℕ) → m < k → get_or ws m 0 ≡ 0)
    → (j : ℕ) → j < 64 * k + count_trailing_zeros 64 (get_or ws k 0) → dot (2 ^ j) (value ws) ≡ 0
lowest_least ws k f before j h =
    let e : 64 * (j / 64) + j % 64 ≡ j = omega arith in
    let b = trailing_le 64 (get_or ws k 0) in
    ap (λ (i : ℕ). dot (2 ^ i) (value ws)) (sym e) ∙ dot_bit ws (j / 64) (j % 64) (omega arith) f ∙ elim (dec_lt (j / 64) k) [
      | yes l ↦ ap (dot (2 ^ (j % 64))) (before (j / 64) l) ∙ dot_zero_r (2 ^ (j % 64))
      | no l ↦
          let q : j / 64 ≡ k = omega arith in
          ap (λ (i : ℕ). dot (2 ^ (j % 64)) (get_or ws i 0)) q ∙ trailing_clear 64 (get_or ws k 0) (j % 64) (omega arith)
    ]

-- the lowest one as `lowest_one_of` has it
lowest_in_is : (d n j : ℕ) → n ≤ d → Lowest n j → lowest_in d n ≡ Some j
unfolding lowest_in
lowest_in_is zero n j h l =
    let z : n ≡ 0 = omega arith in
    absurd (omega (arith, l.one, ap (dot (2 ^ j)) z, dot_zero_r (2 ^ j)))
lowest_in_is (suc d) zero j h l = absurd (omega (arith, l.one, dot_zero_r (2 ^ j)))
lowest_in_is (suc d) (suc n) j h l = go (suc n % 2) refl j l (λ i. lowest_in_is d (suc n / 2) i (half_le h))
  where
    go : (b : ℕ) → suc n % 2 ≡ b → (j : ℕ) → Lowest (suc n) j → ((i : ℕ) → Lowest (suc n / 2) i → lowest_in d (suc n / 2) ≡ Some i)
        → lowest_from b (lowest_in d (suc n / 2)) ≡ Some j
    go zero e zero l ih = absurd (omega (arith, l.one, dot_one (suc n)))
    go zero e (suc j) l ih =
        let up : (i : ℕ) → dot (2 ^ suc i) (suc n) ≡ dot (2 ^ i) (suc n / 2) = λ i. ap (λ (p : ℕ). dot p (suc n)) (pow_step i) ∙ dot_double (2 ^ i) (suc n) in
        ap further (ih j (record { one = sym (up j) ∙ l.one; below = λ i s. sym (up i) ∙ l.below (suc i) (omega arith) }))
    go (suc b) e zero l ih = refl
    go (suc b) e (suc j) l ih = absurd (omega (arith, l.below 0 (omega arith), dot_one (suc n)))

pub lowest_some : (n j : ℕ) → Lowest n j → Some j ≡ lowest_one_of n
unfolding lowest_one_of
lowest_some n j l = sym (lowest_in_is n n j (le_refl n) l)

pub lowest_none : (n : ℕ) → n ≡ 0 → None ≡ lowest_one_of n
unfolding lowest_one_of
lowest_none n e = sym (ap lowest_one_of e)
