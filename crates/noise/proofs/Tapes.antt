-- A tape with one triple more.
use Rattle.std.proofs.Common.{◌≡◌, ℕ, ◌+◌, ◌*◌, ◌<◌, List, [], ◌∷◌, ◌++◌, length, slice_index, bit_and, bit_xor, arith, below_more, refl, sym, ap, ap₂, subst, ◌∙◌}
use Rattle.std.proofs.lemmas.List.{get_or_append_left, get_or-append-add}
use native.Mathlib.Numerals.{unary_clauses}
use lib.Bits.{xor_assoc, xor_comm, xor_self, xor_zero_r}
use Rattle.engines.specs.Triples.{AllTrue, IsTrueTriple, triple_of}

-- the words of an earlier triple stay
kept : (t ys : List ℕ) (n k i : ℕ) → length t ≡ 6 * n → k < n → i < 6 → slice_index (t ++ ys) (6 * k + i) ≡ slice_index t (6 * k + i)
kept t ys n k i e h s = get_or_append_left t ys 0 (6 * k + i) (omega arith)

-- those of the last one are the new ones
last : (t ys : List ℕ) (n i : ℕ) → length t ≡ 6 * n → slice_index (t ++ ys) (6 * n + i) ≡ slice_index ys i
last t ys n i e = subst (λ (m : ℕ). slice_index (t ++ ys) (m + i) ≡ slice_index ys i) e (get_or-append-add t ys i 0)

last_first : (t ys : List ℕ) (n : ℕ) → length t ≡ 6 * n → slice_index (t ++ ys) (6 * n) ≡ slice_index ys 0
last_first t ys n e = subst (λ (m : ℕ). slice_index (t ++ ys) m ≡ slice_index ys 0) (simp unary_clauses refl) (last t ys n 0 e)

xor_back : (a b : ℕ) → bit_xor a (bit_xor a b) ≡ b
xor_back a b = sym (xor_assoc a a b) ∙ ap (λ (x : ℕ). bit_xor x b) (xor_self a) ∙ xor_comm 0 b ∙ xor_zero_r b

old : (t ys : List ℕ) (n k : ℕ) → length t ≡ 6 * n → k < n → IsTrueTriple (triple_of t k) → IsTrueTriple (triple_of (t ++ ys) k)
old t ys n k e h is =
    ap₂ bit_xor (kept t ys n k 2 e h (omega arith)) (kept t ys n k 5 e h (omega arith))
    ∙ is
    ∙ sym (ap₂ bit_and
    (ap₂ bit_xor (get_or_append_left t ys 0 (6 * k) (omega arith)) (kept t ys n k 3 e h (omega arith)))
    (ap₂ bit_xor (kept t ys n k 1 e h (omega arith)) (kept t ys n k 4 e h (omega arith))))

new : (t : List ℕ) (n a0 b0 c0 a1 b1 c1 : ℕ) → length t ≡ 6 * n → bit_xor c0 c1 ≡ bit_and (bit_xor a0 a1) (bit_xor b0 b1)
    → IsTrueTriple (triple_of (t ++ a0 ∷ b0 ∷ c0 ∷ a1 ∷ b1 ∷ c1 ∷ []) n)
new t n a0 b0 c0 a1 b1 c1 e is =
    let ys : List ℕ = a0 ∷ b0 ∷ c0 ∷ a1 ∷ b1 ∷ c1 ∷ [] in
    ap₂ bit_xor (last t ys n 2 e) (last t ys n 5 e)
    ∙ is
    ∙ sym (ap₂ bit_and (ap₂ bit_xor (last_first t ys n e) (last t ys n 3 e)) (ap₂ bit_xor (last t ys n 1 e) (last t ys n 4 e)))

pub one_more : (t : List ℕ) (n a0 b0 c0 a1 b1 : ℕ) → length t ≡ 6 * n → AllTrue t n
    → AllTrue (t ++ a0 ∷ b0 ∷ c0 ∷ a1 ∷ b1 ∷ bit_xor c0 (bit_and (bit_xor a0 a1) (bit_xor b0 b1)) ∷ []) (n + 1)
one_more t n a0 b0 c0 a1 b1 e all =
    let c1 : ℕ = bit_xor c0 (bit_and (bit_xor a0 a1) (bit_xor b0 b1)) in
    let ys : List ℕ = a0 ∷ b0 ∷ c0 ∷ a1 ∷ b1 ∷ c1 ∷ [] in
    below_more (λ (k : ℕ). IsTrueTriple (triple_of (t ++ ys) k)) n
    (λ k h. old t ys n k e h (all k h))
    (new t n a0 b0 c0 a1 b1 c1 e (xor_back c0 (bit_and (bit_xor a0 a1) (bit_xor b0 b1))))
