-- Multiplication triples on a tape: six words each, a0 b0 c0 a1 b1 c1. A word in two shares is the sum of the two.
use Rattle.std.specs.Prelude.{◌≡◌, ℕ, zero, suc, ◌+◌, ◌*◌, ◌/◌, ◌%◌, ◌<◌, Bool, cond, not, List, [], ◌∷◌, length, Ok, Err, Result, ◌==◌, bit_and, bit_xor, nat_lt, slice_index}
use Rattle.bits.specs.Refusals.{fault_at, first_of, then}
use Rattle.bits.specs.declared.refusal.Fault.{Fault}
use Rattle.bits.specs.declared.refusal.Layer.TheVariants.{Engine}
use Rattle.bits.specs.declared.refusal.Refusal.TheVariants.{BadTriples}
use Rattle.engines.specs.declared.share.Triple.{Triple}

-- the triple number j of a tape
abbrev pub triple_of : List ℕ → ℕ → Triple
triple_of t j =
    record {
      a0 = slice_index t (6 * j);
      b0 = slice_index t (6 * j + 1);
      c0 = slice_index t (6 * j + 2);
      a1 = slice_index t (6 * j + 3);
      b1 = slice_index t (6 * j + 4);
      c1 = slice_index t (6 * j + 5);
    }

-- a triple is true: c = a & b
abbrev pub IsTrueTriple : Triple → Type 0
IsTrueTriple t = bit_xor t.c0 t.c1 ≡ bit_and (bit_xor t.a0 t.a1) (bit_xor t.b0 t.b1)

abbrev pub truth : Triple → Bool
truth t = bit_xor t.c0 t.c1 == bit_and (bit_xor t.a0 t.a1) (bit_xor t.b0 t.b1)

-- the first n triples of a tape are true
abbrev pub AllTrue : List ℕ → ℕ → Type 0
AllTrue t n = (j : ℕ) → j < n → IsTrueTriple (triple_of t j)

-- ---- filling

-- the n triples from number j on: the first false one is refused
abbrev pub check_from : List ℕ → ℕ → ℕ → Result Unit Fault
check_from t j zero = Ok tt
check_from t j (suc n) = cond (truth (triple_of t j)) (check_from t (j + 1) n) (Err (fault_at BadTriples Engine j))

-- the answer to a tape: whole triples, at most 393216 words, and each triple true
abbrev pub filling : List ℕ → Result Unit Fault
filling t =
    then
    (first_of
    ((not (length t % 6 == 0), fault_at BadTriples Engine (length t / 6))
    ∷ ((nat_lt 393216 (length t), fault_at BadTriples Engine (length t / 6)) ∷ [])))
    (λ _. check_from t 0 (length t / 6))

-- ---- gates

-- the two shares of a product: with d = x + a and e = y + b, c0 + d b0 + e a0 + d e and c1 + d b1 + e a1
abbrev pub first_share : (d e : ℕ) → Triple → ℕ
first_share d e t = bit_xor (bit_xor (bit_xor t.c0 (bit_and d t.b0)) (bit_and e t.a0)) (bit_and d e)

abbrev pub second_share : (d e : ℕ) → Triple → ℕ
second_share d e t = bit_xor (bit_xor t.c1 (bit_and d t.b1)) (bit_and e t.a1)

abbrev pub shares_of : (x y : ℕ × ℕ) → Triple → ℕ × ℕ
shares_of x y t =
    let d : ℕ = bit_xor (bit_xor x.0 x.1) (bit_xor t.a0 t.a1) in
    let e : ℕ = bit_xor (bit_xor y.0 y.1) (bit_xor t.b0 t.b1) in
    (first_share d e t, second_share d e t)

-- 1 in shares (1, 0) times 1 in shares (0, 1), with the triple 1 0 0 0 1 1, is 1 in shares (0, 1)
abbrev pub WorkedExample : Type 0
WorkedExample = shares_of (1, 0) (0, 1) (record { a0 = 1; b0 = 0; c0 = 0; a1 = 0; b1 = 1; c1 = 1 }) ≡ (0, 1)
