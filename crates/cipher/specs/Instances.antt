-- A prepared set in words: the set that it holds, the checks of opening, and what an instance holds.
use Rattle.std.specs.Prelude.{ℕ, zero, suc, ◌+◌, ◌-◌, ◌*◌, ◌^◌, min, Bool, true, false, cond, ◌&&◌, List, [], ◌∷◌, ◌++◌, map, length, drop, Some, None, Ok, Err, Option, Result, ◌==◌, nat_lt}
use Rattle.bits.specs.declared.refusal.Refusal.TheVariants.{NotInverse, StrayBit, TooFewWords}
use Rattle.bits.specs.declared.refusal.Layer.{Layer}
use Rattle.bits.specs.declared.refusal.Layer.TheVariants.{Set as SetLayer}
use Rattle.bits.specs.declared.refusal.Fault.{Fault}
use Rattle.bits.specs.Refusals.{fault_at, first_of, then}
use Rattle.bits.specs.Gf2.{comb, rows}
use Rattle.cipher.specs.declared.params.Params.{Params}
use Rattle.cipher.specs.Parameters.{block_words_of, key_words_of, layer_words, limits, prepared_words_of}
use Rattle.cipher.specs.Sets.{Set}

-- ---- the set

-- r matrices of n rows of w words, one after another
abbrev pub matrices_in : ℕ → ℕ → ℕ → List ℕ → List (List ℕ)
matrices_in w n zero ws = []
matrices_in w n (suc r) ws = rows w n ws ∷ matrices_in w n r (drop (n * w) ws)

-- where the constants, the key matrices and the inverses begin
abbrev pub constants_place : Params → ℕ
constants_place p = layer_words p

abbrev pub keys_place : Params → ℕ
keys_place p = constants_place p + p.r * block_words_of p

abbrev pub inverses_place : Params → ℕ
inverses_place p = keys_place p + (p.r + 1) * (p.n * key_words_of p)

abbrev pub set_in : Params → List ℕ → Set
set_in p ws = record {
  params = p;
  layers = matrices_in (block_words_of p) p.n p.r ws;
  constants = rows (block_words_of p) p.r (drop (constants_place p) ws);
  keys = matrices_in (key_words_of p) p.n (p.r + 1) (drop (keys_place p) ws);
}

abbrev pub inverses_in : Params → List ℕ → List (List ℕ)
inverses_in p ws = matrices_in (block_words_of p) p.n p.r (drop (inverses_place p) ws)

-- ---- stray bits

-- w words of a row of so many bits: a word has 64 of them, the last what is left
abbrev pub row_limits : ℕ → ℕ → List ℕ
row_limits zero bits = []
row_limits (suc w) bits = 2 ^ min 64 bits ∷ row_limits w (bits - 64)

abbrev pub many_limits : ℕ → ℕ → ℕ → List ℕ
many_limits w bits zero = []
many_limits w bits (suc count) = row_limits w bits ++ many_limits w bits count

-- layers and constants, key matrices, inverses
abbrev pub word_limits : Params → List ℕ
word_limits p =
    many_limits (block_words_of p) p.n (p.r * p.n + p.r)
    ++ (many_limits (key_words_of p) p.k ((p.r + 1) * p.n) ++ many_limits (block_words_of p) p.n (p.r * p.n))

-- the first word, counted from i on, that is not below its limit
abbrev pub first_stray_of : ℕ → List ℕ → List ℕ → Option ℕ
first_stray_of i [] ws = None
first_stray_of i (l ∷ ls) [] = None
first_stray_of i (l ∷ ls) (x ∷ ws) = cond (nat_lt x l) (first_stray_of (suc i) ls ws) (Some i)

abbrev pub stray_at : Layer → Option ℕ → Result Unit Fault
stray_at layer None = Ok tt
stray_at layer (Some i) = Err (fault_at StrayBit layer i)

-- ---- inverses

-- the product of two matrices: row i is the sum of L's rows that row i of M picks
abbrev pub times : List ℕ → List ℕ → List ℕ
times M L = map (comb L) M

-- the rows p, 2 p, 4 p, ..: from 1, the identity of n rows
abbrev pub units : ℕ → ℕ → List ℕ
units p zero = []
units p (suc n) = p ∷ units (2 * p) n

abbrev pub same : List ℕ → List ℕ → Bool
same [] [] = true
same [] (y ∷ ys) = false
same (x ∷ xs) [] = false
same (x ∷ xs) (y ∷ ys) = x == y && same xs ys

-- the first round, counted from i on, whose M times L is not the identity
abbrev pub first_wrong_of : ℕ → ℕ → List (List ℕ) → List (List ℕ) → Option ℕ
first_wrong_of n i [] Ls = None
first_wrong_of n i (M ∷ Ms) [] = None
first_wrong_of n i (M ∷ Ms) (L ∷ Ls) = cond (same (times M L) (units 1 n)) (first_wrong_of n (suc i) Ms Ls) (Some i)

abbrev pub wrong_at : Option ℕ → Result Unit Fault
wrong_at None = Ok tt
wrong_at (Some i) = Err (fault_at NotInverse SetLayer i)

-- ---- opening: the limits, the room, stray bits, inverses
abbrev pub opening : Params → List ℕ → Result Unit Fault
opening p ws =
    then (limits p) (λ _.
    then (first_of ((nat_lt (length ws) (prepared_words_of p), fault_at TooFewWords SetLayer (prepared_words_of p)) ∷ [])) (λ _.
    then (stray_at SetLayer (first_stray_of 0 (word_limits p) ws)) (λ _. wrong_at (first_wrong_of p.n 1 (inverses_in p ws) (set_in p ws).layers))))
