-- The check of a tape, triple by triple.
use Rattle.std.proofs.Common.{◌≡◌, ℕ, zero, suc, ◌+◌, ◌-◌, ◌<◌, ◌≤◌, Bool, true, false, cond, List, Ok, Err, ap, ◌∙◌, arith}
use Rattle.bits.specs.Refusals.{fault_at}
use Rattle.bits.specs.declared.refusal.Layer.TheVariants.{Engine}
use Rattle.bits.specs.declared.refusal.Refusal.TheVariants.{BadTriples}
use Rattle.engines.specs.Triples.{check_from, triple_of, truth}

one_less : (j n : ℕ) → j < n → n - j ≡ suc (n - (j + 1))
one_less j n h = omega arith

-- the check at triple j goes by that triple
at_triple : (t : List ℕ) (j n : ℕ) (b : Bool) → j < n → truth (triple_of t j) ≡ b
    → check_from t j (n - j) ≡ cond b (check_from t (j + 1) (n - (j + 1))) (Err (fault_at BadTriples Engine j))
at_triple t j n b h e =
    ap (check_from t j) (one_less j n h)
    ∙ ap (λ (v : Bool). cond v (check_from t (j + 1) (n - (j + 1))) (Err (fault_at BadTriples Engine j))) e

-- true triples leave it to the rest
pub past_true : (t : List ℕ) (j n : ℕ) → j < n → truth (triple_of t j) ≡ true → check_from t j (n - j) ≡ check_from t (j + 1) (n - (j + 1))
past_true t j n h e = at_triple t j n true h e

all_true : (t : List ℕ) (j n : ℕ) → j ≤ n → ((k : ℕ) → k < j → truth (triple_of t k) ≡ true) → check_from t 0 n ≡ check_from t j (n - j)
all_true t zero n h all = ap (check_from t 0) (omega arith)
all_true t (suc j) n h all =
    all_true t j n (omega arith) (λ k l. all k (omega arith))
    ∙ at_triple t j n true (omega arith) (all j (omega arith))
    ∙ ap (λ i. check_from t i (n - i)) (omega arith)

pub none_false : (t : List ℕ) (n : ℕ) → ((k : ℕ) → k < n → truth (triple_of t k) ≡ true) → check_from t 0 n ≡ Ok tt
none_false t n all = let e : n - n ≡ 0 = omega arith in all_true t n n (omega arith) all ∙ ap (check_from t n) e

-- the first false one is refused
pub first_false : (t : List ℕ) (j n : ℕ) → j < n → ((k : ℕ) → k < j → truth (triple_of t k) ≡ true) → truth (triple_of t j) ≡ false
    → check_from t 0 n ≡ Err (fault_at BadTriples Engine j)
first_false t j n h all e = all_true t j n (omega arith) all ∙ at_triple t j n false h e
