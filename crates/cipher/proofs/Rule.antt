-- The rule of the published sets, over the whole table at once.
use Rattle.std.proofs.Common.{◌≡◌, ℕ, ◌-◌, true, false, cond, eqb, List, [], ◌∷◌, Some, refl, eqb-true}
use Rattle.cipher.specs.declared.row.Published.{Published}
use Rattle.cipher.specs.Parameters.{gates_of}
use Rattle.cipher.specs.Published.{Rule, Ruled, all_published_keep, entries, keeps, nth_of, row_of}
use Rattle.cipher.proofs.Limits.{both, lawful_facts}

rule : (e : Published) → keeps e ≡ true → Rule e
rule e h =
    let a = both _ _ h in
    record { counted = eqb-true e.gates (gates_of e.params) a.0; within = lawful_facts e.params a.1 }

nth_ruled : (es : List Published) → all_published_keep es ≡ true → (i : ℕ) → Ruled (nth_of es i)
nth_ruled [] h i = tt
nth_ruled (e ∷ es) h i =
    let a = both _ _ h in
    elim (eqb i 0) as (λ v. Ruled (cond v (Some e) (nth_of es (i - 1)))) [ true ↦ rule e a.0 | false ↦ nth_ruled es a.1 (i - 1) ]

-- one computation for all rows
pub all_keep : all_published_keep entries ≡ true
all_keep = refl

pub row_ruled : (i : ℕ) → Ruled (row_of i)
row_ruled = nth_ruled entries all_keep
