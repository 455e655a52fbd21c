-- One block: the checks of a call, and what it leaves.
use Rattle.std.specs.Prelude.{◌≡◌, ℕ, not, List, [], ◌∷◌, length, Some, None, Ok, Err, Option, Result, ◌==◌, nat_lt}
use Rattle.bits.specs.declared.refusal.Refusal.TheVariants.{NoInstance, TooFewWords, WrongLength}
use Rattle.bits.specs.declared.refusal.Layer.TheVariants.{Batch, Set as SetLayer}
use Rattle.bits.specs.declared.refusal.Fault.{Fault}
use Rattle.bits.specs.Refusals.{fault_at, first_of, then}
use Rattle.bits.specs.Gf2.{value, words_of}
use Rattle.cipher.specs.declared.params.Params.{Params}
use Rattle.cipher.specs.Parameters.{block_words_of, key_words_of}
use Rattle.cipher.specs.Sets.{Set}
use Rattle.cipher.specs.Instances.{first_stray_of, row_limits, set_in, stray_at}

-- what an instance holds: parameters and prepared words, or nothing
abbrev pub Held : Type 0
Held = Option (Params × List ℕ)

-- an instance, lengths of key and block, stray bits in key and block, work words
abbrev pub block_checks : Held → List ℕ → List ℕ → ℕ → Result Unit Fault
block_checks None key block work = Err (fault_at NoInstance Batch 0)
block_checks (Some (p, ws)) key block work =
    then (first_of (
    (not (length key == key_words_of p), fault_at WrongLength Batch (key_words_of p))
    ∷ (not (length block == block_words_of p), fault_at WrongLength Batch (block_words_of p))
    ∷ [])) (λ _.
    then (stray_at Batch (first_stray_of 0 (row_limits (key_words_of p) p.k) key)) (λ _.
    then (stray_at Batch (first_stray_of 0 (row_limits (block_words_of p) p.n) block)) (λ _.
    first_of ((nat_lt work 8, fault_at TooFewWords SetLayer 8) ∷ []))))

-- the block after a call, where `f` is the cipher's direction
abbrev pub block_after : (Set → ℕ → ℕ → ℕ) → Held → Result Unit Fault → List ℕ → List ℕ → List ℕ
block_after f None answer key block = block
block_after f (Some (p, ws)) (Ok u) key block = words_of (block_words_of p) (f (set_in p ws) (value key) (value block))
block_after f (Some (p, ws)) (Err e) key block = block

-- the other direction `g` leads back, on every block that was accepted
abbrev pub LeadsBack : (Set → ℕ → ℕ → ℕ) → Held → Result Unit Fault → List ℕ → List ℕ → List ℕ → Type 0
LeadsBack g None answer key block block' = Unit {0}
LeadsBack g (Some (p, ws)) (Ok u) key block block' = g (set_in p ws) (value key) (value block') ≡ value block
LeadsBack g (Some (p, ws)) (Err e) key block block' = Unit {0}
