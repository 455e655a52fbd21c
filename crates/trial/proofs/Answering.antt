-- Why the answer is what the set of the file gives.
use Rattle.std.proofs.Common.{◌≡◌, ℕ, List, ◌++◌, length, take, drop, Ok, Some, Result, ap, ap₂, ◌∙◌}
use Rattle.std.proofs.lemmas.List.{take_at}
use Rattle.bits.specs.declared.refusal.Fault.{Fault}
use Rattle.bits.specs.Gf2.{value, words_of}
use Rattle.cipher.specs.declared.params.Params.{Params}
use Rattle.cipher.specs.Parameters.{block_words_of}
use Rattle.cipher.specs.Sets.{Set}
use Rattle.cipher.specs.Instances.{set_in}
use Rattle.cipher.specs.Blocks.{Held, block_after}

-- an accepted call on what is held leaves what the cipher gives; the key and the block are the lists k and b
pub after : (f : Set → ℕ → ℕ → ℕ) (p : Params) (ws k b : List ℕ) {held : Held} {answer : Result Unit Fault} {key block block' : List ℕ}
    → block' ≡ block_after f held answer key block → held ≡ Some (p, ws) → answer ≡ Ok tt → key ≡ k → block ≡ b
    → block' ≡ words_of (block_words_of p) (f (set_in p ws) (value k) (value b))
after f p ws k b {answer = answer} {key = key} {block = block} e h a ek eb =
    e
    ∙ ap (λ (x : Held). block_after f x answer key block) h
    ∙ ap (λ (x : Result Unit Fault). block_after f (Some (p, ws)) x key block) a
    ∙ ap₂ (λ (x y : List ℕ). words_of (block_words_of p) (f (set_in p ws) (value x) (value y))) ek eb

-- what was written over the whole of a vector is what it has
pub written : (old new : List ℕ) → length new ≡ length old → take (length old) (new ++ drop (length new) old) ≡ new
written old new e = take_at new (drop (length new) old) (length old) e
