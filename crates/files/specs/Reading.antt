-- Reading a set from a file: the checks in their order, and what is left in memory.
use Rattle.std.specs.Prelude.{◌≡◌, ℕ, ◌-◌, ◌≤◌, not, ◌&&◌, List, [], ◌∷◌, ◌++◌, length, drop, Ok, Err, Result, ◌==◌, nat_lt, slice_index, slice_index_or}
use Rattle.bits.specs.declared.refusal.Refusal.TheVariants.{LayerCollapses, TooFewWords, Truncated, WrongMark}
use Rattle.bits.specs.declared.refusal.Layer.TheVariants.{File, Set as SetLayer}
use Rattle.bits.specs.declared.refusal.Fault.{Fault}
use Rattle.bits.specs.Refusals.{fault_at, first_of, then}
use Rattle.bits.specs.Gf2.{Witness, words_of}
use Rattle.cipher.specs.declared.params.Params.{Params}
use Rattle.cipher.specs.Parameters.{limits, prepared_words_of}
use Rattle.cipher.specs.Sets.{Each, LawfulSet, Set, prepared}
use Rattle.cipher.specs.Instances.{opening, set_in}
use Rattle.cipher.specs.Laws.{Clash, Invertible}
use Rattle.files.specs.declared.reader.Mark.TheVariants.{Header}
use Rattle.files.specs.Format.{file_of, first, second, set_of}
use Rattle.files.specs.Faults.{judged, layers_due}
use Rattle.files.specs.Steps.{params_at}

-- the header: whole, its mark, its parameters
abbrev pub header : List ℕ → Result Params Fault
header file =
    then (first_of (
    (nat_lt (length file) 8, fault_at Truncated File (length file))
    ∷ (not (slice_index file 0 == first Header && slice_index file 1 == second Header), fault_at WrongMark File 0)
    ∷ [])) (λ _. then (limits (params_at file 2)) (λ _. Ok (params_at file 2)))

-- room for the prepared words, then for a witness
abbrev pub room : Params → ℕ → ℕ → Result Unit Fault
room p words witness =
    first_of (
    (nat_lt words (prepared_words_of p), fault_at TooFewWords SetLayer (prepared_words_of p))
    ∷ (nat_lt witness 4, fault_at TooFewWords SetLayer 4)
    ∷ [])

-- what is due in a file after its header
abbrev pub judged_all : List ℕ → Params → Result Unit Fault
judged_all file p = judged file 8 (layers_due p 1 p.r)

-- every check but the last, which is that no layer collapses
abbrev pub passed : List ℕ → ℕ → ℕ → Result Params Fault
passed file words witness = then (header file) (λ p. then (room p words witness) (λ _. then (judged_all file p) (λ _. Ok p)))

-- what reading leaves: the memory before is `words` and `wit`, after it `words'` and `wit'`
abbrev pub Unchanged : List ℕ → List ℕ → List ℕ → List ℕ → Type 0
Unchanged words wit words' wit' = (words' ≡ words) × (wit' ≡ wit)

pub record Prepared (s : Set) (words wit words' wit' : List ℕ) : Type 0 where
  pub inverses : Each Invertible s.layers
  pub written : words' ≡ prepared s ++ drop (prepared_words_of s.params) words
  pub witness : wit' ≡ wit

-- some layer collapses: the round and the vector are not fixed, but for what stands here
pub record Collapsed (s : Set) (words wit words' wit' : List ℕ) (fault : Fault) : Type 0 where
  pub round : ℕ
  pub vector : ℕ
  pub least : 1 ≤ round
  pub most : round ≤ s.params.r
  pub collapses : Witness (slice_index_or s.layers (round - 1) []) vector
  pub refused : fault ≡ fault_at LayerCollapses SetLayer round
  pub written : wit' ≡ words_of 4 vector ++ drop 4 wit
  pub words_stay : words' ≡ words

-- the answer and all memory, by what the earlier checks say
abbrev pub ReadAfter : List ℕ → List ℕ → List ℕ → List ℕ → List ℕ → Result Params Fault → Result Params Fault → Type 0
ReadAfter file words wit words' wit' (Err e) answer = (answer ≡ Err e) × Unchanged words wit words' wit'
ReadAfter file words wit words' wit' (Ok p) (Ok q) = (q ≡ p) × Prepared (set_of p file) words wit words' wit'
ReadAfter file words wit words' wit' (Ok p) (Err e) = Collapsed (set_of p file) words wit words' wit' e

abbrev pub Read : List ℕ → List ℕ → List ℕ → List ℕ → List ℕ → Result Params Fault → Type 0
Read file words wit words' wit' answer = ReadAfter file words wit words' wit' (passed file (length words) (length wit)) answer

-- ---- the law above these definitions: which files are accepted, in terms of the layout alone

pub record Exact (file words wit words' wit' : List ℕ) (answer : Result Params Fault) : Type 0 where
  -- an accepted file is the file of a lawful set, and the words are that set's
  pub sound : (p : Params) → answer ≡ Ok p → (s : Set) × LawfulSet s × (file_of s ≡ file) × (s.params ≡ p) × Prepared s words wit words' wit'
  -- the file of a lawful set is accepted where there is room and no layer collapses
  pub complete : (s : Set) → LawfulSet s → file_of s ≡ file → prepared_words_of s.params ≤ length words → 4 ≤ length wit → Each Invertible s.layers
      → (answer ≡ Ok s.params) × Prepared s words wit words' wit'

-- ---- what was read opens as an instance, and the words hold the set whose file it is

abbrev pub Opens : (file words' : List ℕ) → Result Params Fault → Type 0
Opens file words' (Ok p) = (opening p words' ≡ Ok tt) × (file_of (set_in p words') ≡ file)
Opens file words' (Err e) = Unit {0}

-- ---- and what the last refusal means: some key gives two different blocks one ciphertext

-- an answer that refuses the file as collapsing
abbrev pub AsCollapsing : Result Params Fault → Type 0
AsCollapsing (Ok p) = ⊥
AsCollapsing (Err e) = e.refusal ≡ LayerCollapses

pub record Clashing (file words wit : List ℕ) (answer : Result Params Fault) : Type 0 where
  pub only : (p : Params) → passed file (length words) (length wit) ≡ Ok p → AsCollapsing answer → Clash (set_of p file)
  pub always : (p : Params) → passed file (length words) (length wit) ≡ Ok p → Clash (set_of p file) → AsCollapsing answer
