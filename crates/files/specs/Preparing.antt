-- Inverting the layers of a file.
use Rattle.std.specs.Prelude.{◌≡◌, ℕ, ◌+◌, ◌<◌, List, [], ◌++◌, drop, Ok, Err, Result, slice_index_or}
use Rattle.bits.specs.declared.elimination.Singular.{Singular}
use Rattle.bits.specs.declared.refusal.Refusal.TheVariants.{LayerCollapses}
use Rattle.bits.specs.declared.refusal.Layer.TheVariants.{Set as SetLayer}
use Rattle.bits.specs.declared.refusal.Fault.{Fault}
use Rattle.bits.specs.Refusals.{fault_at}
use Rattle.bits.specs.Gf2.{Witness, flat, inverse_of, value, words_of}
use Rattle.cipher.specs.Sets.{Each}
use Rattle.cipher.specs.Laws.{Invertible}

-- the inverse of L is written, w words a row; or a vector that L sends to zero is
abbrev pub Inverting : ℕ → List ℕ → List ℕ → List ℕ → List ℕ → List ℕ → Result Unit Singular → Type 0
Inverting w L out out' vec vec' (Ok u) = Invertible L × (out' ≡ flat w (inverse_of L)) × (vec' ≡ vec)
Inverting w L out out' vec vec' (Err e) = Witness L (value vec') × (out' ≡ out)

-- four words that hold a witness, with zeros past its own
pub record SmallWitness (L vec : List ℕ) : Type 0 where
  pub vector : ℕ
  pub collapses : Witness L vector
  pub is : vec ≡ words_of 4 vector

abbrev pub Tried : List ℕ → List ℕ → Result Unit Singular → Type 0
Tried L vec' (Ok u) = Invertible L
Tried L vec' (Err e) = SmallWitness L vec'

-- no matrix collapses, and the witness stays; or some matrix does, and its witness is written
pub record Found (Ms : List (List ℕ)) (count : ℕ) (wit wit' : List ℕ) (fault : Fault) : Type 0 where
  pub round : ℕ
  pub vector : ℕ
  pub most : round < count
  pub collapses : Witness (slice_index_or Ms round []) vector
  pub refused : fault ≡ fault_at LayerCollapses SetLayer (round + 1)
  pub written : wit' ≡ words_of 4 vector ++ drop 4 wit

abbrev pub Checked : List (List ℕ) → ℕ → List ℕ → List ℕ → Result Unit Fault → Type 0
Checked Ms count wit wit' (Ok u) = Each Invertible Ms × (wit' ≡ wit)
Checked Ms count wit wit' (Err e) = Found Ms count wit wit' e
