-- A set: its parameters, its layers L, its constants C and its key matrices K. Sets with equal parts are one set.
use Rattle.std.specs.Prelude.{◌≡◌, ℕ, ◌+◌, List, [], ◌∷◌, ◌++◌, map, length}
use Rattle.bits.specs.Gf2.{Below, flat, inverse_of}
use Rattle.cipher.specs.declared.params.Params.{Params}
use Rattle.cipher.specs.Parameters.{Lawful, block_words_of, key_words_of}

pub record Set : Type 0 where
  pub params : Params
  pub layers : List (List ℕ)
  pub constants : List ℕ
  pub keys : List (List ℕ)

-- something holds of each
abbrev pub Each : {A : Type 0} → (A → Type 0) → List A → Type 0
Each P [] = Unit {0}
Each P (x ∷ xs) = P x × Each P xs

-- a matrix of so many rows of so many bits
pub record Matrix (count bits : ℕ) (rows : List ℕ) : Type 0 where
  pub size : length rows ≡ count
  pub narrow : Below bits rows

-- a set within the limits, whose parts have the sizes that its parameters give
pub record LawfulSet (s : Set) : Type 0 where
  pub limits : Lawful s.params
  pub rounds : length s.layers ≡ s.params.r
  pub layers : Each (Matrix s.params.n s.params.n) s.layers
  pub constants : Matrix s.params.r s.params.n s.constants
  pub key_rounds : length s.keys ≡ s.params.r + 1
  pub keys : Each (Matrix s.params.n s.params.k) s.keys

abbrev pub joined : List (List ℕ) → List ℕ
joined [] = []
joined (x ∷ xs) = x ++ joined xs

-- the words of a prepared set: all layers, all constants, all key matrices, all inverses
abbrev pub prepared : Set → List ℕ
prepared s =
    flat (block_words_of s.params) (joined s.layers)
    ++ (flat (block_words_of s.params) s.constants
    ++ (flat (key_words_of s.params) (joined s.keys)
    ++ flat (block_words_of s.params) (joined (map inverse_of s.layers))))
