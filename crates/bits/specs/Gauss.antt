-- What elimination keeps. A matrix in memory is the function of its rows, each a number.
use Rattle.std.specs.Prelude.{◌≡◌, ℕ, ◌*◌, ◌^◌, ◌<◌, ◌≤◌, List, take, drop, Ok, Err, Result, bit_xor}
use Rattle.bits.specs.Gf2.{Inverse, Witness, dot, flat, inverse_of, rows, value}
use Rattle.bits.specs.declared.elimination.Singular.{Singular}

-- bit j is the lowest one of x
pub record Lowest (x j : ℕ) : Type 0 where
  pub one : dot (2 ^ j) x ≡ 1
  pub below : (i : ℕ) → i < j → dot (2 ^ i) x ≡ 0

-- s, less r where s and p share an odd number of ones; p is mostly one bit, 2^j
unfoldable pub clear : ℕ → ℕ → ℕ → ℕ
unfolding dot
clear p r s = bit_xor s (dot p s * r)

-- row k of words, w words a row
abbrev pub row_at : ℕ → List ℕ → ℕ → ℕ
row_at w ws k = value (take w (drop (k * w) ws))

-- the n rows of f send z to zero
abbrev pub Kills : ℕ → (ℕ → ℕ) → ℕ → Type 0
Kills n f z = (k : ℕ) → k < n → dot (f k) z ≡ 0

abbrev pub SameKernel : ℕ → (ℕ → ℕ) → (ℕ → ℕ) → Type 0
SameKernel n f g = (z : ℕ) → (Kills n f z → Kills n g z) × (Kills n g z → Kills n f z)

-- the first c columns are the identity's
abbrev pub Solved : ℕ → ℕ → (ℕ → ℕ) → Type 0
Solved n c f = (k j : ℕ) → k < n → j < c → dot (2 ^ j) (f k) ≡ dot (2 ^ j) (2 ^ k)

-- no row from c on has bit c
abbrev pub Missing : ℕ → ℕ → (ℕ → ℕ) → Type 0
Missing n c f = (k : ℕ) → c ≤ k → k < n → dot (2 ^ c) (f k) ≡ 0

-- each row has at most m bits
abbrev pub Narrow : ℕ → ℕ → (ℕ → ℕ) → Type 0
Narrow n m f = (k : ℕ) → k < n → f k < 2 ^ m

-- rows g come from rows f by row operations that lose nothing
pub record Carried (n : ℕ) (f g : ℕ → ℕ) : Type 0 where
  pub kernel : SameKernel n f g
  pub narrow : (m : ℕ) → Narrow n m f → Narrow n m g

-- the inverse is written, and the witness is as it was
pub record Inverted (w n : ℕ) (layer out' wit wit' : List ℕ) : Type 0 where
  pub is : rows w n out' ≡ inverse_of (rows w n layer)
  pub inverse : Inverse (rows w n layer) (rows w n out')
  pub written : out' ≡ flat w (inverse_of (rows w n layer))
  pub kept : wit' ≡ wit

-- the witness is written, and the place for the inverse is as it was
pub record Refused (w n : ℕ) (layer out out' wit' : List ℕ) : Type 0 where
  pub witness : Witness (rows w n layer) (value wit')
  pub kept : out' ≡ out

-- what `invert` leaves
abbrev pub Outcome : ℕ → ℕ → List ℕ → List ℕ → List ℕ → List ℕ → List ℕ → Result Unit Singular → Type 0
Outcome w n layer out out' wit wit' (Ok u) = Inverted w n layer out' wit wit'
Outcome w n layer out out' wit wit' (Err e) = Refused w n layer out out' wit'
