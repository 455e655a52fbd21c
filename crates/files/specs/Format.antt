-- The set file: how a set is laid out as bytes, and how it is read back.
use Rattle.std.specs.Prelude.{ℕ, zero, suc, ◌+◌, ◌*◌, ◌/◌, ◌%◌, List, [], ◌∷◌, ◌++◌, take, drop}
use Rattle.cipher.specs.declared.params.Params.{Params}
use Rattle.cipher.specs.Sets.{Set, joined}
use Rattle.files.specs.declared.reader.Mark.{Mark}
use Rattle.files.specs.declared.reader.Mark.TheVariants.{Header, Layer, Constant, Key, End}

-- the two letters of a mark: PR, LM, RC, KM, EN
abbrev pub first : Mark → ℕ
first Header = 80
first Layer = 76
first Constant = 82
first Key = 75
first End = 69

abbrev pub second : Mark → ℕ
second Header = 82
second Layer = 77
second Constant = 67
second Key = 77
second End = 78

-- how many bytes hold n bits
abbrev pub byte_width_of : ℕ → ℕ
byte_width_of n = (n + 7) / 8

-- c bytes of a vector, lowest first
abbrev pub bytes_of : ℕ → ℕ → List ℕ
bytes_of zero x = []
bytes_of (suc c) x = x % 256 ∷ bytes_of c (x / 256)

-- the vector that bytes hold
abbrev pub byte_value : List ℕ → ℕ
byte_value [] = 0
byte_value (b ∷ bs) = b + 256 * byte_value bs

-- ---- writing

-- rows of c bytes, one after another
abbrev pub body_of : ℕ → List ℕ → List ℕ
body_of c [] = []
body_of c (x ∷ xs) = bytes_of c x ++ body_of c xs

-- a record for each matrix, numbered from i on
abbrev pub records_of : Mark → ℕ → ℕ → List (List ℕ) → List ℕ
records_of k c i [] = []
records_of k c i (M ∷ Ms) = first k ∷ second k ∷ i ∷ (body_of c M ++ records_of k c (suc i) Ms)

-- each vector as a matrix of one row
abbrev pub single : List ℕ → List (List ℕ)
single [] = []
single (x ∷ xs) = (x ∷ []) ∷ single xs

abbrev pub header_of : Params → List ℕ
header_of p = first Header ∷ second Header ∷ p.n / 256 ∷ p.n % 256 ∷ p.k / 256 ∷ p.k % 256 ∷ p.m ∷ p.r ∷ []

-- the file of a set
abbrev pub file_of : Set → List ℕ
file_of s =
    header_of s.params
    ++ (records_of Layer (byte_width_of s.params.n) 1 s.layers
    ++ (records_of Constant (byte_width_of s.params.n) 1 (single s.constants)
    ++ (records_of Key (byte_width_of s.params.k) 0 s.keys
    ++ first End ∷ second End ∷ [])))

-- ---- reading

-- so many rows of c bytes
abbrev pub byte_rows : ℕ → ℕ → List ℕ → List ℕ
byte_rows c zero bs = []
byte_rows c (suc count) bs = byte_value (take c bs) ∷ byte_rows c count (drop c bs)

-- a record of so many rows of c bytes: mark, number, body
abbrev pub record_size : ℕ → ℕ → ℕ
record_size c count = 3 + count * c

-- the matrices of j records that stand one after another
abbrev pub matrices_of : ℕ → ℕ → ℕ → List ℕ → List (List ℕ)
matrices_of c count zero bs = []
matrices_of c count (suc j) bs = byte_rows c count (drop 3 bs) ∷ matrices_of c count j (drop (record_size c count) bs)

-- where the records of the constants and of the key matrices begin, and where the end mark stands
abbrev pub layers_at : ℕ
layers_at = 8

abbrev pub constants_at : Params → ℕ
constants_at p = layers_at + p.r * record_size (byte_width_of p.n) p.n

abbrev pub keys_at : Params → ℕ
keys_at p = constants_at p + p.r * record_size (byte_width_of p.n) 1

abbrev pub end_at : Params → ℕ
end_at p = keys_at p + (p.r + 1) * record_size (byte_width_of p.k) p.n

-- the set of a file with these parameters
abbrev pub set_of : Params → List ℕ → Set
set_of p file = record {
  params = p;
  layers = matrices_of (byte_width_of p.n) p.n p.r (drop layers_at file);
  constants = joined (matrices_of (byte_width_of p.n) 1 p.r (drop (constants_at p) file));
  keys = matrices_of (byte_width_of p.k) p.n (p.r + 1) (drop (keys_at p) file);
}
