-- Vectors over GF(2) are numbers: bit j of the vector is bit j of the number, and addition is bit_xor.
-- A matrix is the list of its rows. In memory a vector is a run of 64-bit words, lowest first.
use Rattle.std.specs.Prelude.{◌≡◌, ℕ, zero, suc, ◌+◌, ◌*◌, ◌/◌, ◌%◌, ◌^◌, ◌<◌, Bool, cond, ◌⊎◌, List, [], ◌∷◌, ◌++◌, length, take, drop, Some, None, Option, bit_and, bit_xor, nat_eq, slice_index}

-- ---- products

-- the parity of n's ones, of whose digits at most d are looked at
unfoldable pub parity_in : ℕ → ℕ → ℕ
parity_in zero n = 0
parity_in (suc d) zero = 0
parity_in (suc d) (suc n) = (suc n % 2 + parity_in d (suc n / 2)) % 2

unfoldable pub parity : ℕ → ℕ
unfolding parity_in
parity n = parity_in n n

-- the parity of the ones that a row and a vector share
unfoldable pub dot : ℕ → ℕ → ℕ
unfolding parity
dot r v = parity (bit_and r v)

-- the product of a matrix and a vector: bit i is the dot product with row i
abbrev pub mul : List ℕ → ℕ → ℕ
mul [] v = 0
mul (r ∷ rs) v = dot r v + 2 * mul rs v

-- the sum of the rows that y picks
abbrev pub comb : List ℕ → ℕ → ℕ
comb [] y = 0
comb (r ∷ rs) y = bit_xor (y % 2 * r) (comb rs (y / 2))

-- ---- words

-- how many words hold n bits
abbrev pub width_of : ℕ → ℕ
width_of n = (n + 63) / 64

-- the vector that words hold
abbrev pub value : List ℕ → ℕ
value [] = 0
value (w ∷ ws) = w + 2 ^ 64 * value ws

-- the w words that hold a vector
abbrev pub words_of : ℕ → ℕ → List ℕ
words_of zero x = []
words_of (suc w) x = x % 2 ^ 64 ∷ words_of w (x / 2 ^ 64)

-- the words of each of the n rows of w words that words begin with
abbrev pub row_words : ℕ → ℕ → List ℕ → List (List ℕ)
row_words w zero ws = []
row_words w (suc n) ws = take w ws ∷ row_words w n (drop w ws)

-- the n rows of w words each that words begin with
abbrev pub rows : ℕ → ℕ → List ℕ → List ℕ
rows w zero ws = []
rows w (suc n) ws = value (take w ws) ∷ rows w n (drop w ws)

-- rows as words, w words each
abbrev pub flat : ℕ → List ℕ → List ℕ
flat w [] = []
flat w (x ∷ xs) = words_of w x ++ flat w xs

-- each word is below 2^64
abbrev pub Words : List ℕ → Type 0
Words ws = (i : ℕ) → slice_index ws i < 2 ^ 64

-- ---- collapsing, inverses, independence

-- each row has at most k bits
abbrev pub Below : ℕ → List ℕ → Type 0
Below k [] = Unit {0}
Below k (r ∷ rs) = (r < 2 ^ k) × Below k rs

-- a vector other than zero whose product with the square matrix L is zero
pub record Witness (L : List ℕ) (x : ℕ) : Type 0 where
  pub some : 0 < x
  pub small : x < 2 ^ length L
  pub sent : mul L x ≡ 0

abbrev pub Collapses : List ℕ → Type 0
Collapses L = (x : ℕ) × Witness L x

-- the square matrices L and N undo each other
pub record Inverse (L N : List ℕ) : Type 0 where
  pub size : length N ≡ length L
  pub small : Below (length L) N
  pub left : (x : ℕ) → x < 2 ^ length L → mul N (mul L x) ≡ x
  pub right : (x : ℕ) → x < 2 ^ length L → mul L (mul N x) ≡ x

-- the first number from x on that passes the test, of d that are tried
unfoldable pub seek : (ℕ → Bool) → ℕ → ℕ → ℕ
seek f zero x = x
seek f (suc d) x = cond (f x) x (seek f d (suc x))

-- the vector that L sends to y
unfoldable pub solve : List ℕ → ℕ → ℕ
unfolding seek
solve L y = seek (λ x. nat_eq (mul L x) (y % 2 ^ length L)) (2 ^ length L) 0

-- the row whose bit j, below n, is φ (2^j)
unfoldable pub row_of : (ℕ → ℕ) → ℕ → ℕ
row_of φ zero = 0
row_of φ (suc n) = φ 1 + 2 * row_of (λ y. φ (2 * y)) n

-- the matrix of n columns and m rows whose column j is g (2^j)
unfoldable pub matrix_of : (ℕ → ℕ) → ℕ → ℕ → List ℕ
unfolding row_of
matrix_of g n zero = []
matrix_of g n (suc m) = row_of (λ x. g x % 2) n ∷ matrix_of (λ x. g x / 2) n m

-- the inverse of a square matrix that does not collapse: column j is the vector that L sends to 2^j
unfoldable pub inverse_of : List ℕ → List ℕ
unfolding matrix_of solve
inverse_of L = matrix_of (solve L) (length L) (length L)

-- no sum of rows is zero but the empty one
abbrev pub Independent : List ℕ → Type 0
Independent rs = (y : ℕ) → y < 2 ^ length rs → comb rs y ≡ 0 → y ≡ 0

-- ---- the lowest one

-- one place further up
abbrev pub further : Option ℕ → Option ℕ
further None = None
further (Some j) = Some (suc j)

abbrev pub lowest_from : ℕ → Option ℕ → Option ℕ
lowest_from zero rest = further rest
lowest_from (suc b) rest = Some 0

unfoldable pub lowest_in : ℕ → ℕ → Option ℕ
lowest_in zero n = None
lowest_in (suc d) zero = None
lowest_in (suc d) (suc n) = lowest_from (suc n % 2) (lowest_in d (suc n / 2))

-- the place of the lowest one of n; none where n is zero
unfoldable pub lowest_one_of : ℕ → Option ℕ
unfolding lowest_in
lowest_one_of n = lowest_in n n

-- ---- laws

-- a square matrix collapses or has an inverse, and then inverse_of is it
abbrev pub CollapsesOrInverse : Type 0
CollapsesOrInverse = (L : List ℕ) → Collapses L ⊎ Inverse L (inverse_of L)

-- never both
abbrev pub NotBoth : Type 0
NotBoth = (L N : List ℕ) → Inverse L N → Collapses L → ⊥

-- an inverse on one side is one on the other
abbrev pub OneSideIsBoth : Type 0
OneSideIsBoth = (L M : List ℕ) → length M ≡ length L → ((x : ℕ) → x < 2 ^ length L → mul M (mul L x) ≡ x)
    → (x : ℕ) → x < 2 ^ length L → mul L (mul M x) ≡ x

-- a matrix has at most one inverse
abbrev pub OneInverse : Type 0
OneInverse = (L N M : List ℕ) → Inverse L N → Inverse L M → N ≡ M
