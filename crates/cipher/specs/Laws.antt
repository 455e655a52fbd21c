-- What holds of the cipher.
use Rattle.std.specs.Prelude.{◌≡◌, ℕ, ◌+◌, ◌*◌, ◌/◌, ◌%◌, ◌^◌, ◌<◌, ◌≤◌, ◌≢◌, ◌⊎◌, List, [], ◌∷◌, map}
use Rattle.bits.specs.Gf2.{Collapses, Inverse, Witness, inverse_of}
use Rattle.cipher.specs.Parameters.{params}
use Rattle.cipher.specs.Sets.{Each, LawfulSet, Set}
use Rattle.cipher.specs.LowMC.{decrypt, encrypt, s_a, s_b, s_c, substitution, unsubstitution}

-- ---- the substitution and its inverse undo each other, and keep a state within its bits
pub record Undone : Type 0 where
  pub left : (m x : ℕ) → unsubstitution m (substitution m x) ≡ x
  pub right : (m x : ℕ) → substitution m (unsubstitution m x) ≡ x
  pub within : (m n x : ℕ) → 3 * m ≤ n → x < 2 ^ n → substitution m x < 2 ^ n
  pub within_back : (m n x : ℕ) → 3 * m ≤ n → x < 2 ^ n → unsubstitution m x < 2 ^ n

-- ---- decryption undoes encryption, and encryption decryption, where each layer has an inverse

abbrev pub Invertible : List ℕ → Type 0
Invertible L = Inverse L (inverse_of L)

pub record Undoes (s : Set) : Type 0 where
  pub within : (key x : ℕ) → x < 2 ^ s.params.n → encrypt s key x < 2 ^ s.params.n
  pub within_back : (key y : ℕ) → y < 2 ^ s.params.n → decrypt s key y < 2 ^ s.params.n
  pub left : (key x : ℕ) → x < 2 ^ s.params.n → decrypt s key (encrypt s key x) ≡ x
  pub right : (key y : ℕ) → y < 2 ^ s.params.n → encrypt s key (decrypt s key y) ≡ y

abbrev pub Decryption : Type 0
Decryption = (s : Set) → LawfulSet s → Each Invertible s.layers → Undoes s

-- ---- some layer collapses exactly when some key gives two different blocks one ciphertext

-- one of a list
abbrev pub Among : List ℕ → List (List ℕ) → Type 0
Among L [] = ⊥
Among L (M ∷ Ms) = (L ≡ M) ⊎ Among L Ms

abbrev pub SomeCollapses : List (List ℕ) → Type 0
SomeCollapses Ls = (L : List ℕ) × Among L Ls × Collapses L

-- two different blocks with one ciphertext
pub record Clash (s : Set) : Type 0 where
  pub key : ℕ
  pub one : ℕ
  pub other : ℕ
  pub key_within : key < 2 ^ s.params.k
  pub one_within : one < 2 ^ s.params.n
  pub other_within : other < 2 ^ s.params.n
  pub different : one ≢ other
  pub same : encrypt s key one ≡ encrypt s key other

pub record Collapsing (s : Set) : Type 0 where
  pub to : SomeCollapses s.layers → Clash s
  pub from : Clash s → SomeCollapses s.layers

abbrev pub Collapse : Type 0
Collapse = (s : Set) → LawfulSet s → Collapsing s

-- ---- worked examples

-- n = k = 3, one triple, one round, constant 1, both key matrices the identity
abbrev pub sample_with : List ℕ → Set
sample_with L = record { params = params 3 3 1 1; layers = L ∷ []; constants = 1 ∷ []; keys = (1 ∷ 2 ∷ 4 ∷ []) ∷ (1 ∷ 2 ∷ 4 ∷ []) ∷ [] }

abbrev pub sample : Set
sample = sample_with (2 ∷ 4 ∷ 1 ∷ [])

-- one whose layer collapses
abbrev pub collapsing : Set
collapsing = sample_with (1 ∷ 1 ∷ 4 ∷ [])

-- the S-box on a triple written 4a + 2b + c
abbrev pub box_table : ℕ → ℕ
box_table v = 4 * s_a (v / 4) (v / 2 % 2) (v % 2) + 2 * s_b (v / 4) (v / 2 % 2) (v % 2) + s_c (v / 4) (v / 2 % 2) (v % 2)

pub record Examples : Type 0 where
  pub box : map box_table (0 ∷ 1 ∷ 2 ∷ 3 ∷ 4 ∷ 5 ∷ 6 ∷ 7 ∷ []) ≡ 0 ∷ 1 ∷ 3 ∷ 6 ∷ 7 ∷ 4 ∷ 5 ∷ 2 ∷ []
  pub inverse : inverse_of (2 ∷ 4 ∷ 1 ∷ []) ≡ 4 ∷ 1 ∷ 2 ∷ []
  pub one : encrypt sample 0 1 ≡ 6
  pub none : encrypt sample 0 0 ≡ 1
  pub keyed : encrypt sample 7 0 ≡ 7
  pub back : decrypt sample 0 6 ≡ 1
  pub witness : Witness (1 ∷ 1 ∷ 4 ∷ []) 2
  pub lost_none : encrypt collapsing 0 0 ≡ 1
  pub lost_seven : encrypt collapsing 0 7 ≡ 1
  pub rest_stays : substitution 1 9 ≡ 15
