-- Rounds on a set that stands in words: what one round computes there, and the steps of the loops over them.
use Rattle.std.proofs.Common.{◌≡◌, ℕ, zero, suc, ◌+◌, ◌-◌, ◌*◌, ◌<◌, List, [], ◌∷◌, map, length, get_or, drop, sym, refl, ap, ◌∙◌, ap₂, suc-mul, add_comm, zero-mul, add-one, arith}
use lib.Bits.{bit_xor, xor_comm}
use Rattle.std.proofs.lemmas.List.{drop-drop, get_or-map}
use Rattle.bits.specs.Gf2.{inverse_of, mul, rows, value}
use Rattle.cipher.specs.declared.params.Params.{Params}
use Rattle.bits.specs.Matrices.{rows_in}
use Rattle.cipher.specs.declared.prepared.Round.{Round}
use Rattle.cipher.specs.Parts.{PartsOf}
use Rattle.cipher.specs.Parameters.{block_words_of, key_words_of}
use Rattle.cipher.specs.Instances.{constants_place, inverses_place, inverses_in, keys_place, matrices_in, set_in}
use Rattle.cipher.specs.LowMC.{decrypt, decrypt_with, encrypt, encrypt_with, round, rounds, substitution, unround, unrounds}
use Rattle.cipher.specs.Places.{constant_at, matrix_at, places_of, unround_by}

-- ---- one round

-- what the calls of `forward` compute
pub forward_is : (m key s C x p q t o : ℕ) (L K : List ℕ) → x ≡ substitution m s → p ≡ mul L x → q ≡ bit_xor p C → t ≡ mul K key → o ≡ bit_xor t q → o ≡ round m key L C K s
forward_is m key s C x p q t o L K ex ep eq et eo = eo ∙ xor_comm t q ∙ ap₂ bit_xor (eq ∙ ap (λ (y : ℕ). bit_xor y C) (ep ∙ ap (mul L) ex)) et

-- ---- matrices and rows one after another

pub next : (at i size : ℕ) → at + i * size + size ≡ at + (i + 1) * size
next at i size = omega (arith, suc-mul i size, ap (λ (k : ℕ). k * size) (add-one i))

pub next_zero : (i size : ℕ) → i * size + size ≡ (i + 1) * size
next_zero i size = omega (arith, suc-mul i size, ap (λ (k : ℕ). k * size) (add-one i))

-- matrices from a place on, the first of them apart
pub matrices_open : (w n r i a b : ℕ) (ws : List ℕ) → i < r → a + n * w ≡ b
    → matrices_in w n (r - i) (drop a ws) ≡ matrix_at w n a ws ∷ matrices_in w n (r - (i + 1)) (drop b ws)
matrices_open w n r i a b ws h e =
    let d : r - i ≡ suc (r - (i + 1)) = omega arith in
    ap (λ (k : ℕ). matrices_in w n k (drop a ws)) d
    ∙ ap (λ (xs : List ℕ). matrix_at w n a ws ∷ matrices_in w n (r - (i + 1)) xs) (drop-drop (n * w) a ws ∙ ap (λ (k : ℕ). drop k ws) e)

pub rows_open_at : (w r i a b : ℕ) (ws : List ℕ) → i < r → a + w ≡ b
    → rows w (r - i) (drop a ws) ≡ constant_at w a ws ∷ rows w (r - (i + 1)) (drop b ws)
rows_open_at w r i a b ws h e =
    let d : r - i ≡ suc (r - (i + 1)) = omega arith in
    ap (λ (k : ℕ). rows w k (drop a ws)) d
    ∙ ap (λ (xs : List ℕ). constant_at w a ws ∷ rows w (r - (i + 1)) xs) (drop-drop w a ws ∙ ap (λ (k : ℕ). drop k ws) e)

pub length_matrices : (w n r : ℕ) (ws : List ℕ) → length (matrices_in w n r ws) ≡ r
length_matrices w n zero ws = refl
length_matrices w n (suc r) ws = ap suc (length_matrices w n r (drop (n * w) ws))

-- matrix i of those from a place on
pub matrices_at : (w n r i : ℕ) (ws : List ℕ) → i < r → get_or (matrices_in w n r ws) i [] ≡ matrix_at w n (i * (n * w)) ws
matrices_at w n zero i ws h = absurd (omega arith)
matrices_at w n (suc r) zero ws h = rw (zero-mul (n * w))
matrices_at w n (suc r) (suc i) ws h =
    matrices_at w n r i (drop (n * w) ws) (omega arith)
    ∙ ap (rows w n) (drop-drop (i * (n * w)) (n * w) ws ∙ ap (λ (k : ℕ). drop k ws) (add_comm (n * w) (i * (n * w)) ∙ sym (suc-mul i (n * w))))

-- ---- the rounds from round i on

abbrev pub layers_left : Params → List ℕ → ℕ → List (List ℕ)
layers_left p ws i = matrices_in (block_words_of p) p.n (p.r - i) (drop (places_of p i).layer ws)

abbrev pub constants_left : Params → List ℕ → ℕ → List ℕ
constants_left p ws i = rows (block_words_of p) (p.r - i) (drop (places_of p i).constant ws)

abbrev pub keys_left : Params → List ℕ → ℕ → List (List ℕ)
keys_left p ws i = matrices_in (key_words_of p) p.n (p.r - i) (drop (places_of p i).key ws)

-- the layer, the constant and the key matrix of round i
abbrev pub layer_at : Params → List ℕ → ℕ → List ℕ
layer_at p ws i = matrix_at (block_words_of p) p.n (places_of p i).layer ws

abbrev pub constant_of : Params → List ℕ → ℕ → ℕ
constant_of p ws i = constant_at (block_words_of p) (places_of p i).constant ws

abbrev pub key_at : Params → List ℕ → ℕ → List ℕ
key_at p ws i = matrix_at (key_words_of p) p.n (places_of p i).key ws

module _ (p : Params) (ws : List ℕ) where
  pub layers_open : (i : ℕ) → i < p.r → layers_left p ws i ≡ layer_at p ws i ∷ layers_left p ws (i + 1)
  layers_open i h = matrices_open (block_words_of p) p.n p.r i _ _ ws h (next_zero i (p.n * block_words_of p))

  pub constants_open : (i : ℕ) → i < p.r → constants_left p ws i ≡ constant_of p ws i ∷ constants_left p ws (i + 1)
  constants_open i h = rows_open_at (block_words_of p) p.r i _ _ ws h (next (constants_place p) i (block_words_of p))

  pub keys_open : (i : ℕ) → i < p.r → keys_left p ws i ≡ key_at p ws i ∷ keys_left p ws (i + 1)
  keys_open i h = matrices_open (key_words_of p) p.n p.r i _ _ ws h (next (keys_place p) (i + 1) (p.n * key_words_of p))

  -- all of them are the set's
  pub layers_all : layers_left p ws 0 ≡ (set_in p ws).layers
  layers_all =
      let z : p.r - 0 ≡ p.r = omega arith in
      ap₂ (λ (k i : ℕ). matrices_in (block_words_of p) p.n k (drop i ws)) z (zero-mul (p.n * block_words_of p))

  pub constants_all : constants_left p ws 0 ≡ (set_in p ws).constants
  constants_all =
      let e : constants_place p + 0 * block_words_of p ≡ constants_place p = omega (arith, zero-mul (block_words_of p)) in
      let z : p.r - 0 ≡ p.r = omega arith in
      ap₂ (λ (k i : ℕ). rows (block_words_of p) k (drop i ws)) z e

  pub keys_all : (set_in p ws).keys ≡ matrix_at (key_words_of p) p.n (keys_place p) ws ∷ keys_left p ws 0
  keys_all =
      let e : p.r + 1 ≡ suc p.r = omega arith in
      let d : keys_place p + p.n * key_words_of p ≡ keys_place p + (0 + 1) * (p.n * key_words_of p) = omega arith in
      let z : p.r ≡ p.r - 0 = omega arith in
      ap (λ (k : ℕ). matrices_in (key_words_of p) p.n k (drop (keys_place p) ws)) e
      ∙ ap₂ (λ (k : ℕ) (xs : List ℕ). matrix_at (key_words_of p) p.n (keys_place p) ws ∷ matrices_in (key_words_of p) p.n k xs) z (drop-drop (p.n * key_words_of p) (keys_place p) ws ∙ ap (λ (k : ℕ). drop k ws) d)

  -- what a round's parts make of a state
  pub round_at : (i : ℕ) (r : Round) → PartsOf p ws i r → (m key s t : ℕ) → t ≡ round m key (rows_in r.layer) (value r.constant.now) (rows_in r.key) s
      → t ≡ round m key (layer_at p ws i) (constant_of p ws i) (key_at p ws i) s
  round_at i r is m key s t e =
      e ∙ ap₂ (λ (L : List ℕ) (C : ℕ). round m key L C (rows_in r.key) s) is.layer is.constant ∙ ap (λ (K : List ℕ). round m key (layer_at p ws i) (constant_of p ws i) K s) is.key

  pub unround_at : (i : ℕ) (r : Round) → PartsOf p ws i r → (m key s t : ℕ) → t ≡ unround_by m key (rows_in r.inverse) (value r.constant.now) (rows_in r.key) s
      → t ≡ unround_by m key (matrix_at (block_words_of p) p.n (places_of p i).inverse ws) (constant_of p ws i) (key_at p ws i) s
  unround_at i r is m key s t e =
      e ∙ ap₂ (λ (M : List ℕ) (C : ℕ). unround_by m key M C (rows_in r.key) s) is.inverse is.constant
      ∙ ap (λ (K : List ℕ). unround_by m key (matrix_at (block_words_of p) p.n (places_of p i).inverse ws) (constant_of p ws i) K s) is.key

  -- the step of `encrypt_state`
  pub rounds_more : (i m key s t out : ℕ) → i < p.r → t ≡ round m key (layer_at p ws i) (constant_of p ws i) (key_at p ws i) s
      → rounds m key (layers_left p ws i) (constants_left p ws i) (keys_left p ws i) s ≡ out
      → rounds m key (layers_left p ws (i + 1)) (constants_left p ws (i + 1)) (keys_left p ws (i + 1)) t ≡ out
  rounds_more i m key s t out h e inv =
      ap (rounds m key (layers_left p ws (i + 1)) (constants_left p ws (i + 1)) (keys_left p ws (i + 1))) e
      ∙ sym (ap₂ (λ (Ls : List (List ℕ)) (Cs : List ℕ). rounds m key Ls Cs (keys_left p ws i) s) (layers_open i h) (constants_open i h)
      ∙ ap (λ (Ks : List (List ℕ)). rounds m key (layer_at p ws i ∷ layers_left p ws (i + 1)) (constant_of p ws i ∷ constants_left p ws (i + 1)) Ks s) (keys_open i h)) ∙ inv

  -- its end: no round is left
  pub rounds_done : (i m key s out : ℕ) → i ≡ p.r
      → rounds m key (layers_left p ws i) (constants_left p ws i) (keys_left p ws i) s ≡ out → s ≡ out
  rounds_done i m key s out h inv =
      let z : p.r - i ≡ 0 = omega arith in
      sym (ap (λ (k : ℕ). rounds m key (matrices_in (block_words_of p) p.n k (drop (places_of p i).layer ws)) (constants_left p ws i) (keys_left p ws i) s) z) ∙ inv

  pub encrypted : (key x : ℕ)
      → rounds p.m key (layers_left p ws 0) (constants_left p ws 0) (keys_left p ws 0) (bit_xor x (mul (matrix_at (key_words_of p) p.n (keys_place p) ws) key)) ≡ encrypt (set_in p ws) key x
  encrypted key x =
      let y : ℕ = bit_xor x (mul (matrix_at (key_words_of p) p.n (keys_place p) ws) key) in
      ap₂ (λ (Ls : List (List ℕ)) (Cs : List ℕ). rounds p.m key Ls Cs (keys_left p ws 0) y) layers_all constants_all
      ∙ sym (ap (encrypt_with (set_in p ws) key x) keys_all)

  -- the inverses that stand there are those of the layers
  pub inverse_at : (i : ℕ) → i < p.r → inverses_in p ws ≡ map inverse_of (set_in p ws).layers
      → matrix_at (block_words_of p) p.n (places_of p i).inverse ws ≡ inverse_of (layer_at p ws i)
  inverse_at i h e =
      let w : ℕ = block_words_of p in
      let l : i < length (set_in p ws).layers = omega (arith, length_matrices w p.n p.r ws) in
      ap (rows w p.n) (sym (drop-drop (i * (p.n * w)) (inverses_place p) ws))
      ∙ sym (matrices_at w p.n p.r i (drop (inverses_place p) ws) h)
      ∙ ap (λ (Ms : List (List ℕ)). get_or Ms i []) e ∙ get_or-map inverse_of (set_in p ws).layers i [] [] l
      ∙ ap inverse_of (matrices_at w p.n p.r i ws h)

  -- the step of `decrypt_state`, which undoes round j
  pub unrounds_more : (i j m key s t u : ℕ) → i ≡ j + 1 → j < p.r → inverses_in p ws ≡ map inverse_of (set_in p ws).layers
      → t ≡ unround_by m key (matrix_at (block_words_of p) p.n (places_of p j).inverse ws) (constant_of p ws j) (key_at p ws j) s
      → s ≡ unrounds m key (layers_left p ws i) (constants_left p ws i) (keys_left p ws i) u
      → t ≡ unrounds m key (layers_left p ws j) (constants_left p ws j) (keys_left p ws j) u
  unrounds_more i j m key s t u past l true e inv =
      let all : ℕ → ℕ = λ k. unrounds m key (layers_left p ws k) (constants_left p ws k) (keys_left p ws k) u in
      e ∙ ap (λ (M : List ℕ). unround_by m key M (constant_of p ws j) (key_at p ws j) s) (inverse_at j l true)
      ∙ ap (unround m key (layer_at p ws j) (constant_of p ws j) (key_at p ws j)) (inv ∙ ap all past)
      ∙ sym (ap₂ (λ (Ls : List (List ℕ)) (Cs : List ℕ). unrounds m key Ls Cs (keys_left p ws j) u) (layers_open j l) (constants_open j l)
      ∙ ap (λ (Ks : List (List ℕ)). unrounds m key (layer_at p ws j ∷ layers_left p ws (j + 1)) (constant_of p ws j ∷ constants_left p ws (j + 1)) Ks u) (keys_open j l))

  pub decrypted : (i key s t y : ℕ) → i ≡ 0
      → s ≡ unrounds p.m key (layers_left p ws i) (constants_left p ws i) (keys_left p ws i) y
      → t ≡ bit_xor s (mul (matrix_at (key_words_of p) p.n (keys_place p) ws) key)
      → t ≡ decrypt (set_in p ws) key y
  decrypted i key s t y z inv e =
      let K : List ℕ = matrix_at (key_words_of p) p.n (keys_place p) ws in
      e ∙ ap (λ (x : ℕ). bit_xor x (mul K key)) (inv ∙ ap (λ (k : ℕ). unrounds p.m key (layers_left p ws k) (constants_left p ws k) (keys_left p ws k) y) z
      ∙ ap₂ (λ (Ls : List (List ℕ)) (Cs : List ℕ). unrounds p.m key Ls Cs (keys_left p ws 0) y) layers_all constants_all)
      ∙ sym (ap (decrypt_with (set_in p ws) key y) keys_all)
