-- The product of an inverse and a layer, row by row, and the steps of the loops over it.
use Rattle.std.proofs.Common.{◌≡◌, ℕ, suc, ◌+◌, ◌-◌, ◌*◌, ◌/◌, ◌%◌, ◌^◌, ◌<◌, ◌≤◌, Bool, true, false, cond, ◌&&◌, eqb, List, ◌∷◌, drop, Some, None, Option, MatchOption, sym, refl, ap, ◌∙◌, ap₂, zero-mul, div-one, add-one, arith, shr-shr}
use lib.Bits.{bit_xor, xor_assoc, xor_comm, xor_self, xor_zero_r}
use Rattle.std.proofs.lemmas.Bool.{eq-eqb, ne_eqb}
use Rattle.std.specs.Option.{is_none}
use Rattle.bits.specs.Gf2.{comb, dot, rows}
use Rattle.bits.specs.Gauss.{Lowest}
use Rattle.bits.proofs.Inverse.{xor_same}
use Rattle.bits.proofs.Products.{dot_zero_r, pow_step}
use Rattle.bits.proofs.Rank.{dot_power}
use Rattle.cipher.specs.declared.params.Params.{Params}
use Rattle.bits.specs.Matrices.{rows_in}
use Rattle.cipher.specs.declared.prepared.Round.{Round}
use Rattle.cipher.specs.Parts.{PartsOf}
use Rattle.cipher.specs.Parameters.{block_words_of}
use Rattle.cipher.specs.Instances.{first_wrong_of, inverses_place, matrices_in, same, times, units}
use Rattle.cipher.specs.Places.{constant_at, matrix_at, places_of}
use Rattle.cipher.proofs.Passes.{layer_at, layers_open, layers_left, matrices_open, next, rows_open_at}

-- ---- the sum of the rows that a row picks

pub comb_start : (w count pick z : ℕ) (ws : List ℕ) → z ≡ 0 → bit_xor z (comb (rows w (count - 0) (drop (0 * w) ws)) (pick / 2 ^ 0)) ≡ comb (rows w count ws) pick
comb_start w count pick z ws e =
    let d : count - 0 ≡ count = omega arith in
    let a : 0 * w ≡ 0 = zero-mul w in
    let p : pick / 2 ^ 0 ≡ pick = div-one pick in
    ap₂ (λ (x y : ℕ). bit_xor x (comb (rows w (count - 0) (drop (0 * w) ws)) y)) e p
    ∙ ap₂ (λ (k i : ℕ). bit_xor 0 (comb (rows w k (drop i ws)) pick)) d a ∙ xor_comm 0 (comb (rows w count ws) pick) ∙ xor_zero_r (comb (rows w count ws) pick)

pub comb_more : (w count i a b pick s t all : ℕ) (ws : List ℕ) → i < count → a + w ≡ b → t ≡ bit_xor s (dot (2 ^ i) pick * constant_at w a ws)
    → bit_xor s (comb (rows w (count - i) (drop a ws)) (pick / 2 ^ i)) ≡ all → bit_xor t (comb (rows w (count - (i + 1)) (drop b ws)) (pick / 2 ^ (i + 1))) ≡ all
comb_more w count i a b pick s t all ws h e et inv =
    let rest : ℕ = comb (rows w (count - (i + 1)) (drop b ws)) (pick / 2 ^ (i + 1)) in
    let r : ℕ = constant_at w a ws in
    ap (λ (x : ℕ). bit_xor x rest) (et ∙ ap (λ (d : ℕ). bit_xor s (d * r)) (dot_power i pick)) ∙ xor_assoc s (pick / 2 ^ i % 2 * r) rest
    ∙ ap (λ (y : ℕ). bit_xor s (bit_xor (pick / 2 ^ i % 2 * r) (comb (rows w (count - (i + 1)) (drop b ws)) y))) (sym (shr-shr pick i 1))
    ∙ sym (ap (λ (rs : List ℕ). bit_xor s (comb rs (pick / 2 ^ i))) (rows_open_at w count i a b ws h e)) ∙ inv

pub comb_end : (w count i a y s all : ℕ) (ws : List ℕ) → count ≤ i → bit_xor s (comb (rows w (count - i) (drop a ws)) y) ≡ all → s ≡ all
comb_end w count i a y s all ws h inv =
    let z : 0 ≡ count - i = omega arith in
    sym (xor_zero_r s) ∙ ap (λ (k : ℕ). bit_xor s (comb (rows w k (drop a ws)) y)) z ∙ inv

-- ---- one bit and no other

one_times : (x : ℕ) → 1 * x ≡ x
one_times x = omega arith

pub unit_none : (v p x : ℕ) → x ≡ bit_xor v (1 * p) → x ≡ 0 → true ≡ eqb v p
unit_none v p x e z = sym (eq-eqb v p (xor_same v p (ap (bit_xor v) (sym (one_times p)) ∙ sym e ∙ z)))

pub unit_some : (v p x k : ℕ) → x ≡ bit_xor v (1 * p) → dot (2 ^ k) x ≡ 1 → false ≡ eqb v p
unit_some v p x k e one = sym (ne_eqb v p (λ q.
    let z : x ≡ 0 = e ∙ ap₂ bit_xor q (one_times p) ∙ xor_self p in
    let d : dot (2 ^ k) x ≡ 0 = ap (dot (2 ^ k)) z ∙ dot_zero_r (2 ^ k) in
    omega (arith, d, one)))

-- whether a vector has bit j and no other, by what flipping it leaves
pub unit_is : (v p x n : ℕ) (r : Option ℕ) → x ≡ bit_xor v (1 * p) → MatchOption r (x ≡ 0) (λ k. (k < n) × Lowest x k) → is_none r ≡ eqb v p
unit_is v p x n None e z = unit_none v p x e z
unit_is v p x n (Some k) e low = unit_some v p x k e low.1.one

-- ---- the rows of the product

module _ (w n : ℕ) (ws L : List ℕ) where
  rows_same : (j a b : ℕ) → j < n → a + w ≡ b
      → same (times (rows w (n - j) (drop a ws)) L) (units (2 ^ j) (n - j))
      ≡ (eqb (comb L (constant_at w a ws)) (2 ^ j) && same (times (rows w (n - (j + 1)) (drop b ws)) L) (units (2 ^ (j + 1)) (n - (j + 1))))
  rows_same j a b h e =
      let d : n - j ≡ suc (n - (j + 1)) = omega arith in
      let q : 2 * 2 ^ j ≡ 2 ^ (j + 1) = sym (ap (λ (k : ℕ). 2 ^ k) (add-one j) ∙ pow_step j) in
      ap₂ (λ (rs : List ℕ) (k : ℕ). same (times rs L) (units (2 ^ j) k)) (rows_open_at w n j a b ws h e) d
      ∙ ap (λ (x : ℕ). eqb (comb L (constant_at w a ws)) (2 ^ j) && same (times (rows w (n - (j + 1)) (drop b ws)) L) (units x (n - (j + 1)))) q

  pub same_more : (j a b : ℕ) (r all : Bool) → j < n → a + w ≡ b → r ≡ eqb (comb L (constant_at w a ws)) (2 ^ j) → r ≡ true
      → same (times (rows w (n - j) (drop a ws)) L) (units (2 ^ j) (n - j)) ≡ all
      → same (times (rows w (n - (j + 1)) (drop b ws)) L) (units (2 ^ (j + 1)) (n - (j + 1))) ≡ all
  same_more j a b r all h e er t inv =
      ap (λ (x : Bool). x && same (times (rows w (n - (j + 1)) (drop b ws)) L) (units (2 ^ (j + 1)) (n - (j + 1)))) (sym t ∙ er) ∙ sym (rows_same j a b h e) ∙ inv

  pub same_not : (j a : ℕ) (r all : Bool) → j < n → r ≡ eqb (comb L (constant_at w a ws)) (2 ^ j) → r ≡ false
      → same (times (rows w (n - j) (drop a ws)) L) (units (2 ^ j) (n - j)) ≡ all → false ≡ all
  same_not j a r all h er f inv =
      ap (λ (x : Bool). x && same (times (rows w (n - (j + 1)) (drop (a + w) ws)) L) (units (2 ^ (j + 1)) (n - (j + 1)))) (sym f ∙ er) ∙ sym (rows_same j a (a + w) h refl) ∙ inv

pub same_end : (w n j a : ℕ) (ws L : List ℕ) (all : Bool) → j ≡ n → same (times (rows w (n - j) (drop a ws)) L) (units (2 ^ j) (n - j)) ≡ all → true ≡ all
same_end w n j a ws L all e inv =
    let z : 0 ≡ n - j = omega arith in
    ap (λ (k : ℕ). same (times (rows w k (drop a ws)) L) (units (2 ^ j) k)) z ∙ inv

-- ---- round by round

abbrev pub inverses_left : Params → List ℕ → ℕ → List (List ℕ)
inverses_left p ws i = matrices_in (block_words_of p) p.n (p.r - i) (drop (places_of p i).inverse ws)

-- the matrix at the place of round i's inverse
abbrev pub inverse_at : Params → List ℕ → ℕ → List ℕ
inverse_at p ws i = matrix_at (block_words_of p) p.n (places_of p i).inverse ws

module _ (p : Params) (ws : List ℕ) where
  pub inverses_open : (i : ℕ) → i < p.r → inverses_left p ws i ≡ inverse_at p ws i ∷ inverses_left p ws (i + 1)
  inverses_open i h = matrices_open (block_words_of p) p.n p.r i _ _ ws h (next (inverses_place p) i (p.n * block_words_of p))

  -- what a call for round i answers
  pub same_at : (i : ℕ) (x : Round) (r : Bool) → PartsOf p ws i x → r ≡ same (times (rows_in x.inverse) (rows_in x.layer)) (units 1 x.inverse.height)
      → r ≡ same (times (inverse_at p ws i) (layer_at p ws i)) (units 1 p.n)
  same_at i x r is e =
      e ∙ ap₂ (λ (M L : List ℕ). same (times M L) (units 1 x.inverse.height)) is.inverse is.layer ∙ ap (λ (k : ℕ). same (times (inverse_at p ws i) (layer_at p ws i)) (units 1 k)) is.tall.1

  wrong_open : (i : ℕ) → i < p.r → first_wrong_of p.n (i + 1) (inverses_left p ws i) (layers_left p ws i)
      ≡ cond (same (times (inverse_at p ws i) (layer_at p ws i)) (units 1 p.n)) (first_wrong_of p.n (i + 1 + 1) (inverses_left p ws (i + 1)) (layers_left p ws (i + 1))) (Some (i + 1))
  wrong_open i h =
      let s : suc (i + 1) ≡ i + 1 + 1 = omega arith in
      ap₂ (λ (Ms Ls : List (List ℕ)). first_wrong_of p.n (i + 1) Ms Ls) (inverses_open i h) (layers_open p ws i h)
      ∙ ap (λ (k : ℕ). cond (same (times (inverse_at p ws i) (layer_at p ws i)) (units 1 p.n)) (first_wrong_of p.n k (inverses_left p ws (i + 1)) (layers_left p ws (i + 1))) (Some (i + 1))) s

  pub wrong_here : (i : ℕ) (r : Bool) (all : Option ℕ) → i < p.r → r ≡ same (times (inverse_at p ws i) (layer_at p ws i)) (units 1 p.n) → r ≡ false
      → first_wrong_of p.n (i + 1) (inverses_left p ws i) (layers_left p ws i) ≡ all → Some (i + 1) ≡ all
  wrong_here i r all h e f inv =
      ap (λ (b : Bool). cond b (first_wrong_of p.n (i + 1 + 1) (inverses_left p ws (i + 1)) (layers_left p ws (i + 1))) (Some (i + 1))) (sym f ∙ e) ∙ sym (wrong_open i h) ∙ inv

  pub wrong_more : (i : ℕ) (r : Bool) (all : Option ℕ) → i < p.r → r ≡ same (times (inverse_at p ws i) (layer_at p ws i)) (units 1 p.n) → r ≡ true
      → first_wrong_of p.n (i + 1) (inverses_left p ws i) (layers_left p ws i) ≡ all → first_wrong_of p.n (i + 1 + 1) (inverses_left p ws (i + 1)) (layers_left p ws (i + 1)) ≡ all
  wrong_more i r all h e t inv =
      ap (λ (b : Bool). cond b (first_wrong_of p.n (i + 1 + 1) (inverses_left p ws (i + 1)) (layers_left p ws (i + 1))) (Some (i + 1))) (sym t ∙ e) ∙ sym (wrong_open i h) ∙ inv
