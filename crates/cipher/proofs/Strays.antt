-- Stray bits: the tests word by word, row by row, and what it means that there are none.
use Rattle.std.proofs.Common.{◌≡◌, ℕ, zero, suc, ◌+◌, ◌-◌, ◌*◌, ◌/◌, ◌^◌, ◌<◌, ◌≤◌, min, Bool, true, false, cond, not, eqb, ltb, List, [], ◌∷◌, ◌++◌, length, get_or, take, drop, Some, None, Option, sym, refl, ap, ◌∙◌, subst, ap₂, add-zero, mod-lt, mul_assoc, suc-mul, add-mul, zero-mul, arith, length-append, length-drop, length-take, pow_pos, pow-add}
use native.Mathlib.Decide.{dec_le, dec_lt}
use native.Mathlib.Nat.{div-eq_of_lt, min-eq_left, min-eq_right}
use Rattle.std.proofs.lemmas.Nat.{shr_split}
use Rattle.std.proofs.lemmas.List.{drop-drop, drop_more}
use Rattle.std.proofs.lemmas.Bool.{eq-eqb, le-ltb, lt-ltb, ltb-true, ne_eqb}
use Rattle.bits.specs.Gf2.{Below, rows, value}
use Rattle.cipher.specs.declared.params.Params.{Params}
use Rattle.cipher.specs.Parameters.{block_words_of, key_words_of, prepared_words_of}
use Rattle.cipher.specs.Instances.{first_stray_of, inverses_place, keys_place, many_limits, row_limits, word_limits}

-- ---- one word

pub strays_is : (x b : ℕ) → b < 64 → not (eqb (x / 2 ^ b) 0) ≡ not (ltb x (2 ^ min 64 b))
strays_is x b h =
    let e : min 64 b ≡ b = min-eq_right (omega arith) in
    rw e (ap not (go (dec_lt x (2 ^ b))))
  where
    go : Dec (x < 2 ^ b) → eqb (x / 2 ^ b) 0 ≡ ltb x (2 ^ b)
    go (yes l) = eq-eqb (x / 2 ^ b) 0 (div-eq_of_lt l) ∙ sym (lt-ltb x (2 ^ b) l)
    go (no l) =
        let s = shr_split x b in
        let f : x / 2 ^ b ≡ 0 → ⊥ =
        λ z. let m : x / 2 ^ b * 2 ^ b ≡ 0 = ap (λ (q : ℕ). q * 2 ^ b) z ∙ zero-mul (2 ^ b) in
        let r = mod-lt x (pow_pos b) in omega (arith, s, m, r) in
        ne_eqb (x / 2 ^ b) 0 f ∙ sym (le-ltb x (2 ^ b) (omega arith))

-- ---- the words of a row

pub stray_open : (i left : ℕ) (ws : List ℕ) → i < length ws
    → first_stray_of i (row_limits (length ws - i) left) (drop i ws)
    ≡ cond (ltb (get_or ws i 0) (2 ^ min 64 left)) (first_stray_of (i + 1) (row_limits (length ws - (i + 1)) (left - 64)) (drop (i + 1) ws)) (Some i)
stray_open i left ws h =
    let e : length ws - i ≡ suc (length ws - (i + 1)) = omega arith in
    let s : suc i ≡ i + 1 = omega arith in
    ap₂ (λ (k : ℕ) (xs : List ℕ). first_stray_of i (row_limits k left) xs) e (drop_more ws i 0 h)
    ∙ ap (λ (k : ℕ). cond (ltb (get_or ws i 0) (2 ^ min 64 left)) (first_stray_of k (row_limits (length ws - (i + 1)) (left - 64)) (drop (i + 1) ws)) (Some i)) s

pub stray_here : (i left : ℕ) (ws : List ℕ) (all : Option ℕ) → i < length ws → not (ltb (get_or ws i 0) (2 ^ min 64 left)) ≡ true
    → first_stray_of i (row_limits (length ws - i) left) (drop i ws) ≡ all → Some i ≡ all
stray_here i left ws all h b inv = go (ltb (get_or ws i 0) (2 ^ min 64 left)) _ b (sym (stray_open i left ws h) ∙ inv)
  where
    go : (b : Bool) (r : Option ℕ) → not b ≡ true → cond b r (Some i) ≡ all → Some i ≡ all
    go true r e q = absurd (let z : ◌≡◌ {A = ℕ} 0 1 = cc in omega arith)
    go false r e q = q

pub stray_more : (i left : ℕ) (ws : List ℕ) (all : Option ℕ) → i < length ws → not (ltb (get_or ws i 0) (2 ^ min 64 left)) ≡ false
    → first_stray_of i (row_limits (length ws - i) left) (drop i ws) ≡ all
    → first_stray_of (i + 1) (row_limits (length ws - (i + 1)) (left - 64)) (drop (i + 1) ws) ≡ all
stray_more i left ws all h b inv = go (ltb (get_or ws i 0) (2 ^ min 64 left)) _ b (sym (stray_open i left ws h) ∙ inv)
  where
    go : (b : Bool) (r : Option ℕ) → not b ≡ false → cond b r (Some i) ≡ all → r ≡ all
    go true r e q = q
    go false r e q = absurd (let z : ◌≡◌ {A = ℕ} 0 1 = cc in omega arith)

-- ---- one part of the words after another

pub length_row_limits : (w bits : ℕ) → length (row_limits w bits) ≡ w
length_row_limits zero bits = refl
length_row_limits (suc w) bits = ap suc (length_row_limits w (bits - 64))

pub length_many_limits : (w bits count : ℕ) → length (many_limits w bits count) ≡ count * w
length_many_limits w bits zero = sym (zero-mul w)
length_many_limits w bits (suc count) =
    length-append (row_limits w bits) (many_limits w bits count) ∙ ap₂ (λ (a b : ℕ). a + b) (length_row_limits w bits) (length_many_limits w bits count)
    ∙ omega (arith, suc-mul count w)

abbrev pub or_else : Option ℕ → Option ℕ → Option ℕ
or_else None y = y
or_else (Some x) y = Some x

abbrev pub shifted : ℕ → Option ℕ → Option ℕ
shifted a None = None
shifted a (Some i) = Some (a + i)

or_cond : (b : Bool) (x y : Option ℕ) (i : ℕ) → cond b (or_else x y) (Some i) ≡ or_else (cond b x (Some i)) y
or_cond true x y i = refl
or_cond false x y i = refl

pub stray_append : (i : ℕ) (A B ws : List ℕ) → length A ≤ length ws
    → first_stray_of i (A ++ B) ws ≡ or_else (first_stray_of i A ws) (first_stray_of (i + length A) B (drop (length A) ws))
stray_append i [] B ws h = ap (λ (k : ℕ). first_stray_of k B ws) (sym (add-zero i))
stray_append i (l ∷ A) B [] h = absurd (omega arith)
stray_append i (l ∷ A) B (x ∷ ws) h =
    let e : suc i + length A ≡ i + suc (length A) = omega arith in
    ap (λ (r : Option ℕ). cond (ltb x l) r (Some i)) (stray_append (suc i) A B ws (omega arith) ∙ ap (λ (k : ℕ). or_else (first_stray_of (suc i) A ws) (first_stray_of k B (drop (length A) ws))) e)
    ∙ or_cond (ltb x l) (first_stray_of (suc i) A ws) (first_stray_of (i + suc (length A)) B (drop (length A) ws)) i

shifted_cond : (a : ℕ) (b : Bool) (x : Option ℕ) (i : ℕ) → shifted a (cond b x (Some i)) ≡ cond b (shifted a x) (Some (a + i))
shifted_cond a true x i = refl
shifted_cond a false x i = refl

pub stray_shift : (a i : ℕ) (A ws : List ℕ) → first_stray_of (a + i) A ws ≡ shifted a (first_stray_of i A ws)
stray_shift a i [] ws = refl
stray_shift a i (l ∷ A) [] = refl
stray_shift a i (l ∷ A) (x ∷ ws) =
    let e : suc (a + i) ≡ a + suc i = omega arith in
    ap (λ (r : Option ℕ). cond (ltb x l) r (Some (a + i))) (ap (λ (k : ℕ). first_stray_of k A ws) e ∙ stray_shift a (suc i) A ws)
    ∙ sym (shifted_cond a (ltb x l) (first_stray_of (suc i) A ws) i)

-- only the words that have a limit count
pub stray_take : (i n : ℕ) (A ws : List ℕ) → length A ≡ n → first_stray_of i A (take n ws) ≡ first_stray_of i A ws
stray_take i n [] ws h = refl
stray_take i zero (l ∷ A) ws h = absurd (omega arith)
stray_take i (suc n) (l ∷ A) [] h = refl
stray_take i (suc n) (l ∷ A) (x ∷ ws) h = ap (λ (r : Option ℕ). cond (ltb x l) r (Some i)) (stray_take (suc i) n A ws (omega arith))

pub stray_within : (i k : ℕ) (A ws : List ℕ) → first_stray_of i A ws ≡ Some k → k < i + length A
stray_within i k [] ws e = absurd (let z : ◌≡◌ {A = ℕ} 0 1 = cc in omega arith)
stray_within i k (l ∷ A) [] e = absurd (let z : ◌≡◌ {A = ℕ} 0 1 = cc in omega arith)
stray_within i k (l ∷ A) (x ∷ ws) e = go (ltb x l) (stray_within (suc i) k A ws) e
  where
    go : (b : Bool) → (first_stray_of (suc i) A ws ≡ Some k → k < suc i + length A) → cond b (first_stray_of (suc i) A ws) (Some i) ≡ Some k → k < i + suc (length A)
    go true f q = omega (arith, f q)
    go false f q = let z : i ≡ k = cc in omega arith

-- ---- rows one after another

-- the row at a, whose words are looked at alone
module _ (w bits a : ℕ) (ws : List ℕ) (room : a + w ≤ length ws) where
  abbrev pub row_there : List ℕ
  row_there = take w (drop a ws)

  pub row_long : length row_there ≡ w
  row_long = simp (length-take, length-drop) (omega arith)

  pub row_stray : first_stray_of a (row_limits w bits) (drop a ws) ≡ shifted a (first_stray_of 0 (row_limits (length row_there) bits) row_there)
  row_stray =
      ap (λ (k : ℕ). first_stray_of k (row_limits w bits) (drop a ws)) (sym (add-zero a)) ∙ stray_shift a 0 (row_limits w bits) (drop a ws)
      ∙ ap (shifted a) (sym (stray_take 0 w (row_limits w bits) (drop a ws) (length_row_limits w bits))
      ∙ sym (ap (λ (k : ℕ). first_stray_of 0 (row_limits k bits) row_there) row_long))

  pub rows_stray : (j count b : ℕ) → j < count → a + w ≡ b
      → first_stray_of a (many_limits w bits (count - j)) (drop a ws)
      ≡ or_else (shifted a (first_stray_of 0 (row_limits (length row_there) bits) row_there)) (first_stray_of b (many_limits w bits (count - (j + 1))) (drop b ws))
  rows_stray j count b h e =
      let d : count - j ≡ suc (count - (j + 1)) = omega arith in
      let l : length (row_limits w bits) ≤ length (drop a ws) = simp (length-drop) (omega (arith, length_row_limits w bits)) in
      ap (λ (k : ℕ). first_stray_of a (many_limits w bits k) (drop a ws)) d
      ∙ stray_append a (row_limits w bits) (many_limits w bits (count - (j + 1))) (drop a ws) l
      ∙ ap₂ or_else row_stray
      (ap₂ (λ (k : ℕ) (xs : List ℕ). first_stray_of k (many_limits w bits (count - (j + 1))) xs) (ap (λ (k : ℕ). a + k) (length_row_limits w bits) ∙ e)
      (drop-drop (length (row_limits w bits)) a ws ∙ ap (λ (k : ℕ). drop k ws) (ap (λ (k : ℕ). a + k) (length_row_limits w bits) ∙ e)))

  pub row_inside : (i : ℕ) → Some i ≡ first_stray_of 0 (row_limits (length row_there) bits) row_there → i < w
  row_inside i e = omega (arith, stray_within 0 i (row_limits (length row_there) bits) row_there (sym e), length_row_limits (length row_there) bits, row_long)

  -- the steps of the loop over rows
  pub rows_here : (j count i : ℕ) (all : Option ℕ) → j < count → Some i ≡ first_stray_of 0 (row_limits (length row_there) bits) row_there
      → first_stray_of a (many_limits w bits (count - j)) (drop a ws) ≡ all → Some (a + i) ≡ all
  rows_here j count i all h e inv =
      ap (λ (r : Option ℕ). or_else (shifted a r) (first_stray_of (a + w) (many_limits w bits (count - (j + 1))) (drop (a + w) ws))) e ∙ sym (rows_stray j count (a + w) h refl) ∙ inv

  pub rows_more : (j count b : ℕ) (all : Option ℕ) → j < count → a + w ≡ b → None ≡ first_stray_of 0 (row_limits (length row_there) bits) row_there
      → first_stray_of a (many_limits w bits (count - j)) (drop a ws) ≡ all → first_stray_of b (many_limits w bits (count - (j + 1))) (drop b ws) ≡ all
  rows_more j count b all h n e inv =
      ap (λ (r : Option ℕ). or_else (shifted a r) (first_stray_of b (many_limits w bits (count - (j + 1))) (drop b ws))) e ∙ sym (rows_stray j count b h n) ∙ inv

pub rows_end : (w bits a : ℕ) (ws : List ℕ) (j count : ℕ) (all : Option ℕ) → count ≤ j → first_stray_of a (many_limits w bits (count - j)) (drop a ws) ≡ all → None ≡ all
rows_end w bits a ws j count all h inv =
    let z : 0 ≡ count - j = omega arith in
    ap (λ (k : ℕ). first_stray_of a (many_limits w bits k) (drop a ws)) z ∙ inv

-- a row that a call looks at, from its own first word on
pub row_seen : (w bits a : ℕ) (ws row : List ℕ) (r : Option ℕ) → row ≡ take w (drop a ws) → r ≡ first_stray_of 0 (row_limits (length row) bits) row → r ≡ first_stray_of 0 (row_limits (length (take w (drop a ws))) bits) (take w (drop a ws))
row_seen w bits a ws row r is e = e ∙ ap (λ (xs : List ℕ). first_stray_of 0 (row_limits (length xs) bits) xs) is

-- rows at a place, as a call for them alone sees them
pub part_stray : (w bits count at a b : ℕ) (ws part : List ℕ) (r : Option ℕ) → a ≡ w → b ≡ count → part ≡ drop at ws → r ≡ first_stray_of 0 (many_limits a bits b) part → shifted at r ≡ first_stray_of at (many_limits w bits count) (drop at ws)
part_stray w bits count at a b ws part r ea eb is e =
    ap (shifted at) (e ∙ ap₂ (λ (x y : ℕ). first_stray_of 0 (many_limits x bits y) part) ea eb ∙ ap (first_stray_of 0 (many_limits w bits count)) is)
    ∙ sym (ap (λ (k : ℕ). first_stray_of k (many_limits w bits count) (drop at ws)) (sym (add-zero at)) ∙ stray_shift at 0 (many_limits w bits count) (drop at ws))

-- ---- where there are none

pub none_or : (x y : Option ℕ) → or_else x y ≡ None → (x ≡ None) × (y ≡ None)
none_or None y e = (refl, e)
none_or (Some x) y e = absurd (let z : ◌≡◌ {A = ℕ} 0 1 = cc in omega arith)

pub none_append : (i : ℕ) (A B ws : List ℕ) → length A ≤ length ws → first_stray_of i (A ++ B) ws ≡ None
    → (first_stray_of i A ws ≡ None) × (first_stray_of (i + length A) B (drop (length A) ws) ≡ None)
none_append i A B ws h e = none_or _ _ (sym (stray_append i A B ws h) ∙ e)

none_word : (b : Bool) (r : Option ℕ) (i : ℕ) → cond b r (Some i) ≡ None → (b ≡ true) × (r ≡ None)
none_word true r i e = (refl, e)
none_word false r i e = absurd (let z : ◌≡◌ {A = ℕ} 0 1 = cc in omega arith)

pub row_none : (i w bits : ℕ) (ws : List ℕ) → w ≤ length ws → bits ≤ 64 * w → first_stray_of i (row_limits w bits) ws ≡ None → value (take w ws) < 2 ^ bits
row_none i zero bits ws h l e = pow_pos bits
row_none i (suc w) bits [] h l e = absurd (omega arith)
row_none i (suc w) bits (x ∷ ws) h l e =
    let p = none_word _ _ i e in
    let low : x < 2 ^ min 64 bits = ltb-true x (2 ^ min 64 bits) p.0 in
    let rest : value (take w ws) < 2 ^ (bits - 64) = row_none (suc i) w (bits - 64) ws (omega arith) (omega arith) p.1 in
    elim (dec_le bits 64) [
      | yes s ↦
          let m : min 64 bits ≡ bits = min-eq_right s in
          let z : bits - 64 ≡ 0 = omega arith in
          let a : x < 2 ^ bits = subst (λ (k : ℕ). x < 2 ^ k) m low in
          let b : value (take w ws) < 2 ^ 0 = subst (λ (k : ℕ). value (take w ws) < 2 ^ k) z rest in
          omega arith
      | no s ↦
          let m : min 64 bits ≡ 64 = min-eq_left (omega arith) in
          let a : x < 2 ^ 64 = subst (λ (k : ℕ). x < 2 ^ k) m low in
          let q : 64 + (bits - 64) ≡ bits = omega arith in
          let b : 2 ^ bits ≡ 2 ^ 64 * 2 ^ (bits - 64) = ap (λ (k : ℕ). 2 ^ k) (sym q) ∙ pow-add 2 64 (bits - 64) in
          omega arith
    ]

pub rows_none : (i w bits count : ℕ) (ws : List ℕ) → count * w ≤ length ws → bits ≤ 64 * w → first_stray_of i (many_limits w bits count) ws ≡ None → Below bits (rows w count ws)
rows_none i w bits zero ws h l e = tt
rows_none i w bits (suc count) ws h l e =
    let k = length_row_limits w bits in
    let s = suc-mul count w in
    let p = none_append i (row_limits w bits) (many_limits w bits count) ws (omega arith) e in
    let q : first_stray_of (i + w) (many_limits w bits count) (drop w ws) ≡ None = subst (λ (n : ℕ). first_stray_of (i + n) (many_limits w bits count) (drop n ws) ≡ None) k p.1 in
    let r : count * w ≤ length (drop w ws) = simp length-drop (omega arith) in
    (row_none i w bits ws (omega arith) l p.0, rows_none (i + w) w bits count (drop w ws) r l q)

-- ---- a whole set

module _ (p : Params) where
  abbrev pub block_limits : List ℕ
  block_limits = many_limits (block_words_of p) p.n (p.r * p.n + p.r)

  abbrev pub key_limits : List ℕ
  key_limits = many_limits (key_words_of p) p.k ((p.r + 1) * p.n)

  abbrev pub inverse_limits : List ℕ
  inverse_limits = many_limits (block_words_of p) p.n (p.r * p.n)

  pub before_keys : (p.r * p.n + p.r) * block_words_of p ≡ keys_place p
  before_keys = add-mul (p.r * p.n) p.r (block_words_of p) ∙ ap (λ (k : ℕ). k + p.r * block_words_of p) (mul_assoc p.r p.n (block_words_of p))

  pub before_inverses : keys_place p + (p.r + 1) * p.n * key_words_of p ≡ inverses_place p
  before_inverses = ap (λ (k : ℕ). keys_place p + k) (mul_assoc (p.r + 1) p.n (key_words_of p))

  pub to_the_end : inverses_place p + p.r * p.n * block_words_of p ≡ prepared_words_of p
  to_the_end = omega (arith, mul_assoc p.r p.n (block_words_of p))

  long_blocks : length block_limits ≡ keys_place p
  long_blocks = length_many_limits (block_words_of p) p.n (p.r * p.n + p.r) ∙ before_keys

  long_keys : keys_place p + length key_limits ≡ inverses_place p
  long_keys = ap (λ (k : ℕ). keys_place p + k) (length_many_limits (key_words_of p) p.k ((p.r + 1) * p.n)) ∙ before_inverses

  module _ (ws : List ℕ) (room : prepared_words_of p ≤ length ws) where
    blocks_fit : length block_limits ≤ length ws
    blocks_fit = omega (arith, long_blocks, long_keys, to_the_end)

    keys_fit : length key_limits ≤ length (drop (keys_place p) ws)
    keys_fit = simp length-drop (omega (arith, long_blocks, long_keys, to_the_end))

    pub set_stray : first_stray_of 0 (word_limits p) ws
        ≡ or_else (first_stray_of 0 block_limits (drop 0 ws)) (or_else (first_stray_of (keys_place p) key_limits (drop (keys_place p) ws)) (first_stray_of (inverses_place p) inverse_limits (drop (inverses_place p) ws)))
    set_stray =
        let zero-keys : 0 + length block_limits ≡ keys_place p = omega (arith, long_blocks) in
        stray_append 0 block_limits (key_limits ++ inverse_limits) ws blocks_fit
        ∙ ap (or_else (first_stray_of 0 block_limits ws))
        (ap₂ (λ (i j : ℕ). first_stray_of i (key_limits ++ inverse_limits) (drop j ws)) zero-keys long_blocks
        ∙ stray_append (keys_place p) key_limits inverse_limits (drop (keys_place p) ws) keys_fit
        ∙ ap (or_else (first_stray_of (keys_place p) key_limits (drop (keys_place p) ws)))
        (ap₂ (λ (i : ℕ) (xs : List ℕ). first_stray_of i inverse_limits xs) long_keys (drop-drop (length key_limits) (keys_place p) ws ∙ ap (λ (k : ℕ). drop k ws) long_keys)))

    pub set_none : first_stray_of 0 (word_limits p) ws ≡ None
        → (first_stray_of 0 block_limits ws ≡ None) × (first_stray_of (keys_place p) key_limits (drop (keys_place p) ws) ≡ None) × (first_stray_of (inverses_place p) inverse_limits (drop (inverses_place p) ws) ≡ None)
    set_none e =
        let a = none_or _ _ (sym set_stray ∙ e) in
        let b = none_or _ _ a.1 in
        (a.0, b.0, b.1)

    -- what the calls for the three parts tell of the whole
    module _ (w v a b : ℕ) (ew : w ≡ block_words_of p) (ev : v ≡ key_words_of p) (ea : a ≡ keys_place p) (eb : b ≡ inverses_place p) (x y z : Option ℕ)
        (ex : x ≡ first_stray_of 0 (many_limits w p.n (p.r * p.n + p.r)) (drop 0 ws))
        (ey : y ≡ first_stray_of a (many_limits v p.k ((p.r + 1) * p.n)) (drop a ws))
        (ez : z ≡ first_stray_of b (many_limits w p.n (p.r * p.n)) (drop b ws)) where
      pub set_answer : or_else x (or_else y z) ≡ first_stray_of 0 (word_limits p) ws
      set_answer =
          ap₂ or_else (ex ∙ ap (λ (k : ℕ). first_stray_of 0 (many_limits k p.n (p.r * p.n + p.r)) (drop 0 ws)) ew)
          (ap₂ or_else (ey ∙ ap₂ (λ (k i : ℕ). first_stray_of i (many_limits k p.k ((p.r + 1) * p.n)) (drop i ws)) ev ea)
          (ez ∙ ap₂ (λ (k i : ℕ). first_stray_of i (many_limits k p.n (p.r * p.n)) (drop i ws)) ew eb))
          ∙ sym set_stray
