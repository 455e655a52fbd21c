-- Rows in memory, and what the writes of the elimination do to them.
use Rattle.std.proofs.Common.{◌≡◌, ℕ, zero, suc, ◌+◌, ◌-◌, ◌*◌, ◌/◌, ◌%◌, ◌^◌, ◌<◌, ◌≤◌, ◌≢◌, List, ◌++◌, map, length, get_or, take, drop, set, sym, ap, ◌∙◌, subst, mul-le-mul_right, suc-mul, add_comm, one-mul, zero-mul, arith, length-append, length-drop, length-take}
use native.Mathlib.Decide.{ℕ_discrete, dec_le}
use Rattle.std.proofs.lemmas.Nat.{shl_whole}
use Rattle.std.proofs.lemmas.List.{drop-drop, drop-take, take_all, take_at, get_or-map}
use Rattle.std.proofs.lemmas.Slice.{take-put_mid, take-put_mid_below, between-put_mid, drop-put_mid}
use borrow.Rule.Slice.PartMut.{put_mid}
use lib.Bits.{bit_or, bit_xor}
use Rattle.bits.specs.Gf2.{Below, Words, dot, mul, rows, value}
use Rattle.bits.specs.Gauss.{Carried, Solved, clear, row_at}
use Rattle.bits.proofs.Products.{mul_below}
use Rattle.bits.proofs.Vectors.{length_put_mid, length_rows, row_ends, value_append, value_below, value_bit, value_high, words_drop, words_take}
use Rattle.bits.proofs.Gauss.{carried_trans, step_carried, step_solved}

-- row k of the list of rows
pub rows_at : (w n k : ℕ) (ws : List ℕ) → k < n → get_or (rows w n ws) k 0 ≡ row_at w ws k
rows_at w zero k ws h = absurd (omega arith)
rows_at w (suc n) zero ws h = rw (zero-mul w)
rows_at w (suc n) (suc k) ws h =
    rows_at w n k (drop w ws) (omega arith)
    ∙ ap (λ (xs : List ℕ). value (take w xs)) (drop-drop (k * w) w ws ∙ ap (λ (i : ℕ). drop i ws) (add_comm w (k * w) ∙ sym (suc-mul k w)))

pub rows_map : (w n k : ℕ) (t : ℕ → ℕ) (xs ys : List ℕ) → k < n → rows w n ys ≡ map t (rows w n xs) → row_at w ys k ≡ t (row_at w xs k)
rows_map w n k t xs ys h e =
    sym (rows_at w n k ys h) ∙ ap (λ (rs : List ℕ). get_or rs k 0) e
    ∙ get_or-map t (rows w n xs) k 0 0 (subst (λ (m : ℕ). k < m) (sym (length_rows w n xs)) h) ∙ ap t (rows_at w n k xs h)

pub rows_below : (w n m : ℕ) (ws : List ℕ) → ((k : ℕ) → k < n → row_at w ws k < 2 ^ m) → Below m (rows w n ws)
rows_below w zero m ws h = tt
rows_below w (suc n) m ws h = (
  subst (λ (i : ℕ). i < 2 ^ m) (sym (rows_at w (suc n) 0 ws (omega arith))) (h 0 (omega arith)),
  rows_below w n m (drop w ws) (λ k l. subst (λ (i : ℕ). i < 2 ^ m) (sym (rows_at w (suc n) (suc k) ws (omega arith)) ∙ rows_at w n k (drop w ws) l) (h (suc k) (omega arith))),
)

-- row c is written over
module _ (w n c : ℕ) (xs new : List ℕ) (h : c < n) (room : length xs ≡ n * w) (size : length new ≡ w) where
  pub put_same : row_at w (put_mid (c * w) w xs new) c ≡ value new
  put_same =
      let e : (c * w + w) - c * w ≡ w = omega arith in
      ap (λ (k : ℕ). value (take k (drop (c * w) (put_mid (c * w) w xs new)))) (sym e)
      ∙ ap value (between-put_mid (c * w) w xs new (c * w + w) (omega (arith, row_ends c n w h)) (omega arith))

  pub put_other : (k : ℕ) → k < n → k ≢ c → row_at w (put_mid (c * w) w xs new) k ≡ row_at w xs k
  put_other k l d = elim (dec_le k c) [
    | yes s ↦
        let f : k * w + w ≤ c * w = omega (arith, suc-mul k w, mul-le-mul_right {m = suc k} {n = c} w (omega arith)) in
        ap value (sym (drop-take (k * w) w (put_mid (c * w) w xs new))
        ∙ ap (drop (k * w)) (take-put_mid_below (c * w) w xs new (k * w + w) f (omega (arith, row_ends c n w h))) ∙ drop-take (k * w) w xs)
    | no s ↦
        let f : c * w + w ≤ k * w = omega (arith, suc-mul c w, mul-le-mul_right {m = suc c} {n = k} w (omega arith)) in
        ap (λ (ys : List ℕ). value (take w ys)) (drop-put_mid (c * w) w xs new (k * w) f (omega (arith, row_ends c n w h)) size)
  ]

-- a row is of at most 64 w digits
pub row_below : (w k : ℕ) (ws : List ℕ) → Words ws → k * w + w ≤ length ws → row_at w ws k < 2 ^ (64 * w)
row_below w k ws f h =
    let e : length (take w (drop (k * w) ws)) ≡ w = simp (length-take, length-drop) (omega arith) in
    subst (λ (m : ℕ). row_at w ws k < 2 ^ (64 * m)) e (value_below (take w (drop (k * w) ws)) (words_take w (drop (k * w) ws) (words_drop (k * w) ws f)))

-- the word operation of `put_bit`
pub bit_put : (ws : List ℕ) (k : ℕ) → k < 64 * length ws → value ws < 2 ^ k
    → value (set ws (k / 64) (bit_or (get_or ws (k / 64) 0) (1 * 2 ^ (k % 64) % 2 ^ 64))) ≡ value ws + 2 ^ k
bit_put ws k h l =
    let e : 1 * 2 ^ (k % 64) % 2 ^ 64 ≡ 1 * 2 ^ (k % 64) = shl_whole 1 1 (k % 64) 64 (omega arith) (omega arith) in
    rw e (value_bit ws k 1 (omega arith) l ∙ ap (λ (x : ℕ). value ws + x) (one-mul (2 ^ k)))

-- one more row written
pub put_more : (w n i m : ℕ) (xs new : List ℕ) (t : ℕ → ℕ) → i < n → length xs ≡ n * w → length new ≡ w → m ≡ w
    → ((k : ℕ) → k < i → row_at w xs k ≡ t k) → value new ≡ t i → (k : ℕ) → k < i + 1 → row_at w (put_mid (i * w) m xs new) k ≡ t k
put_more w n i m xs new t h room size e before here k l =
    subst (λ (j : ℕ). row_at w (put_mid (i * w) j xs new) k ≡ t k) (sym e) (elim (ℕ_discrete k i) [
      | yes q ↦ ap (row_at w (put_mid (i * w) w xs new)) q ∙ put_same w n i xs new h room size ∙ here ∙ ap t (sym q)
      | no d ↦ put_other w n i xs new h room size k (omega arith) d ∙ before k (omega arith)
    ])

-- the two writes of `augment_row`
pub augmented : (w : ℕ) (from new to high : List ℕ) → length from ≡ w → length to ≡ 2 * w → new ≡ from → length high ≡ w
    → value (put_mid w (length (new ++ drop w to) - w) (new ++ drop w to) high) ≡ value from + 2 ^ (64 * w) * value high
augmented w from new to high lf lt is lh =
    let xs : List ℕ = new ++ drop w to in
    let ln : length new ≡ w = ap length is ∙ lf in
    let lx : length xs ≡ 2 * w = simp (length-append, length-drop) (omega arith) in
    let all : List ℕ = put_mid w (length xs - w) xs high in
    let la : length all ≡ 2 * w = length_put_mid w xs high (omega arith) (omega arith) ∙ lx in
    let e : all ≡ from ++ high =
    sym (take_all (2 * w) all (omega arith)) ∙ take-put_mid w (length xs - w) xs high (2 * w) (omega arith) (omega arith)
    ∙ ap (λ (ys : List ℕ). ys ++ high) (take_at new (drop w to) w ln ∙ is) in
    ap value e ∙ value_append from high ∙ ap (λ (k : ℕ). value from + 2 ^ (64 * k) * value high) lf

-- the memory of `reduce`
pub reduced : (w n c r v m : ℕ) (work copy pivot cleared new : List ℕ) → c ≤ r → r < n → dot (2 ^ c) (row_at w work r) ≡ 1 → length cleared ≡ n * w → length pivot ≡ w
    → v ≡ w → m ≡ w → value copy ≡ row_at w work c → value pivot ≡ bit_xor (value copy) ((1 - dot (2 ^ c) (value copy)) * row_at w work r)
    → rows v n cleared ≡ map (clear (2 ^ c) (value pivot)) (rows v n work) → new ≡ pivot → Solved n c (row_at w work)
    → Solved n (c + 1) (row_at w (put_mid (c * w) m cleared new)) × Carried n (row_at w work) (row_at w (put_mid (c * w) m cleared new))
reduced w n c r v m work copy pivot cleared new cr rn has room size ev em at is clears put solved =
    subst (λ (j : ℕ). Solved n (c + 1) (row_at w (put_mid (c * w) j cleared new)) × Carried n (row_at w work) (row_at w (put_mid (c * w) j cleared new))) (sym em)
    (step_solved n c r (value pivot) f g cr rn has is' here other solved, step_carried n c r (value pivot) f g cr rn has is' here other)
  where
    f : ℕ → ℕ
    f = row_at w work

    g : ℕ → ℕ
    g = row_at w (put_mid (c * w) w cleared new)

    fit : length new ≡ w
    fit = ap length put ∙ size

    is' : value pivot ≡ bit_xor (row_at w work c) ((1 - dot (2 ^ c) (row_at w work c)) * row_at w work r)
    is' = is ∙ ap (λ (x : ℕ). bit_xor x ((1 - dot (2 ^ c) x) * row_at w work r)) at

    here : row_at w (put_mid (c * w) w cleared new) c ≡ value pivot
    here = put_same w n c cleared new (omega arith) room fit ∙ ap value put

    other : (k : ℕ) → k < n → k ≢ c → row_at w (put_mid (c * w) w cleared new) k ≡ clear (2 ^ c) (value pivot) (row_at w work k)
    other k h d = put_other w n c cleared new (omega arith) room fit k h d
        ∙ rows_map w n k (clear (2 ^ c) (value pivot)) work cleared h (subst (λ (j : ℕ). rows j n cleared ≡ map (clear (2 ^ c) (value pivot)) (rows j n work)) ev clears)

-- the second half of row k
pub row_high : (w k : ℕ) (ws : List ℕ) → Words ws → k * (2 * w) + 2 * w ≤ length ws
    → value (take (length (take (2 * w) (drop (k * (2 * w)) ws)) - w) (drop w (take (2 * w) (drop (k * (2 * w)) ws)))) ≡ row_at (2 * w) ws k / 2 ^ (64 * w)
row_high w k ws f h =
    let xs : List ℕ = take (2 * w) (drop (k * (2 * w)) ws) in
    ap value (take_all (length xs - w) (drop w xs) (simp length-drop (omega arith)))
    ∙ value_high w xs (words_take (2 * w) (drop (k * (2 * w)) ws) (words_drop (k * (2 * w)) ws f)) (simp (length-take, length-drop) (omega arith))

-- the step of `eliminate`
pub eliminate_more : (n c v w : ℕ) (first old new : List ℕ) → v ≡ w → Solved n (c + 1) (row_at v new) → Carried n (row_at v old) (row_at v new)
    → Carried n (row_at w first) (row_at w old) → Solved n (c + 1) (row_at w new) × Carried n (row_at w first) (row_at w new)
eliminate_more n c v w first old new e solved carried before = (
  subst (λ (j : ℕ). Solved n (c + 1) (row_at j new)) e solved,
  carried_trans n (row_at w first) (row_at w old) (row_at w new) before (subst (λ (j : ℕ). Carried n (row_at j old) (row_at j new)) e carried),
)

pub mul_rows_below : (w n x : ℕ) (ws : List ℕ) → mul (rows w n ws) x < 2 ^ n
mul_rows_below w n x ws = subst (λ (k : ℕ). mul (rows w n ws) x < 2 ^ k) (length_rows w n ws) (mul_below (rows w n ws) x)
