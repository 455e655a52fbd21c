-- Vectors in words and matrices in rows of words, and the steps of the loops over them.
use Rattle.std.proofs.Common.{◌≡◌, ℕ, zero, suc, ◌+◌, ◌-◌, ◌*◌, ◌/◌, ◌%◌, ◌^◌, ◌<◌, ◌≤◌, min, List, [], ◌∷◌, ◌++◌, map, length, get_or, take, drop, set, replicate, sym, refl, ap, ◌∙◌, subst, ap₂, mul-le-mul_right, mul_assoc, suc-mul, mul_comm, add-mul, add_comm, lt_of_mul-lt-mul_right, one-mul, pow-suc, zero-add, zero-mul, mul_left_comm, add-one, arith, length-append, length-drop, length-take}
use native.Mathlib.Decide.{dec_le}
use Rattle.std.proofs.lemmas.Nat.{pow-add, pow_below, shl_whole, shr_high}
use lib.Arith.{bin_ind}
use lib.Bits.{bit_and, bit_xor, bit_or, and_block, and_lt, or_shifted_r, xor_block, xor_zero_r, xor_assoc}
use lib.Count.{ones, ones_cat}
use Rattle.std.proofs.lemmas.List.{drop-drop, drop_more, drop_all, drop_at, drop-take, get_or_past, take-append-drop, take_at, take-take, map-append}
use Rattle.std.proofs.lemmas.Slice.{take-put_mid_below, between-put_mid, drop-put_mid}
use borrow.Rule.Slice.PartMut.{put_mid, same_len_mid}
use Rattle.std.specs.List.{fold, zip}
use Rattle.bits.specs.Gf2.{Below, Independent, Words, dot, flat, mul, parity, rows, value, words_of}
use Rattle.bits.specs.Gauss.{clear}
use Rattle.bits.proofs.Products.{parity_step, parity_below, parity_ones, xor_low, xor_half, dot_below, dot_zero_l, dot_zero_r, mul_below}
use Rattle.bits.proofs.Rank.{dot_power, cleared_on, cleared_back, no_zero_row}

pub parity_zero : parity 0 ≡ 0
unfolding parity
parity_zero = refl

mod_swap : (p q c d : ℕ) → ((p + q) % 2 + (c + d) % 2) % 2 ≡ ((p + c) % 2 + (q + d) % 2) % 2
mod_swap p q c d = omega arith

pub parity_xor : (a b : ℕ) → parity (bit_xor a b) ≡ (parity a + parity b) % 2
parity_xor =
    bin_ind (λ (a : ℕ). (b : ℕ) → parity (bit_xor a b) ≡ (parity a + parity b) % 2)
    (λ b. omega (arith, parity_below b, parity_zero))
    (λ a ih b.
    let e : parity (bit_xor a b / 2) ≡ (parity (a / 2) + parity (b / 2)) % 2 = rw (xor_half a b) (ih (b / 2)) in
    let l : bit_xor a b % 2 ≡ (a % 2 + b % 2) % 2 = omega (arith, xor_low a b) in
    parity_step (bit_xor a b) ∙ ap₂ (λ (x y : ℕ). (x + y) % 2) l e ∙ mod_swap (a % 2) (b % 2) (parity (a / 2)) (parity (b / 2))
    ∙ sym (ap₂ (λ (x y : ℕ). (x + y) % 2) (parity_step a) (parity_step b)))

pub parity_cat : (k a r : ℕ) → r < 2 ^ k → parity (a * 2 ^ k + r) ≡ (parity a + parity r) % 2
parity_cat k a r h = omega (arith, parity_ones (a * 2 ^ k + r), parity_ones a, parity_ones r, ones_cat k a r h)

-- the dot product, one word at a time
pub dot_word : (r s a b : ℕ) → r < 2 ^ 64 → s < 2 ^ 64 → dot (r + 2 ^ 64 * a) (s + 2 ^ 64 * b) ≡ (parity (bit_and r s) + dot a b) % 2
unfolding dot
dot_word r s a b hr hs =
    let ea : r + 2 ^ 64 * a ≡ a * 2 ^ 64 + r = omega arith in
    let eb : s + 2 ^ 64 * b ≡ b * 2 ^ 64 + s = omega arith in
    ap₂ (λ (x y : ℕ). parity (bit_and x y)) ea eb ∙ ap parity (and_block 64 a b r s hr hs)
    ∙ parity_cat 64 (bit_and a b) (bit_and r s) (and_lt 64 r s hr hs) ∙ omega arith

-- ---- a vector's words and its number

pub word_power : (k : ℕ) → 2 ^ (64 * suc k) ≡ 2 ^ 64 * 2 ^ (64 * k)
word_power k =
    let e : 64 * suc k ≡ 64 + 64 * k = omega arith in
    ap (λ (x : ℕ). 2 ^ x) e ∙ pow-add 2 64 (64 * k)

pub value_set : (ws : List ℕ) (k x : ℕ) → k < length ws → value (set ws k x) + get_or ws k 0 * 2 ^ (64 * k) ≡ value ws + x * 2 ^ (64 * k)
value_set [] k x h = absurd (omega arith)
value_set (w ∷ ws) zero x h = omega arith
value_set (w ∷ ws) (suc k) x h =
    let ih = value_set ws k x (omega arith) in
    let e : (y : ℕ) → y * 2 ^ (64 * suc k) ≡ 2 ^ 64 * (y * 2 ^ (64 * k)) = λ y. ap (λ (p : ℕ). y * p) (word_power k) ∙ mul_left_comm y (2 ^ 64) (2 ^ (64 * k)) in
    omega (arith, ih, e x, e (get_or ws k 0))

pub word_le : (ws : List ℕ) (k : ℕ) → get_or ws k 0 * 2 ^ (64 * k) ≤ value ws
word_le [] k = omega (arith, zero-mul (2 ^ (64 * k)))
word_le (w ∷ ws) zero = omega arith
word_le (w ∷ ws) (suc k) =
    let e : (y : ℕ) → y * 2 ^ (64 * suc k) ≡ 2 ^ 64 * (y * 2 ^ (64 * k)) = λ y. ap (λ (p : ℕ). y * p) (word_power k) ∙ mul_left_comm y (2 ^ 64) (2 ^ (64 * k)) in
    omega (arith, word_le ws k, e (get_or ws k 0))

place : (i : ℕ) → 2 ^ i ≡ 2 ^ (i % 64) * 2 ^ (64 * (i / 64))
place i =
    let e : i ≡ i % 64 + 64 * (i / 64) = omega arith in
    ap (λ (x : ℕ). 2 ^ x) e ∙ pow-add 2 (i % 64) (64 * (i / 64))

-- ---- words and numbers, one to one

pub length_words_of : (w x : ℕ) → length (words_of w x) ≡ w
length_words_of zero x = refl
length_words_of (suc w) x = ap suc (length_words_of w (x / 2 ^ 64))

pub words_words_of : (w x : ℕ) → Words (words_of w x)
words_words_of zero x i = omega arith
words_words_of (suc w) x zero = omega arith
words_words_of (suc w) x (suc i) = words_words_of w (x / 2 ^ 64) i

pub value_words_of : (w x : ℕ) → x < 2 ^ (64 * w) → value (words_of w x) ≡ x
value_words_of zero x h = omega arith
value_words_of (suc w) x h = omega (arith, value_words_of w (x / 2 ^ 64) (omega (arith, word_power w)))

pub words_of_value : (ws : List ℕ) → Words ws → words_of (length ws) (value ws) ≡ ws
words_of_value [] f = refl
words_of_value (w ∷ ws) f =
    let low : (w + 2 ^ 64 * value ws) % 2 ^ 64 ≡ w = omega (arith, f 0) in
    let high : (w + 2 ^ 64 * value ws) / 2 ^ 64 ≡ value ws = omega (arith, f 0) in
    ap₂ (λ (a : ℕ) (b : List ℕ). a ∷ b) low (ap (words_of (length ws)) high ∙ words_of_value ws (λ i. f (suc i)))

pub value_below : (ws : List ℕ) → Words ws → value ws < 2 ^ (64 * length ws)
value_below [] f = omega arith
value_below (w ∷ ws) f =
    omega (arith, f 0, value_below ws (λ i. f (suc i)), word_power (length ws))

pub value_one : (xs ys : List ℕ) → length xs ≡ length ys → Words xs → Words ys → value xs ≡ value ys → xs ≡ ys
value_one [] [] l f g e = refl
value_one [] (y ∷ ys) l f g e = absurd (omega arith)
value_one (x ∷ xs) [] l f g e = absurd (omega arith)
value_one (x ∷ xs) (y ∷ ys) l f g e =
    ap₂ (λ (a : ℕ) (b : List ℕ). a ∷ b) (omega (arith, f 0, g 0))
    (value_one xs ys (omega arith) (λ i. f (suc i)) (λ i. g (suc i)) (omega (arith, f 0, g 0)))

-- a vector in two parts
pub value_append : (xs ys : List ℕ) → value (xs ++ ys) ≡ value xs + 2 ^ (64 * length xs) * value ys
value_append [] ys = omega arith
value_append (x ∷ xs) ys =
    omega (arith, value_append xs ys, ap (λ (p : ℕ). p * value ys) (word_power (length xs)) ∙ mul_assoc (2 ^ 64) (2 ^ (64 * length xs)) (value ys))

pub words_take : (w : ℕ) (ws : List ℕ) → Words ws → Words (take w ws)
words_take zero ws f i = omega arith
words_take (suc w) [] f i = f i
words_take (suc w) (x ∷ ws) f zero = f 0
words_take (suc w) (x ∷ ws) f (suc i) = words_take w ws (λ j. f (suc j)) i

pub words_drop : (w : ℕ) (ws : List ℕ) → Words ws → Words (drop w ws)
words_drop zero ws f = f
words_drop (suc w) [] f = f
words_drop (suc w) (x ∷ ws) f = words_drop w ws (λ j. f (suc j))

pub words_append : (xs ys : List ℕ) → Words xs → Words ys → Words (xs ++ ys)
words_append [] ys f g = g
words_append (x ∷ xs) ys f g = elim [ zero ↦ f 0 | suc i ↦ words_append xs ys (λ j. f (suc j)) g i ]

-- the vector past its first w words
pub value_high : (w : ℕ) (xs : List ℕ) → Words xs → w ≤ length xs → value (drop w xs) ≡ value xs / 2 ^ (64 * w)
value_high w xs f h =
    let e : length (take w xs) ≡ w = simp length-take (omega arith) in
    let b : value (take w xs) < 2 ^ (64 * w) = subst (λ (m : ℕ). value (take w xs) < 2 ^ (64 * m)) e (value_below (take w xs) (words_take w xs f)) in
    let s : value xs ≡ value (drop w xs) * 2 ^ (64 * w) + value (take w xs) =
    ap value (sym (take-append-drop w xs)) ∙ value_append (take w xs) (drop w xs)
    ∙ ap (λ (m : ℕ). value (take w xs) + 2 ^ (64 * m) * value (drop w xs)) e ∙ omega (arith, mul_comm (2 ^ (64 * w)) (value (drop w xs))) in
    sym (ap (λ (v : ℕ). v / 2 ^ (64 * w)) s ∙ shr_high (value (drop w xs)) (64 * w) (value (take w xs)) b)

-- ---- one more row

mul_rows_suc : (w i : ℕ) (ws : List ℕ) (v : ℕ)
    → mul (rows w (suc i) ws) v ≡ mul (rows w i ws) v + dot (value (take w (drop (i * w) ws))) v * 2 ^ i
mul_rows_suc w zero ws v = rw (zero-mul w) (omega arith)
mul_rows_suc w (suc i) ws v =
    let d : ℕ = dot (value (take w (drop (suc i * w) ws))) v in
    let e : drop (i * w) (drop w ws) ≡ drop (suc i * w) ws = drop-drop (i * w) w ws ∙ ap (λ (k : ℕ). drop k ws) (add_comm w (i * w) ∙ sym (suc-mul i w)) in
    let ih : mul (rows w (suc i) (drop w ws)) v ≡ mul (rows w i (drop w ws)) v + d * 2 ^ i = rw (← e) (mul_rows_suc w i (drop w ws) v) in
    let p : d * 2 ^ suc i ≡ 2 * (d * 2 ^ i) = ap (λ (k : ℕ). d * k) (pow-suc 2 i ∙ mul_comm (2 ^ i) 2) ∙ mul_left_comm d 2 (2 ^ i) in
    omega (arith, ih, p)

pub mul_rows_more : (w i : ℕ) (ws : List ℕ) (v : ℕ)
    → mul (rows w (i + 1) ws) v ≡ mul (rows w i ws) v + dot (value (take w (drop (i * w) ws))) v * 2 ^ i
mul_rows_more w i ws v = rw add-one (mul_rows_suc w i ws v)

pub length_rows : (w n : ℕ) (ws : List ℕ) → length (rows w n ws) ≡ n
length_rows w zero ws = refl
length_rows w (suc n) ws = ap suc (length_rows w n (drop w ws))

-- a bit written past all that is written
pub value_bit : (ws : List ℕ) (i b : ℕ) → i / 64 < length ws → value ws < 2 ^ i
    → value (set ws (i / 64) (bit_or (get_or ws (i / 64) 0) (b * 2 ^ (i % 64)))) ≡ value ws + b * 2 ^ i
value_bit ws i b h l =
    let k : ℕ = i / 64 in
    let old : ℕ = get_or ws k 0 in
    let small : old < 2 ^ (i % 64) = lt_of_mul-lt-mul_right (2 ^ (64 * k)) (omega (arith, word_le ws k, place i)) in
    let new : bit_or old (b * 2 ^ (i % 64)) ≡ b * 2 ^ (i % 64) + old = or_shifted_r b (i % 64) old small in
    let s = value_set ws k (b * 2 ^ (i % 64) + old) h in
    let m : (b * 2 ^ (i % 64) + old) * 2 ^ (64 * k) ≡ b * 2 ^ i + old * 2 ^ (64 * k) =
    add-mul (b * 2 ^ (i % 64)) old (2 ^ (64 * k)) ∙ ap (λ (x : ℕ). x + old * 2 ^ (64 * k)) (mul_assoc b (2 ^ (i % 64)) (2 ^ (64 * k)) ∙ ap (λ (x : ℕ). b * x) (sym (place i))) in
    rw new (omega (arith, s, m))

pub value_zeros : (n : ℕ) → value (replicate n 0) ≡ 0
value_zeros zero = refl
value_zeros (suc n) = omega (arith, value_zeros n)

-- ---- the steps of the loops

pub dot_more : (xs ys : List ℕ) (i acc t : ℕ) → i < length xs → i < length ys → get_or xs i 0 < 2 ^ 64 → get_or ys i 0 < 2 ^ 64
    → (parity acc + dot (value (drop i xs)) (value (drop i ys))) % 2 ≡ t
    → (parity (bit_xor acc (bit_and (get_or xs i 0) (get_or ys i 0))) + dot (value (drop (i + 1) xs)) (value (drop (i + 1) ys))) % 2 ≡ t
dot_more xs ys i acc t hx hy fx fy inv =
    let a = drop_more xs i 0 hx in
    let b = drop_more ys i 0 hy in
    let w = dot_word (get_or xs i 0) (get_or ys i 0) (value (drop (i + 1) xs)) (value (drop (i + 1) ys)) fx fy in
    let j : (parity acc + dot (value (get_or xs i 0 ∷ drop (i + 1) xs)) (value (get_or ys i 0 ∷ drop (i + 1) ys))) % 2 ≡ t = rw (a, b) at inv in
    omega (arith, w, j, parity_xor acc (bit_and (get_or xs i 0) (get_or ys i 0)))

-- row i of n rows of w words ends within them
pub row_ends : (i n w : ℕ) → i < n → i * w + w ≤ n * w
row_ends i n w h = omega (arith, suc-mul i w, mul-le-mul_right w h)

pub product_more : (ws out : List ℕ) (w i v b : ℕ) → i / 64 < length out → value out ≡ mul (rows w i ws) v → b ≡ dot (value (take w (drop (i * w) ws))) v
    → value (set out (i / 64) (bit_or (get_or out (i / 64) 0) (b * 2 ^ (i % 64) % 2 ^ 64))) ≡ mul (rows w (i + 1) ws) v
product_more ws out w i v b h inv e =
    let small : b < 2 = omega (arith, dot_below (value (take w (drop (i * w) ws))) v) in
    let shift : b * 2 ^ (i % 64) % 2 ^ 64 ≡ b * 2 ^ (i % 64) = shl_whole b 1 (i % 64) 64 small (omega arith) in
    let low : value out < 2 ^ i = subst (λ (n : ℕ). value out < 2 ^ n) (length_rows w i ws) (subst (λ (x : ℕ). x < 2 ^ length (rows w i ws)) (sym inv) (mul_below (rows w i ws) v)) in
    let p : b * 2 ^ i ≡ dot (value (take w (drop (i * w) ws))) v * 2 ^ i = ap (λ (x : ℕ). x * 2 ^ i) e in
    rw shift (omega (arith, value_bit out i b h low, mul_rows_more w i ws v, inv, p))

pub value_cleared : (ws : List ℕ) → ((k : ℕ) → k < length ws → get_or ws k 0 ≡ 0) → value ws ≡ 0
value_cleared [] h = refl
value_cleared (w ∷ ws) h = omega (arith, h 0 (omega arith), value_cleared ws (λ k l. h (suc k) (omega arith)))

pub dot_done : (xs ys : List ℕ) (i acc t : ℕ) → min (length xs) (length ys) ≤ i → (parity acc + dot (value (drop i xs)) (value (drop i ys))) % 2 ≡ t → ones acc % 2 ≡ t
dot_done xs ys i acc t h inv = omega (arith, inv, parity_ones acc, none (dec_le (length xs) i))
  where
    none : Dec (length xs ≤ i) → dot (value (drop i xs)) (value (drop i ys)) ≡ 0
    none (yes l) = ap (λ (zs : List ℕ). dot (value zs) (value (drop i ys))) (drop_all i xs l) ∙ dot_zero_l (value (drop i ys))
    none (no l) = ap (λ (zs : List ℕ). dot (value (drop i xs)) (value zs)) (drop_all i ys (omega arith)) ∙ dot_zero_r (value (drop i xs))

-- ---- bits and sums of vectors in words

split_power : (k m : ℕ) → 2 ^ (64 * suc k + m) ≡ 0 + 2 ^ 64 * 2 ^ (64 * k + m)
split_power k m =
    let e : 64 * suc k + m ≡ 64 + (64 * k + m) = omega arith in
    ap (λ (x : ℕ). 2 ^ x) e ∙ pow-add 2 64 (64 * k + m) ∙ omega arith

parity_dot : (a b : ℕ) → parity (bit_and a b) ≡ dot a b
unfolding dot
parity_dot a b = refl

pub dot_bit : (ws : List ℕ) (k m : ℕ) → m < 64 → Words ws → dot (2 ^ (64 * k + m)) (value ws) ≡ dot (2 ^ m) (get_or ws k 0)
dot_bit [] k m h f = dot_zero_r (2 ^ (64 * k + m)) ∙ sym (dot_zero_r (2 ^ m))
dot_bit (w ∷ ws) zero m h f =
    let e : 2 ^ (64 * 0 + m) ≡ 2 ^ m + 2 ^ 64 * 0 = ap (λ (x : ℕ). 2 ^ x) (zero-add m) ∙ omega arith in
    let z = dot_word (2 ^ m) w 0 (value ws) (pow_below m 64 h) (f 0) in
    let s : parity (bit_and (2 ^ m) w) ≡ dot (2 ^ m) w = parity_dot (2 ^ m) w in
    ap (λ (x : ℕ). dot x (w + 2 ^ 64 * value ws)) e ∙ omega (arith, z, s, dot_zero_l (value ws), dot_below (2 ^ m) w)
dot_bit (w ∷ ws) (suc k) m h f =
    let z = dot_word 0 w (2 ^ (64 * k + m)) (value ws) (omega arith) (f 0) in
    ap (λ (x : ℕ). dot x (w + 2 ^ 64 * value ws)) (split_power k m)
    ∙ omega (arith, z, parity_zero, dot_bit ws k m h (λ i. f (suc i)), dot_below (2 ^ m) (get_or ws k 0), dot_below (2 ^ (64 * k + m)) (value ws))

pub bit_read : (ws : List ℕ) (j : ℕ) → Words ws → get_or ws (j / 64) 0 / 2 ^ (j % 64) % 2 ≡ dot (2 ^ j) (value ws)
bit_read ws j f =
    let e : 64 * (j / 64) + j % 64 ≡ j = omega arith in
    sym (dot_power (j % 64) (get_or ws (j / 64) 0)) ∙ sym (dot_bit ws (j / 64) (j % 64) (omega arith) f) ∙ ap (λ (x : ℕ). dot (2 ^ x) (value ws)) e

-- past the end a vector has no ones
pub bit_past : (ws : List ℕ) (j : ℕ) → Words ws → length ws ≤ j / 64 → 0 ≡ dot (2 ^ j) (value ws)
bit_past ws j f h =
    let e : 64 * (j / 64) + j % 64 ≡ j = omega arith in
    sym (ap (λ (x : ℕ). dot (2 ^ x) (value ws)) (sym e) ∙ dot_bit ws (j / 64) (j % 64) (omega arith) f
    ∙ ap (dot (2 ^ (j % 64))) (get_or_past ws (j / 64) 0 h) ∙ dot_zero_r (2 ^ (j % 64)))

xor_word : (r s a b : ℕ) → r < 2 ^ 64 → s < 2 ^ 64 → bit_xor (r + 2 ^ 64 * a) (s + 2 ^ 64 * b) ≡ bit_xor r s + 2 ^ 64 * bit_xor a b
xor_word r s a b hr hs =
    let ea : r + 2 ^ 64 * a ≡ a * 2 ^ 64 + r = omega arith in
    let eb : s + 2 ^ 64 * b ≡ b * 2 ^ 64 + s = omega arith in
    ap₂ bit_xor ea eb ∙ xor_block 64 a b r s hr hs ∙ omega arith

shift_word : (x k : ℕ) → x * 2 ^ (64 * suc k) ≡ 0 + 2 ^ 64 * (x * 2 ^ (64 * k))
shift_word x k = ap (λ (p : ℕ). x * p) (word_power k) ∙ mul_left_comm x (2 ^ 64) (2 ^ (64 * k)) ∙ omega arith

pub value_set_xor : (ws : List ℕ) (k x : ℕ) → k < length ws → Words ws → x < 2 ^ 64 → value (set ws k (bit_xor (get_or ws k 0) x)) ≡ bit_xor (value ws) (x * 2 ^ (64 * k))
value_set_xor [] k x h f l = absurd (omega arith)
value_set_xor (w ∷ ws) zero x h f l =
    let e : x * 2 ^ (64 * 0) ≡ x + 2 ^ 64 * 0 = omega arith in
    sym (ap (bit_xor (w + 2 ^ 64 * value ws)) e ∙ xor_word w x (value ws) 0 (f 0) l ∙ ap (λ (y : ℕ). bit_xor w x + 2 ^ 64 * y) (xor_zero_r (value ws)))
value_set_xor (w ∷ ws) (suc k) x h f l =
    sym (ap (bit_xor (w + 2 ^ 64 * value ws)) (shift_word x k) ∙ xor_word w 0 (value ws) (x * 2 ^ (64 * k)) (f 0) (omega arith)
    ∙ ap₂ (λ (y z : ℕ). y + 2 ^ 64 * z) (xor_zero_r w) (sym (value_set_xor ws k x (omega arith) (λ i. f (suc i)) l)))

pub value_take_more : (ws : List ℕ) (k : ℕ) → k < length ws → Words ws → value (take (k + 1) ws) ≡ bit_xor (value (take k ws)) (get_or ws k 0 * 2 ^ (64 * k))
value_take_more ws k h f = rw add-one (go ws k h f)
  where
    go : (ws : List ℕ) (k : ℕ) → k < length ws → Words ws → value (take (suc k) ws) ≡ bit_xor (value (take k ws)) (get_or ws k 0 * 2 ^ (64 * k))
    go [] k h f = absurd (omega arith)
    go (w ∷ ws) zero h f = omega arith
    go (w ∷ ws) (suc k) h f =
        sym (ap (bit_xor (w + 2 ^ 64 * value (take k ws))) (shift_word (get_or ws k 0) k) ∙ xor_word w 0 (value (take k ws)) (get_or ws k 0 * 2 ^ (64 * k)) (f 0) (omega arith)
        ∙ ap₂ (λ (y z : ℕ). y + 2 ^ 64 * z) (xor_zero_r w) (sym (go ws k (omega arith) (λ i. f (suc i)))))

-- the step of `add`
pub add_more : (xs ys : List ℕ) (i t : ℕ) → i < length xs → i < length ys → Words xs → Words ys → value xs ≡ bit_xor t (value (take i ys))
    → value (set xs i (bit_xor (get_or xs i 0) (get_or ys i 0))) ≡ bit_xor t (value (take (i + 1) ys))
add_more xs ys i t hx hy fx fy inv =
    value_set_xor xs i (get_or ys i 0) hx fx (fy i) ∙ ap (λ (u : ℕ). bit_xor u (get_or ys i 0 * 2 ^ (64 * i))) inv
    ∙ xor_assoc t (value (take i ys)) (get_or ys i 0 * 2 ^ (64 * i)) ∙ ap (bit_xor t) (sym (value_take_more ys i hy fy))

pub words_set : (ws : List ℕ) (k x : ℕ) → Words ws → x < 2 ^ 64 → Words (set ws k x)
words_set [] k x f l = f
words_set (w ∷ ws) zero x f l = elim [ zero ↦ l | suc i ↦ f (suc i) ]
words_set (w ∷ ws) (suc k) x f l = elim [ zero ↦ f 0 | suc i ↦ words_set ws k x (λ j. f (suc j)) l i ]

-- ---- rows in memory

rows_suc : (w i : ℕ) (xs : List ℕ) → rows w (suc i) xs ≡ rows w i xs ++ value (take w (drop (i * w) xs)) ∷ []
rows_suc w zero xs = rw (zero-mul w)
rows_suc w (suc i) xs =
    let e : drop (i * w) (drop w xs) ≡ drop (suc i * w) xs = drop-drop (i * w) w xs ∙ ap (λ (k : ℕ). drop k xs) (add_comm w (i * w) ∙ sym (suc-mul i w)) in
    ap (λ (ys : List ℕ). value (take w xs) ∷ ys) (rows_suc w i (drop w xs) ∙ ap (λ (zs : List ℕ). rows w i (drop w xs) ++ value (take w zs) ∷ []) e)

pub rows_more : (w i : ℕ) (xs : List ℕ) → rows w (i + 1) xs ≡ rows w i xs ++ value (take w (drop (i * w) xs)) ∷ []
rows_more w i xs = rw add-one (rows_suc w i xs)

-- the first i rows are in the first i * w words
rows_take : (w i : ℕ) (xs : List ℕ) → rows w i (take (i * w) xs) ≡ rows w i xs
rows_take w zero xs = refl
rows_take w (suc i) xs =
    let e : suc i * w ≡ w + i * w = suc-mul i w ∙ add_comm (i * w) w in
    ap (λ (k : ℕ). value (take w (take k xs)) ∷ rows w i (drop w (take k xs))) e
    ∙ ap₂ (λ (a b : List ℕ). value a ∷ rows w i b) (take-take w (w + i * w) xs (omega arith)) (drop-take w (i * w) xs)
    ∙ ap (λ (b : List ℕ). value (take w xs) ∷ b) (rows_take w i (drop w xs))

pub rows_prefix : (w i : ℕ) (xs ys : List ℕ) → take (i * w) xs ≡ take (i * w) ys → rows w i xs ≡ rows w i ys
rows_prefix w i xs ys e = sym (rows_take w i xs) ∙ ap (rows w i) e ∙ rows_take w i ys

-- the step of `clear_rows`
pub clear_step : (t : ℕ → ℕ) (w i : ℕ) (xs from new : List ℕ) → i * w + w ≤ length xs → length new ≡ w
    → value new ≡ t (value (take w (drop (i * w) xs)))
    → rows w i xs ≡ map t (rows w i from) → drop (i * w) xs ≡ drop (i * w) from
    → (rows w (i + 1) (put_mid (i * w) w xs new) ≡ map t (rows w (i + 1) from)) × (drop ((i + 1) * w) (put_mid (i * w) w xs new) ≡ drop ((i + 1) * w) from)
clear_step t w i xs from new room size is before after =
    let ys : List ℕ = put_mid (i * w) w xs new in
    let a : rows w i ys ≡ rows w i xs = rows_prefix w i ys xs (take-put_mid_below (i * w) w xs new (i * w) (omega arith) (omega arith)) in
    let n : (i * w + w) - i * w ≡ w = omega arith in
    let b : take w (drop (i * w) ys) ≡ new =
    ap (λ (k : ℕ). take k (drop (i * w) ys)) (sym n) ∙ between-put_mid (i * w) w xs new (i * w + w) (omega arith) (omega arith) in
    let v : value new ≡ t (value (take w (drop (i * w) from))) = is ∙ ap (λ (zs : List ℕ). t (value (take w zs))) after in
    let k : (i + 1) * w ≡ i * w + w = ap (λ (m : ℕ). m * w) (add-one i) ∙ suc-mul i w in (
      rows_more w i ys ∙ ap₂ (λ (p q : List ℕ). p ++ value q ∷ []) (a ∙ before) b ∙ ap (λ (q : ℕ). map t (rows w i from) ++ q ∷ []) v
          ∙ sym (ap (map t) (rows_more w i from) ∙ map-append t (rows w i from) (value (take w (drop (i * w) from)) ∷ [])),
      ap (λ (m : ℕ). drop m ys) k ∙ drop-put_mid (i * w) w xs new (i * w + w) (omega arith) (omega arith) size
          ∙ sym (drop-drop w (i * w) xs) ∙ ap (drop w) after ∙ drop-drop w (i * w) from ∙ ap (λ (m : ℕ). drop m from) (sym k),
    )

-- ---- rows and their words, one to one

pub length_flat : (w : ℕ) (xs : List ℕ) → length (flat w xs) ≡ length xs * w
length_flat w [] = sym (zero-mul w)
length_flat w (x ∷ xs) =
    length-append (words_of w x) (flat w xs) ∙ ap₂ (λ (a b : ℕ). a + b) (length_words_of w x) (length_flat w xs) ∙ add_comm w (length xs * w) ∙ sym (suc-mul (length xs) w)

pub words_flat : (w : ℕ) (xs : List ℕ) → Words (flat w xs)
words_flat w [] i = omega arith
words_flat w (x ∷ xs) i = words_append (words_of w x) (flat w xs) (words_words_of w x) (words_flat w xs) i

pub flat_rows : (w n : ℕ) (ws : List ℕ) → length ws ≡ n * w → Words ws → flat w (rows w n ws) ≡ ws
flat_rows w zero [] h f = refl
flat_rows w zero (x ∷ ws) h f = absurd (omega (arith, zero-mul w))
flat_rows w (suc n) ws h f =
    let s : length ws ≡ n * w + w = h ∙ suc-mul n w in
    let t : length (take w ws) ≡ w = simp length-take (omega arith) in
    let d : length (drop w ws) ≡ n * w = simp length-drop (omega arith) in
    let a : words_of w (value (take w ws)) ≡ take w ws = ap (λ (k : ℕ). words_of k (value (take w ws))) (sym t) ∙ words_of_value (take w ws) (words_take w ws f) in
    ap₂ (λ (p q : List ℕ). p ++ q) a (flat_rows w n (drop w ws) d (words_drop w ws f)) ∙ take-append-drop w ws

pub rows_flat : (w : ℕ) (xs : List ℕ) → Below (64 * w) xs → rows w (length xs) (flat w xs) ≡ xs
rows_flat w [] b = refl
rows_flat w (x ∷ xs) b =
    ap₂ (λ (p q : List ℕ). value p ∷ rows w (length xs) q) (take_at (words_of w x) (flat w xs) w (length_words_of w x)) (drop_at (words_of w x) (flat w xs) w (length_words_of w x))
    ∙ ap₂ (λ (p : ℕ) (q : List ℕ). p ∷ q) (value_words_of w x b.0) (rows_flat w xs b.1)

-- rows that were copied to the front of other memory
pub rows_copied : (w n : ℕ) (ws copy rest : List ℕ) → n * w ≤ length ws → copy ≡ take (n * w) ws → rows w n (take (n * w) (copy ++ rest)) ≡ rows w n ws
rows_copied w n ws copy rest fits is =
    let long : length copy ≡ n * w = ap length is ∙ simp length-take (omega arith) in
    ap (rows w n) (take_at copy rest (n * w) long ∙ is) ∙ rows_take w n ws

-- ---- the step of `independent`

pub elim_on : (p r : ℕ) (rs A B : List ℕ) (Q : Type 0) → dot p r ≡ 1 → A ≡ r ∷ rs → B ≡ map (clear p r) rs
    → (Independent A → Q) × (Q → Independent A) → (Independent B → Q) × (Q → Independent B)
elim_on p r rs A B Q o a b inv = (
  λ i. inv.0 (subst Independent (sym a) (cleared_back p r rs o (subst Independent b i))),
  λ q. subst Independent (sym b) (cleared_on p r rs (subst Independent a (inv.1 q))),
)

pub elim_zero : (r : ℕ) (rs A : List ℕ) → r ≡ 0 → A ≡ r ∷ rs → Independent A → ⊥
elim_zero r rs A z a i = no_zero_row rs (subst (λ (x : ℕ). Independent (x ∷ rs)) z (subst Independent a i))

pub clear_one : (p r s : ℕ) → dot p s ≡ 1 → clear p r s ≡ bit_xor s r
unfolding clear
clear_one p r s e = ap (λ (b : ℕ). bit_xor s (b * r)) e ∙ ap (bit_xor s) (one-mul r)

pub clear_none : (p r s : ℕ) → (dot p s ≡ 1 → ⊥) → clear p r s ≡ s
unfolding clear
clear_none p r s e =
    let z : dot p s ≡ 0 = omega (arith, dot_below p s) in
    ap (λ (b : ℕ). bit_xor s (b * r)) z ∙ ap (bit_xor s) (zero-mul r) ∙ xor_zero_r s

pub length_put_mid : (a : ℕ) (xs ys : List ℕ) → a ≤ length xs → length ys ≡ length xs - a → length (put_mid a (length xs - a) xs ys) ≡ length xs
length_put_mid a xs ys h e = same_len_mid a (length xs - a) xs ys (e ∙ sym (simp (length-take, length-drop) (omega arith)))

-- the step of `independent_in`: r is the first of the rows m, and s are the others, of which it was taken out
pub independent_next : (w i n j : ℕ) (m r s : List ℕ) (Q : Type 0) → i < n → length r ≡ w → r ≡ take w m → dot (2 ^ j) (value r) ≡ 1
    → rows (length r) (n - 1 - i) s ≡ map (clear (2 ^ j) (value r)) (rows (length r) (n - 1 - i) (drop w m))
    → (Independent (rows w (n - i) m) → Q) × (Q → Independent (rows w (n - i) m)) → (Independent (rows w (n - (i + 1)) s) → Q) × (Q → Independent (rows w (n - (i + 1)) s))
independent_next w i n j m r s Q h size is one cleared inv =
    elim_on (2 ^ j) (value r) (rows w (n - 1 - i) (drop w m)) (rows w (n - i) m) (rows w (n - (i + 1)) s) Q one opened shut inv
  where
    more : n - i ≡ suc (n - 1 - i)
    more = omega arith

    few : n - (i + 1) ≡ n - 1 - i
    few = omega arith

    opened : rows w (n - i) m ≡ value r ∷ rows w (n - 1 - i) (drop w m)
    opened = ap (λ (k : ℕ). rows w k m) more ∙ ap (λ (xs : List ℕ). value xs ∷ rows w (n - 1 - i) (drop w m)) (sym is)

    shut : rows w (n - (i + 1)) s ≡ map (clear (2 ^ j) (value r)) (rows w (n - 1 - i) (drop w m))
    shut = ap (λ (k : ℕ). rows w k s) few ∙ subst (λ (k : ℕ). rows k (n - 1 - i) s ≡ map (clear (2 ^ j) (value r)) (rows k (n - 1 - i) (drop w m))) size cleared

-- ---- the way of `add_times` that adds nothing

pub times_none : (x r b : ℕ) → b ≡ 0 → x ≡ bit_xor x (b * r)
times_none x r b e = sym (ap (bit_xor x) (ap (λ (k : ℕ). k * r) e ∙ zero-mul r) ∙ xor_zero_r x)

-- ---- folds over pairs of words

pub dot_folded : (xs ys : List ℕ) (acc : ℕ) → Words xs → Words ys
    → (parity acc + dot (value xs) (value ys)) % 2 ≡ parity (fold (λ (a : ℕ) (p : ℕ × ℕ). bit_xor a (bit_and p.0 p.1)) acc (zip xs ys))
dot_folded [] ys acc f g = omega (arith, dot_zero_l (value ys), parity_below acc)
dot_folded (x ∷ xs) [] acc f g = omega (arith, dot_zero_r (value (x ∷ xs)), parity_below acc)
dot_folded (x ∷ xs) (y ∷ ys) acc f g =
    let step = dot_word x y (value xs) (value ys) (f 0) (g 0) in
    let next = parity_xor acc (bit_and x y) in
    omega (arith, step, next, dot_folded xs ys (bit_xor acc (bit_and x y)) (λ i. f (suc i)) (λ i. g (suc i)))
