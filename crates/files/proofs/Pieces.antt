-- Lists that are written piece by piece, and what the pieces are: words of a row, rows of a record, records of a file.
use Rattle.std.proofs.Common.{◌≡◌, ℕ, zero, suc, ◌+◌, ◌*◌, ◌/◌, ◌%◌, ◌^◌, ◌<◌, ◌≤◌, List, [], ◌∷◌, ◌++◌, length, get_or, take, drop, set, sym, refl, ap, ◌∙◌, ap₂, suc-mul, add_comm, zero-mul, div-one, add-one, arith}
use native.Mathlib.Nat.{zero-div}
use borrow.Rule.Slice.PartMut.{put_mid}
use Rattle.std.proofs.lemmas.List.{append_assoc, append-nil, get_or-drop, drop-drop, drop-take, take-take, take_more_set, take_all}
use Rattle.std.proofs.lemmas.Slice.{take-put_mid}
use Rattle.std.proofs.lemmas.Nat.{shr-shr}
use Rattle.bits.specs.Gf2.{flat, words_of}
use Rattle.cipher.specs.Sets.{joined}
use Rattle.files.specs.Format.{byte_rows, byte_value, matrices_of, record_size}
use Rattle.files.specs.Words.{eight_bytes}

-- ---- one piece more

-- a piece of s elements written at place j: what was written before, and the piece
pub put_piece : (s j k : ℕ) (out new whole piece : List ℕ) → j * s + s ≤ length out → length new ≡ s → k ≡ s → take (j * s) out ≡ whole → new ≡ piece
    → take ((j + 1) * s) (put_mid (j * s) k out new) ≡ whole ++ piece
put_piece s j k out new whole piece room size ks before is =
    let e : (j + 1) * s ≡ j * s + length new = ap (λ (x : ℕ). x * s) (add-one j) ∙ suc-mul j s ∙ ap (λ (x : ℕ). j * s + x) (sym size) in
    take-put_mid (j * s) k out new ((j + 1) * s) e (omega arith) ∙ ap₂ (λ (a b : List ℕ). a ++ b) before is

-- ---- words of a row

-- bytes below 256
abbrev pub Bytes : List ℕ → Type 0
Bytes bs = (i : ℕ) → get_or bs i 0 < 256

-- the vector from byte m on
open_at : (bs : List ℕ) (m : ℕ) → byte_value (drop m bs) ≡ get_or bs m 0 + 256 * byte_value (drop (m + 1) bs)
open_at bs m = rw add-one (go bs m)
  where
    go : (bs : List ℕ) (m : ℕ) → byte_value (drop m bs) ≡ get_or bs m 0 + 256 * byte_value (drop (suc m) bs)
    go [] zero = refl
    go [] (suc m) = refl
    go (b ∷ bs) zero = refl
    go (b ∷ bs) (suc m) = go bs m

shift_byte : (x m : ℕ) → x / 2 ^ (8 * suc m) ≡ x / 256 / 2 ^ (8 * m)
shift_byte x m =
    let e : 8 * suc m ≡ 8 + 8 * m = omega arith in
    ap (λ (k : ℕ). x / 2 ^ k) e ∙ sym (shr-shr x 8 (8 * m))

byte_value_drop : (bs : List ℕ) (m : ℕ) → Bytes bs → byte_value (drop m bs) ≡ byte_value bs / 2 ^ (8 * m)
byte_value_drop bs zero f = sym (div-one (byte_value bs))
byte_value_drop [] (suc m) f = sym (zero-div (2 ^ (8 * suc m)))
byte_value_drop (b ∷ bs) (suc m) f =
    let low : b < 256 = f 0 in
    let e : (b + 256 * byte_value bs) / 256 ≡ byte_value bs = omega arith in
    byte_value_drop bs m (λ i. f (suc i)) ∙ ap (λ (x : ℕ). x / 2 ^ (8 * m)) (sym e) ∙ sym (shift_byte (b + 256 * byte_value bs) m)

-- word k of a row
pub word_at : (bs : List ℕ) (k : ℕ) → Bytes bs → eight_bytes bs (8 * k) ≡ byte_value bs / 2 ^ (64 * k) % 2 ^ 64
word_at bs k f =
    let o : ℕ = 8 * k in
    let e : 8 * (8 * k) ≡ 64 * k = omega arith in
    let start : byte_value (drop o bs) ≡ byte_value bs / 2 ^ (64 * k) = byte_value_drop bs o f ∙ ap (λ (j : ℕ). byte_value bs / 2 ^ j) e in
    let sum : byte_value (drop o bs) % 2 ^ 64 ≡ eight_bytes bs o =
    eight bs o f in
    sym sum ∙ ap (λ (x : ℕ). x % 2 ^ 64) start
  where
    carry : (v a b c d e g h i w : ℕ) → a < 256 → b < 256 → c < 256 → d < 256 → e < 256 → g < 256 → h < 256 → i < 256
        → v ≡ a + 256 * (b + 256 * (c + 256 * (d + 256 * (e + 256 * (g + 256 * (h + 256 * (i + 256 * w)))))))
        → v % 2 ^ 64 ≡ a + b * 256 + c * 65536 + d * 16777216 + e * 4294967296 + g * 1099511627776 + h * 281474976710656 + i * 72057594037927936
    carry v a b c d e g h i w ha hb hc hd he hg hh hi q = omega arith

    step : (bs : List ℕ) (o i j : ℕ) → o + i + 1 ≡ o + j → byte_value (drop (o + i) bs) ≡ get_or bs (o + i) 0 + 256 * byte_value (drop (o + j) bs)
    step bs o i j q = open_at bs (o + i) ∙ ap (λ (m : ℕ). get_or bs (o + i) 0 + 256 * byte_value (drop m bs)) q

    eight : (bs : List ℕ) (o : ℕ) → Bytes bs → byte_value (drop o bs) % 2 ^ 64 ≡ eight_bytes bs o
    eight bs o f =
        carry (byte_value (drop o bs)) (get_or bs o 0) (get_or bs (o + 1) 0) (get_or bs (o + 2) 0) (get_or bs (o + 3) 0) (get_or bs (o + 4) 0) (get_or bs (o + 5) 0)
        (get_or bs (o + 6) 0) (get_or bs (o + 7) 0) (byte_value (drop (o + 8) bs)) (f o) (f (o + 1)) (f (o + 2)) (f (o + 3)) (f (o + 4)) (f (o + 5)) (f (o + 6)) (f (o + 7))
        (omega (
          arith,
          open_at bs o,
          step bs o 1 2 (omega arith),
          step bs o 2 3 (omega arith),
          step bs o 3 4 (omega arith),
          step bs o 4 5 (omega arith),
          step bs o 5 6 (omega arith),
          step bs o 6 7 (omega arith),
          step bs o 7 8 (omega arith),
        ))

words_of_more : (k x : ℕ) → words_of (k + 1) x ≡ words_of k x ++ x / 2 ^ (64 * k) % 2 ^ 64 ∷ []
words_of_more k x = rw add-one (go k x)
  where
    go : (k x : ℕ) → words_of (suc k) x ≡ words_of k x ++ x / 2 ^ (64 * k) % 2 ^ 64 ∷ []
    go zero x = ap (λ (y : ℕ). y % 2 ^ 64 ∷ []) (sym (div-one x))
    go (suc k) x =
        let e : 64 + 64 * k ≡ 64 * suc k = omega arith in
        ap (λ (ys : List ℕ). x % 2 ^ 64 ∷ ys) (go k (x / 2 ^ 64) ∙ ap (λ (y : ℕ). words_of k (x / 2 ^ 64) ++ y % 2 ^ 64 ∷ []) (shr-shr x 64 (64 * k) ∙ ap (λ (j : ℕ). x / 2 ^ j) e))

-- one word more of a row
pub row_more : (bs out : List ℕ) (k x : ℕ) → Bytes bs → k < length out → x ≡ eight_bytes bs (8 * k) → take k out ≡ words_of k (byte_value bs)
    → take (k + 1) (set out k x) ≡ words_of (k + 1) (byte_value bs)
row_more bs out k x f h is before =
    take_more_set out k x h ∙ ap₂ (λ (a : List ℕ) (b : ℕ). a ++ b ∷ []) before (is ∙ word_at bs k f) ∙ sym (words_of_more k (byte_value bs))

-- ---- rows of a record

pub flat_append : (w : ℕ) (xs ys : List ℕ) → flat w (xs ++ ys) ≡ flat w xs ++ flat w ys
flat_append w [] ys = refl
flat_append w (x ∷ xs) ys = ap (λ (zs : List ℕ). words_of w x ++ zs) (flat_append w xs ys) ∙ sym (append_assoc (words_of w x) (flat w xs) (flat w ys))

byte_rows_more : (c i : ℕ) (bs : List ℕ) → byte_rows c (i + 1) bs ≡ byte_rows c i bs ++ byte_value (take c (drop (i * c) bs)) ∷ []
byte_rows_more c i bs = rw add-one (go i bs)
  where
    go : (i : ℕ) (bs : List ℕ) → byte_rows c (suc i) bs ≡ byte_rows c i bs ++ byte_value (take c (drop (i * c) bs)) ∷ []
    go zero bs = rw (zero-mul c)
    go (suc i) bs =
        let e : drop (i * c) (drop c bs) ≡ drop (suc i * c) bs = drop-drop (i * c) c bs ∙ ap (λ (k : ℕ). drop k bs) (add_comm c (i * c) ∙ sym (suc-mul i c)) in
        ap (λ (ys : List ℕ). byte_value (take c bs) ∷ ys) (go i (drop c bs) ∙ ap (λ (zs : List ℕ). byte_rows c i (drop c bs) ++ byte_value (take c zs) ∷ []) e)

pub rows_more : (c w i : ℕ) (bs : List ℕ) → flat w (byte_rows c (i + 1) bs) ≡ flat w (byte_rows c i bs) ++ words_of w (byte_value (take c (drop (i * c) bs)))
rows_more c w i bs =
    ap (flat w) (byte_rows_more c i bs) ∙ flat_append w (byte_rows c i bs) (byte_value (take c (drop (i * c) bs)) ∷ [])
    ∙ ap (λ (ys : List ℕ). flat w (byte_rows c i bs) ++ ys) (append-nil (words_of w (byte_value (take c (drop (i * c) bs)))))

-- all is written
pub all_written : (k : ℕ) (out whole : List ℕ) → length out ≤ k → take k out ≡ whole → out ≡ whole
all_written k out whole h e = sym (take_all k out h) ∙ e

-- ---- records of a file

-- the rows of a body are in its own bytes
pub byte_rows_take : (c n : ℕ) (bs : List ℕ) → byte_rows c n (take (n * c) bs) ≡ byte_rows c n bs
byte_rows_take c zero bs = refl
byte_rows_take c (suc n) bs =
    let e : suc n * c ≡ c + n * c = suc-mul n c ∙ add_comm (n * c) c in
    ap (λ (k : ℕ). byte_value (take c (take k bs)) ∷ byte_rows c n (drop c (take k bs))) e
    ∙ ap₂ (λ (a b : List ℕ). byte_value a ∷ byte_rows c n b) (take-take c (c + n * c) bs (omega arith)) (drop-take c (n * c) bs)
    ∙ ap (λ (b : List ℕ). byte_value (take c bs) ∷ b) (byte_rows_take c n (drop c bs))

pub length_byte_rows : (c n : ℕ) (bs : List ℕ) → length (byte_rows c n bs) ≡ n
length_byte_rows c zero bs = refl
length_byte_rows c (suc n) bs = ap suc (length_byte_rows c n (drop c bs))

pub matrices_more : (c n j : ℕ) (bs : List ℕ) → matrices_of c n (j + 1) bs ≡ matrices_of c n j bs ++ byte_rows c n (drop (j * record_size c n + 3) bs) ∷ []
matrices_more c n j bs = rw add-one (go j bs)
  where
    s : ℕ
    s = record_size c n

    go : (j : ℕ) (bs : List ℕ) → matrices_of c n (suc j) bs ≡ matrices_of c n j bs ++ byte_rows c n (drop (j * s + 3) bs) ∷ []
    go zero bs =
        let e : 0 * s + 3 ≡ 3 = omega (arith, zero-mul s) in
        ap (λ (k : ℕ). byte_rows c n (drop k bs) ∷ []) (sym e)
    go (suc j) bs =
        let k : s + (j * s + 3) ≡ suc j * s + 3 = omega (arith, suc-mul j s) in
        let e : drop (j * s + 3) (drop s bs) ≡ drop (suc j * s + 3) bs = drop-drop (j * s + 3) s bs ∙ ap (λ (m : ℕ). drop m bs) k in
        ap (λ (ys : List (List ℕ)). byte_rows c n (drop 3 bs) ∷ ys)
        (go j (drop s bs) ∙ ap (λ (zs : List ℕ). matrices_of c n j (drop s bs) ++ byte_rows c n zs ∷ []) e)

pub joined_append : (xs ys : List (List ℕ)) → joined (xs ++ ys) ≡ joined xs ++ joined ys
joined_append [] ys = refl
joined_append (x ∷ xs) ys = ap (λ (zs : List ℕ). x ++ zs) (joined_append xs ys) ∙ sym (append_assoc x (joined xs) (joined ys))

-- words of one matrix more
pub joined_more : (w : ℕ) (xs : List (List ℕ)) (x : List ℕ) → flat w (joined (xs ++ x ∷ [])) ≡ flat w (joined xs) ++ flat w x
joined_more w xs x =
    ap (flat w) (joined_append xs (x ∷ []) ∙ ap (λ (zs : List ℕ). joined xs ++ zs) (append-nil x)) ∙ flat_append w (joined xs) x

pub records_more : (c n w j : ℕ) (bs : List ℕ)
    → flat w (joined (matrices_of c n (j + 1) bs)) ≡ flat w (joined (matrices_of c n j bs)) ++ flat w (byte_rows c n (drop (j * record_size c n + 3) bs))
records_more c n w j bs =
    ap (λ (ms : List (List ℕ)). flat w (joined ms)) (matrices_more c n j bs) ∙ joined_more w (matrices_of c n j bs) (byte_rows c n (drop (j * record_size c n + 3) bs))

pub bytes_drop : (n : ℕ) (bs : List ℕ) → Bytes bs → Bytes (drop n bs)
bytes_drop n bs f i = omega (arith, get_or-drop n bs i 0, f (n + i))
