-- Layers of a file as words, and their inverses.
use Rattle.std.proofs.Common.{Result, Ok, Err, ◌≡◌, ℕ, zero, suc, ◌+◌, ◌-◌, ◌*◌, ◌/◌, ◌%◌, ◌^◌, ◌<◌, ◌≤◌, List, [], ◌∷◌, ◌++◌, map, length, get_or, take, drop, replicate, sym, refl, ap, ◌∙◌, subst, ap₂, suc-mul, zero-add, zero-mul, arith, pow_pos, pow_mono}
use Rattle.std.proofs.lemmas.Nat.{pow-add}
use Rattle.std.proofs.lemmas.List.{drop-drop, drop-replicate, map-append}
use Rattle.bits.specs.declared.elimination.Singular.{Singular}
use Rattle.bits.specs.Gauss.{Outcome}
use Rattle.bits.specs.Gf2.{Below, Inverse, Witness, flat, Words, inverse_of, rows, value, words_of}
use Rattle.bits.proofs.Inverse.{not_both}
use Rattle.bits.proofs.Vectors.{rows_flat}
use Rattle.cipher.specs.Sets.{Each, joined}
use Rattle.files.specs.Format.{byte_rows, byte_value, matrices_of, record_size}
use Rattle.files.specs.Preparing.{Inverting, Tried}
use Rattle.cipher.specs.Laws.{Invertible}
use Rattle.files.proofs.Pieces.{Bytes, bytes_drop, joined_more, matrices_more}

-- ---- rows of c bytes have 8 c bits

row_below : (c : ℕ) (bs : List ℕ) → Bytes bs → byte_value (take c bs) < 2 ^ (8 * c)
row_below zero bs f = omega arith
row_below (suc c) [] f = pow_pos (8 * suc c)
row_below (suc c) (b ∷ bs) f =
    let e : 8 * suc c ≡ 8 + 8 * c = omega arith in
    let p : 2 ^ (8 * suc c) ≡ 256 * 2 ^ (8 * c) = ap (λ (k : ℕ). 2 ^ k) e ∙ pow-add 2 8 (8 * c) in
    omega (arith, f 0, row_below c bs (λ i. f (suc i)), p)

pub rows_below : (c n m : ℕ) (bs : List ℕ) → Bytes bs → 8 * c ≤ m → Below m (byte_rows c n bs)
rows_below c zero m bs f h = tt
rows_below c (suc n) m bs f h = (omega (arith, row_below c bs f, pow_mono {i = 8 * c} {j = m} h), rows_below c n m (drop c bs) (bytes_drop c bs f) h)

-- ---- what the inversion of its words says of a layer

pub inverting : (w n : ℕ) (L layer out out' vec vec' : List ℕ) (r : Result Unit Singular) → layer ≡ flat w L → length L ≡ n → Below (64 * w) L
    → Outcome w n layer out out' vec vec' r → Inverting w L out out' vec vec' r
inverting w n L layer out out' vec vec' r is size narrow o = go r o
  where
    back : rows w n layer ≡ L
    back = ap₂ (rows w) (sym size) is ∙ rows_flat w L narrow

    go : (r : Result Unit Singular) → Outcome w n layer out out' vec vec' r → Inverting w L out out' vec vec' r
    go (Ok u) o = (
      subst (λ (M : List ℕ). Inverse M (inverse_of M)) back (subst (Inverse (rows w n layer)) o.is o.inverse),
      o.written ∙ ap (λ (M : List ℕ). flat w (inverse_of M)) back,
      o.kept,
    )
    go (Err e) o = (subst (λ (M : List ℕ). Witness M (value vec')) back o.witness, o.kept)

-- the matrix of record j of those that stand one after another
abbrev pub matrix_at : ℕ → ℕ → ℕ → List ℕ → List ℕ
matrix_at c count j bs = byte_rows c count (drop (j * record_size c count + 3) bs)

-- ---- one layer more

each_push : {A : Type 0} (P : A → Type 0) (xs : List A) (x : A) → Each P xs → P x → Each P (xs ++ x ∷ [])
each_push P [] x e p = (p, tt)
each_push P (y ∷ ys) x e p = (e.0, each_push P ys x e.1 p)

pub each_more : (c n j : ℕ) (bs : List ℕ) → Each Invertible (matrices_of c n j bs) → Invertible (matrix_at c n j bs) → Each Invertible (matrices_of c n (j + 1) bs)
each_more c n j bs e p = subst (Each Invertible) (sym (matrices_more c n j bs)) (each_push Invertible (matrices_of c n j bs) (matrix_at c n j bs) e p)

pub inverses_more : (c n w j : ℕ) (bs : List ℕ)
    → flat w (joined (map inverse_of (matrices_of c n (j + 1) bs))) ≡ flat w (joined (map inverse_of (matrices_of c n j bs))) ++ flat w (inverse_of (matrix_at c n j bs))
inverses_more c n w j bs =
    ap (λ (ms : List (List ℕ)). flat w (joined (map inverse_of ms))) (matrices_more c n j bs)
    ∙ ap (λ (ms : List (List ℕ)). flat w (joined ms)) (map-append inverse_of (matrices_of c n j bs) (matrix_at c n j bs ∷ []))
    ∙ joined_more w (map inverse_of (matrices_of c n j bs)) (inverse_of (matrix_at c n j bs))

-- ---- a witness with zeros past its own words

zeros : (m : ℕ) → words_of m 0 ≡ replicate m 0
zeros zero = refl
zeros (suc m) = ap (λ (xs : List ℕ). 0 ∷ xs) (zeros m)

pub padded : (ws : List ℕ) (m : ℕ) → Words ws → words_of (length ws + m) (value ws) ≡ ws ++ replicate m 0
padded [] m f = ap (λ (k : ℕ). words_of k 0) (zero-add m) ∙ zeros m
padded (x ∷ ws) m f =
    let low : x < 2 ^ 64 = f 0 in
    let e : suc (length ws) + m ≡ suc (length ws + m) = omega arith in
    let a : (x + 2 ^ 64 * value ws) % 2 ^ 64 ≡ x = omega arith in
    let b : (x + 2 ^ 64 * value ws) / 2 ^ 64 ≡ value ws = omega arith in
    ap (λ (k : ℕ). words_of k (x + 2 ^ 64 * value ws)) e
    ∙ ap₂ (λ (y z : ℕ). y ∷ words_of (length ws + m) z) a b ∙ ap (λ (ys : List ℕ). x ∷ ys) (padded ws m (λ i. f (suc i)))

-- the words of a front part fit
pub words_front : (xs ys : List ℕ) → Words (xs ++ ys) → Words xs
words_front [] ys f i = omega arith
words_front (x ∷ xs) ys f zero = f 0
words_front (x ∷ xs) ys f (suc i) = words_front xs ys (λ k. f (suc k)) i

pub tried : (w : ℕ) (L out out' vec part vec' : List ℕ) (r : Result Unit Singular) → length part ≡ w → w ≤ 4 → Words part → vec' ≡ part ++ drop w (replicate 4 0)
    → Inverting w L out out' vec part r → Tried L vec' r
tried w L out out' vec part vec' (Ok u) size four f is i = i.0
tried w L out out' vec part vec' (Err e) size four f is i =
    let e : length part + (4 - w) ≡ 4 = omega arith in
    record {
      vector = value part;
      collapses = i.0;
      is = is ∙ ap (λ (ys : List ℕ). part ++ ys) (drop-replicate w 4 0) ∙ sym (padded part (4 - w) f) ∙ ap (λ (k : ℕ). words_of k (value part)) e;
    }

-- ---- one of the layers

pub each_at : {A : Type 0} (P : A → Type 0) (xs : List A) (j : ℕ) (d : A) → j < length xs → Each P xs → P (get_or xs j d)
each_at P [] j d h e = absurd (omega arith)
each_at P (x ∷ xs) zero d h e = e.0
each_at P (x ∷ xs) (suc j) d h e = each_at P xs j d (omega arith) e.1

pub length_matrices : (c n count : ℕ) (bs : List ℕ) → length (matrices_of c n count bs) ≡ count
length_matrices c n zero bs = refl
length_matrices c n (suc count) bs = ap suc (length_matrices c n count (drop (record_size c n) bs))

pub matrix_at_is : (c n count j : ℕ) (bs : List ℕ) → j < count → get_or (matrices_of c n count bs) j [] ≡ matrix_at c n j bs
matrix_at_is c n zero j bs h = absurd (omega arith)
matrix_at_is c n (suc count) zero bs h =
    let e : 0 * record_size c n + 3 ≡ 3 = omega (arith, zero-mul (record_size c n)) in
    ap (λ (k : ℕ). byte_rows c n (drop k bs)) (sym e)
matrix_at_is c n (suc count) (suc j) bs h =
    let e : record_size c n + (j * record_size c n + 3) ≡ suc j * record_size c n + 3 = omega (arith, suc-mul j (record_size c n)) in
    matrix_at_is c n count j (drop (record_size c n) bs) (omega arith)
    ∙ ap (byte_rows c n) (drop-drop (j * record_size c n + 3) (record_size c n) bs ∙ ap (λ (k : ℕ). drop k bs) e)

-- what is written where a layer, in the rows M of its record, is known not to collapse
written : (w : ℕ) (L out out' vec vec' : List ℕ) (r : Result Unit Singular) → Invertible L → Inverting w L out out' vec vec' r → out' ≡ flat w (inverse_of L)
written w L out out' vec vec' (Ok u) inv i = i.1
written w L out out' vec vec' (Err e) inv i = absurd (not_both L (inverse_of L) inv (value vec', i.0))

pub inverted : (w : ℕ) (M L out out' vec vec' : List ℕ) (r : Result Unit Singular) → M ≡ L → Invertible L → Inverting w M out out' vec vec' r → out' ≡ flat w (inverse_of L)
inverted w M L out out' vec vec' r e inv i = written w L out out' vec vec' r inv (subst (λ (N : List ℕ). Inverting w N out out' vec vec' r) e i)
