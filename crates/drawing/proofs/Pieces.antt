-- Pieces written one after another.
use Rattle.std.proofs.Common.{◌≡◌, ℕ, ◌+◌, ◌*◌, ◌^◌, ◌<◌, ◌≤◌, List, [], ◌∷◌, ◌++◌, length, take, sym, refl, ap, ◌∙◌, ap₂, suc-mul, add-one, arith, pow_mono}
use borrow.Rule.Slice.PartMut.{put_mid}
use Rattle.std.proofs.lemmas.List.{append_assoc, append-nil, length_push}
use Rattle.std.proofs.lemmas.Slice.{take-put_mid}
use Rattle.bits.specs.Gf2.{Below, flat, rows, width_of, words_of}
use Rattle.bits.specs.Matrices.{rows_in}
use Rattle.bits.specs.declared.rows.Matrix.{Matrix as Lent}
use Rattle.bits.proofs.Vectors.{length_flat, rows_flat}
use Rattle.cipher.specs.Sets.{Each, Matrix, joined}
use Rattle.cipher.proofs.Opens.{flat_append}
use Rattle.drawing.specs.Drawing.{Matrices}

pub one_more : (i s : ℕ) → (i + 1) * s ≡ i * s + s
one_more i s = ap (λ (k : ℕ). k * s) (add-one i) ∙ suc-mul i s

-- piece i of s words is written
pub filled : (s i k : ℕ) (out new before : List ℕ) → i * s + s ≤ length out → length new ≡ s → take (i * s) out ≡ before → take ((i + 1) * s) (put_mid (i * s) k out new) ≡ before ++ new
filled s i k out new before h l e =
    take-put_mid (i * s) k out new ((i + 1) * s) (one_more i s ∙ ap (λ (x : ℕ). i * s + x) (sym l)) (omega arith) ∙ ap (λ (xs : List ℕ). xs ++ new) e

pub flat_push : (w x : ℕ) (xs : List ℕ) → flat w (xs ++ (x ∷ [])) ≡ flat w xs ++ words_of w x
flat_push w x xs = flat_append w xs (x ∷ []) ∙ ap (λ (zs : List ℕ). flat w xs ++ zs) (append-nil (words_of w x))

joined_push : (xs : List (List ℕ)) (x : List ℕ) → joined (xs ++ (x ∷ [])) ≡ joined xs ++ x
joined_push [] x = append-nil x
joined_push (y ∷ xs) x = ap (λ (zs : List ℕ). y ++ zs) (joined_push xs x) ∙ sym (append_assoc y (joined xs) x)

pub flat_joined : (w : ℕ) (xs : List (List ℕ)) (x : List ℕ) → flat w (joined (xs ++ (x ∷ []))) ≡ flat w (joined xs) ++ flat w x
flat_joined w xs x = ap (flat w) (joined_push xs x) ∙ flat_append w (joined xs) x

pub each_push : {A : Type 0} (P : A → Type 0) (xs : List A) (x : A) → Each P xs → P x → Each P (xs ++ (x ∷ []))
each_push P [] x e p = (p, tt)
each_push P (y ∷ xs) x e p = (e.0, each_push P xs x e.1 p)

below_push : (k : ℕ) (xs : List ℕ) (x : ℕ) → Below k xs → x < 2 ^ k → Below k (xs ++ (x ∷ []))
below_push k [] x b h = (h, tt)
below_push k (y ∷ xs) x b h = (b.0, below_push k xs x b.1 h)

pub matrix_push : (n k x : ℕ) (M : List ℕ) → Matrix n k M → x < 2 ^ k → Matrix (n + 1) k (M ++ (x ∷ []))
matrix_push n k x M m h = record { size = length_push M x ∙ ap (λ (i : ℕ). i + 1) m.size; narrow = below_push k M x m.narrow h }

wider : (k m : ℕ) (xs : List ℕ) → k ≤ m → Below k xs → Below m xs
wider k m [] h b = tt
wider k m (x ∷ xs) h b = (omega (arith, b.0, pow_mono h), wider k m xs h b.1)

-- a matrix that was drawn is read back where it is lent
pub drawn_rows : (n k w : ℕ) (M ws : List ℕ) (m : Lent) → m.words.now ≡ ws → (m.width ≡ w) × (m.height ≡ n) → k ≤ 64 * w → w ≡ width_of k → Matrix n k M → ws ≡ flat (width_of k) M
    → rows_in m ≡ M
drawn_rows n k w M ws m here shape h e drawn is =
    ap₂ (λ (i j : ℕ). rows i j m.words.now) shape.0 (shape.1 ∙ sym drawn.size) ∙ ap (rows w (length M)) (here ∙ is ∙ ap (λ (i : ℕ). flat i M) (sym e))
    ∙ rows_flat w M (wider k (64 * w) M h drawn.narrow)

-- how long a matrix is in memory
pub length_matrix : (n k v : ℕ) (M ws : List ℕ) → Matrix n k M → ws ≡ flat v M → length ws ≡ n * v
length_matrix n k v M ws m is = ap length is ∙ length_flat v M ∙ ap (λ (i : ℕ). i * v) m.size

-- ---- one matrix more

pub no_matrices : (P : List ℕ → Type 0) (n k : ℕ) → Matrices P n k 0 []
no_matrices P n k = record { size = refl; each = tt; have = tt }

pub matrices_push : (P : List ℕ → Type 0) (n k count : ℕ) (Ms : List (List ℕ)) (M : List ℕ) → Matrices P n k count Ms → Matrix n k M → P M → Matrices P n k (count + 1) (Ms ++ (M ∷ []))
matrices_push P n k count Ms M h m p =
    record { size = length_push Ms M ∙ ap (λ (i : ℕ). i + 1) h.size; each = each_push (Matrix n k) Ms M h.each m; have = each_push P Ms M h.have p }

-- matrix i, of s words, is written after those before it
pub written : (s i k w : ℕ) (out new : List ℕ) (Ms : List (List ℕ)) (M : List ℕ) → i * s + s ≤ length out → length new ≡ s → take (i * s) out ≡ flat w (joined Ms) → new ≡ flat w M
    → take ((i + 1) * s) (put_mid (i * s) k out new) ≡ flat w (joined (Ms ++ (M ∷ [])))
written s i k w out new Ms M h l e is =
    filled s i k out new (flat w (joined Ms)) h l e ∙ ap (λ (xs : List ℕ). flat w (joined Ms) ++ xs) is ∙ sym (flat_joined w Ms M)
