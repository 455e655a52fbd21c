-- What a loop over the rows of a matrix knows of the row that is at hand.
use Rattle.std.proofs.Common.{subst, ◌≡◌, ℕ, zero, suc, ◌+◌, ◌*◌, ◌<◌, ◌≤◌, List, [], ◌∷◌, length, get_or, take, drop, sym, refl, ap, ◌∙◌, suc-mul, zero-mul, zero-add, arith, length-drop, length-take, Some, None, Option}
use denote.Ref.{Bor}
use Rattle.std.specs.declared.iter.Enumerate.{Enumerate}
use Rattle.std.specs.Iterator.{Yields, YieldsFirstRef}
use Rattle.std.specs.Iterator.Adapters.{enumerate_count, enumerate_source, enumerate_steps}
use Rattle.std.specs.List.{enumerate_from}
use Rattle.std.proofs.lemmas.Iterator.{YieldsList}
use Rattle.std.proofs.lemmas.Iterator.Consumers.{YieldsList-end, YieldsList-from_enumerate, YieldsList-from_first, YieldsList-turn}
use Rattle.std.proofs.lemmas.List.{drop-drop}
use Rattle.bits.specs.Gf2.{row_words}
use Rattle.bits.specs.declared.rows.Rows.{Rows}
use Rattle.bits.proofs.Vectors.{row_ends}

pub length_row_words : (w n : ℕ) (ws : List ℕ) → length (row_words w n ws) ≡ n
length_row_words w zero ws = refl
length_row_words w (suc n) ws = ap suc (length_row_words w n (drop w ws))

pub row_words_at : (w n k : ℕ) (ws d : List ℕ) → k < n → get_or (row_words w n ws) k d ≡ take w (drop (k * w) ws)
row_words_at w zero k ws d h = absurd (omega arith)
row_words_at w (suc n) zero ws d h = ap (λ (i : ℕ). take w (drop i ws)) (sym (zero-mul w))
row_words_at w (suc n) (suc k) ws d h =
    row_words_at w n k (drop w ws) d (omega arith)
    ∙ ap (take w) (drop-drop (k * w) w ws ∙ ap (λ (i : ℕ). drop i ws) (omega (arith, suc-mul k w)))

-- a row is as long as the matrix is wide
pub row_length : (w n : ℕ) (ws : List ℕ) (k : ℕ) (row : List ℕ) → n * w ≤ length ws → k < n → row ≡ take w (drop (k * w) ws) → length row ≡ w
row_length w n ws k row fits h is = ap length is ∙ simp (length-take, length-drop) (omega (arith, row_ends k n w h))

numbered_at : {A : Type 0} (m k : ℕ) (xs : List A) (d : ℕ × A) → k < length xs → get_or (enumerate_from m xs) k d ≡ (m + k, get_or xs k d.1)
numbered_at m k [] d h = absurd (omega arith)
numbered_at m zero (x ∷ xs) d h = ap (λ (i : ℕ). (i, x)) (omega arith)
numbered_at m (suc k) (x ∷ xs) d h =
    numbered_at (m + 1) k xs d (omega arith) ∙ ap (λ (i : ℕ). (i, get_or xs k d.1)) (omega arith)

length_numbered : {A : Type 0} (m : ℕ) (xs : List A) → length (enumerate_from m xs) ≡ length xs
length_numbered m [] = refl
length_numbered m (x ∷ xs) = ap suc (length_numbered (m + 1) xs)

-- what `rows` has left
abbrev pub left_of : Rows → List (List ℕ)
left_of s = row_words s.width s.left s.words.now

abbrev pub Steps : Rows → Option (Bor (List ℕ)) → Rows → Type 0
Steps = YieldsFirstRef left_of

-- what a turn of a loop over numbered rows knows: `row` is row i, which comes after `before` others
pub record AtRow (w n : ℕ) (ws : List ℕ) (before i : ℕ) (row : List ℕ) : Type 0 where
  pub turn : i ≡ before
  pub below : i < n
  pub words : row ≡ take w (drop (i * w) ws)
  pub size : length row ≡ w
  pub ends : (f : ℕ → ℕ) → i * f (length row) + f (length row) ≤ n * f w

-- a loop over `m.rows().enumerate()`, which has yielded xs
module _ (w n : ℕ) (ws : List ℕ) (s t u : Enumerate Rows) (xs : List (ℕ × Bor (List ℕ))) (r : Option (ℕ × Bor (List ℕ)))
    (from : left_of (enumerate_source s) ≡ row_words w n ws) (none : enumerate_count s ≡ 0) (y : Yields (enumerate_steps Steps) s xs t) (next : enumerate_steps Steps t r u) where
  road : YieldsList {B = ℕ × List ℕ} (enumerate_steps Steps) (λ p. (p.0, p.1.now)) s (enumerate_from 0 (row_words w n ws))
  road = YieldsList-from_enumerate (YieldsList-from_first (λ b. b.now) left_of (row_words w n ws) from) none

  pub numbered_turn : (x : ℕ × Bor (List ℕ)) → r ≡ Some x → (length xs < n) × (x.0 ≡ length xs) × (x.1.now ≡ take w (drop (length xs * w) ws))
  numbered_turn x is =
      let a = YieldsList-turn road xs t y r u x is next in
      let h : length xs < n = omega (arith, a.0, length_numbered 0 (row_words w n ws), length_row_words w n ws) in
      let e = a.1 ∙ numbered_at 0 (length xs) (row_words w n ws) (x.0, x.1.now) (omega (arith, length_row_words w n ws)) in
      (h, ap (λ (p : ℕ × List ℕ). p.0) e ∙ zero-add (length xs), ap (λ (p : ℕ × List ℕ). p.1) e ∙ row_words_at w n (length xs) ws x.1.now h)

  pub numbered_row : (x : ℕ × Bor (List ℕ)) → r ≡ Some x → n * w ≤ length ws → AtRow w n ws (length xs) x.0 x.1.now
  numbered_row x is fits =
      let t = numbered_turn x is in
      let size : length x.1.now ≡ w = row_length w n ws (length xs) x.1.now fits t.0 t.2 in
      record {
        turn = t.1;
        below = omega (arith, t.0, t.1);
        words = t.2 ∙ ap (λ (k : ℕ). take w (drop (k * w) ws)) (sym t.1);
        size = size;
        ends = λ f. subst (λ (v : ℕ). x.0 * f v + f v ≤ n * f w) (sym size) (row_ends x.0 n (f w) (omega (arith, t.0, t.1)));
      }

  pub numbered_end : r ≡ None → length xs ≡ n
  numbered_end is =
      let a = YieldsList-end road xs t y r u is next in
      omega (arith, a.1, length_numbered 0 (row_words w n ws), length_row_words w n ws)
