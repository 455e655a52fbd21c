-- One more step of what is drawn, and what a stop does.
use Rattle.std.proofs.Common.{◌≡◌, ℕ, zero, suc, ◌+◌, ◌-◌, ◌*◌, ◌^◌, ◌<◌, ◌≤◌, Bool, true, false, cond, List, [], ◌∷◌, ◌++◌, replicate, Some, None, Ok, Err, Option, Result, sym, refl, ap, ◌∙◌, subst, add-zero, add-suc, add-one, arith}
use Rattle.bits.specs.declared.refusal.Refusal.TheVariants.{NothingKept, SourceDry}
use Rattle.bits.specs.declared.refusal.Layer.TheVariants.{Draw}
use Rattle.bits.specs.declared.refusal.Fault.{Fault}
use Rattle.bits.specs.Refusals.{fault_at, then}
use Rattle.bits.specs.Gf2.{Words}
use Rattle.drawing.specs.Streams.{Sees, Stream}
use Rattle.drawing.specs.Drawing.{Drawn, Took, bit_of, ending, first_kept, row, several}

-- ---- streams

pub sees_more : (f g h : Stream) (p d q : ℕ) → Sees f g p → Sees g h d → p + d ≡ q → Sees f h q
sees_more f g h p d q a b e i = b i ∙ a (d + i) ∙ ap f (omega (arith, e))

pub sees_here : (f g : Stream) (p : ℕ) (o : Option ℕ) → Sees f g p → g 0 ≡ o → f p ≡ o
sees_here f g p o s e = ap f (sym (add-zero p)) ∙ sym (s 0) ∙ e

-- ---- rows

pub row_none : (f : Stream) (at : ℕ) → row f 0 at ≡ Ok (0, at)
unfolding row
row_none f at = refl

more : Stream → ℕ → Drawn ℕ → Drawn ℕ
more f k d = then d (λ x. then (bit_of (f x.1) x.1) (λ b. Ok (x.0 + b.0 * 2 ^ k, b.1)))

row_opens : (f : Stream) (k at : ℕ) → row f (suc k) at ≡ more f k (row f k at)
unfolding row more
row_opens f k at = refl

pub row_more : (f : Stream) (k at x p b y q : ℕ) → row f k at ≡ Ok (x, p) → f p ≡ Some b → y ≡ x + b * 2 ^ k → q ≡ p + 1 → row f (k + 1) at ≡ Ok (y, q)
unfolding more
row_more f k at x p b y q e h ey eq =
    ap (λ (n : ℕ). row f n at) (add-one k) ∙ row_opens f k at ∙ ap (more f k) e
    ∙ ap (λ (o : Option ℕ). then (bit_of o p) (λ b. Ok (x + b.0 * 2 ^ k, b.1))) h
    ∙ sym (ap (λ (z : ℕ). Ok (z, q)) ey ∙ ap (λ (z : ℕ). Ok (x + b * 2 ^ k, z)) eq)

row_stays : (f : Stream) (k d at : ℕ) (e : Fault) → row f k at ≡ Err e → row f (k + d) at ≡ Err e
unfolding more
row_stays f k zero at e h = ap (λ (n : ℕ). row f n at) (add-zero k) ∙ h
row_stays f k (suc d) at e h = ap (λ (n : ℕ). row f n at) (add-suc k d) ∙ row_opens f (k + d) at ∙ ap (more f (k + d)) (row_stays f k d at e h)

pub row_stop : (f : Stream) (k count at x p : ℕ) → k < count → row f k at ≡ Ok (x, p) → f p ≡ None → row f count at ≡ Err (fault_at SourceDry Draw p)
unfolding more
row_stop f k count at x p l e h =
    let n : count ≡ suc k + (count - suc k) = omega arith in
    ap (λ (n : ℕ). row f n at) n
    ∙ row_stays f (suc k) (count - suc k) at (fault_at SourceDry Draw p)
    (row_opens f k at ∙ ap (more f k) e ∙ ap (λ (o : Option ℕ). then (bit_of o p) (λ b. Ok (x + b.0 * 2 ^ k, b.1))) h)

-- ---- several things

module _ {A : Type 0} (step : ℕ → Drawn A) where
  pub several_none : (at : ℕ) → several step 0 at ≡ Ok ([], at)
  unfolding several
  several_none at = refl

  rest : Drawn (List A) → Drawn (List A)
  rest d = then d (λ xs. then (step xs.1) (λ x. Ok (xs.0 ++ (x.0 ∷ []), x.1)))

  opens : (n at : ℕ) → several step (suc n) at ≡ rest (several step n at)
  unfolding several rest
  opens n at = refl

  pub several_more : (n at p q : ℕ) (xs : List A) (x : A) → several step n at ≡ Ok (xs, p) → step p ≡ Ok (x, q) → several step (n + 1) at ≡ Ok (xs ++ (x ∷ []), q)
  unfolding rest
  several_more n at p q xs x e h =
      ap (λ (i : ℕ). several step i at) (add-one n) ∙ opens n at ∙ ap rest e ∙ ap (λ (d : Drawn A). then d (λ y. Ok (xs ++ (y.0 ∷ []), y.1))) h

  stays : (n d at : ℕ) (e : Fault) → several step n at ≡ Err e → several step (n + d) at ≡ Err e
  unfolding rest
  stays n zero at e h = ap (λ (i : ℕ). several step i at) (add-zero n) ∙ h
  stays n (suc d) at e h = ap (λ (i : ℕ). several step i at) (add-suc n d) ∙ opens (n + d) at ∙ ap rest (stays n d at e h)

  pub several_stop : (n count at p : ℕ) (xs : List A) (e : Fault) → n < count → several step n at ≡ Ok (xs, p) → step p ≡ Err e → several step count at ≡ Err e
  unfolding rest
  several_stop n count at p xs e l h s =
      let m : count ≡ suc n + (count - suc n) = omega arith in
      ap (λ (i : ℕ). several step i at) m
      ∙ stays (suc n) (count - suc n) at e (opens n at ∙ ap rest h ∙ ap (λ (d : Drawn A). then d (λ y. Ok (xs ++ (y.0 ∷ []), y.1))) s)

-- ---- the first that is kept

module _ {A : Type 0} (keeps : A → Bool) (draw : ℕ → Drawn A) where
  choose : ℕ → Drawn A → Drawn A
  choose t d = then d (λ x. cond (keeps x.0) (Ok x) (first_kept keeps draw t x.1))

  kept_opens : (t at : ℕ) → first_kept keeps draw (suc t) at ≡ choose t (draw at)
  unfolding first_kept choose
  kept_opens t at = refl

  pub kept_yes : (t at p : ℕ) (x : A) → draw at ≡ Ok (x, p) → keeps x ≡ true → first_kept keeps draw (suc t) at ≡ Ok (x, p)
  unfolding choose
  kept_yes t at p x e k = kept_opens t at ∙ ap (choose t) e ∙ ap (λ (b : Bool). cond b (Ok (x, p)) (first_kept keeps draw t p)) k

  pub kept_no : (t at p : ℕ) (x : A) → draw at ≡ Ok (x, p) → keeps x ≡ false → first_kept keeps draw (suc t) at ≡ first_kept keeps draw t p
  unfolding choose
  kept_no t at p x e k = kept_opens t at ∙ ap (choose t) e ∙ ap (λ (b : Bool). cond b (Ok (x, p)) (first_kept keeps draw t p)) k

  pub kept_stop : (t at : ℕ) (e : Fault) → draw at ≡ Err e → first_kept keeps draw (suc t) at ≡ Err e
  unfolding choose
  kept_stop t at e h = kept_opens t at ∙ ap (choose t) h

  -- the same as a loop meets it, d draws of 255 later; `all` is what drawing gives in the end

  left : (d : ℕ) → d < 255 → 255 - d ≡ suc (255 - (d + 1))
  left d h = omega arith

  pub try_yes : (d at p : ℕ) (x : A) (all : Drawn A) → d < 255 → first_kept keeps draw (255 - d) at ≡ all → draw at ≡ Ok (x, p) → keeps x ≡ true → all ≡ Ok (x, p)
  try_yes d at p x all l e h k = sym e ∙ ap (λ (t : ℕ). first_kept keeps draw t at) (left d l) ∙ kept_yes (255 - (d + 1)) at p x h k

  pub try_no : (d at p : ℕ) (x : A) (all : Drawn A) → d < 255 → first_kept keeps draw (255 - d) at ≡ all → draw at ≡ Ok (x, p) → keeps x ≡ false → first_kept keeps draw (255 - (d + 1)) p ≡ all
  try_no d at p x all l e h k = sym (kept_no (255 - (d + 1)) at p x h k) ∙ ap (λ (t : ℕ). first_kept keeps draw t at) (sym (left d l)) ∙ e

  pub try_stop : (d at : ℕ) (s : Fault) (all : Drawn A) → d < 255 → first_kept keeps draw (255 - d) at ≡ all → draw at ≡ Err s → all ≡ Err s
  try_stop d at s all l e h = sym e ∙ ap (λ (t : ℕ). first_kept keeps draw t at) (left d l) ∙ kept_stop (255 - (d + 1)) at s h

  pub try_none : (d at : ℕ) (all : Drawn A) → 255 ≤ d → first_kept keeps draw (255 - d) at ≡ all → all ≡ Err (fault_at NothingKept Draw at)
  unfolding first_kept
  try_none d at all l e = let z : 255 - d ≡ 0 = omega arith in sym e ∙ ap (λ (t : ℕ). first_kept keeps draw t at) z

-- ---- the exit of a `?`

pub took_stop : {A : Type 0} (f : Stream) (d : Drawn A) (P : A → Type 0) (g : Stream) (r : Result ℕ Fault) (e y : Fault) → r ≡ Err y → y ≡ e → d ≡ Err e → Sees f g e.place → Took f d P r g
took_stop f d P g r e y q c h s = subst (λ (r : Result ℕ Fault). Took f d P r g) (sym (q ∙ ap Err c)) (h, s)

pub drew_stop : {A : Type 0} (f : Stream) (d : Drawn A) (P : A → Type 0) (g : Stream) (r : Result Unit Fault) (to : ℕ) (e y : Fault) → r ≡ Err y → y ≡ e → d ≡ Err e → Sees f g e.place
    → Took f d P (ending r to) g
drew_stop f d P g r to e y q = took_stop f d P g (ending r to) e y (ap (λ (r : Result Unit Fault). ending r to) q)

-- ---- words of zeros

pub words_zeros : (n : ℕ) → Words (replicate n 0)
words_zeros zero i = omega arith
words_zeros (suc n) zero = omega arith
words_zeros (suc n) (suc i) = words_zeros n i
