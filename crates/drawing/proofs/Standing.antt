-- Where what is drawn stands.
use Rattle.std.proofs.Common.{◌≡◌, ℕ, zero, suc, ◌+◌, ◌*◌, ◌/◌, ◌%◌, ◌^◌, ◌<◌, Bool, true, false, cond, ◌⊎◌, List, [], ◌∷◌, ◌++◌, length, get_or, Some, None, Ok, Err, Option, Result, sym, refl, ap, ◌∙◌, subst, inl, inr, mul-le-mul_right, suc-mul, mul_comm, zero-mul, arith, pow_pos}
use native.Mathlib.Decide.{ℕ_discrete}
use Rattle.std.proofs.lemmas.Nat.{pow_below}
use Rattle.std.proofs.lemmas.List.{get_or_append_left, get_or_push, length_push}
use Rattle.std.proofs.lemmas.Bool.{cases_Bool}
use Rattle.bits.specs.declared.refusal.Refusal.TheVariants.{NothingKept, SourceDry}
use Rattle.bits.specs.declared.refusal.Layer.TheVariants.{Draw}
use Rattle.bits.specs.declared.refusal.Fault.{Fault}
use Rattle.bits.specs.Refusals.{fault_at, then}
use Rattle.bits.specs.Gf2.{dot}
use Rattle.bits.proofs.Products.{dot_below, dot_zero_l, pow_step}
use Rattle.bits.proofs.Rank.{dot_one, dot_power}
use Rattle.bits.proofs.Gauss.{dot_cat}
use Rattle.drawing.specs.Streams.{Bit, Bits, Stream}
use Rattle.drawing.specs.Drawing.{Drawn, bit_of, first_kept, matrix, row, several}
use Rattle.drawing.specs.Places.{Chosen, Passed, Places}

-- a value comes only from a value before it
then_ok : {A B : Type 0} (d : Result A Fault) (h : A → Result B Fault) (y : B) → then d h ≡ Ok y → (x : A) × (d ≡ Ok x) × (h x ≡ Ok y)
then_ok (Ok x) h y e = (x, refl, e)
then_ok (Err s) h y e = absurd (let z : ◌≡◌ {A = ℕ} 0 1 = cc in omega arith)

then_err : {A B : Type 0} (d : Result A Fault) (h : A → Result B Fault) (s : Fault) → then d h ≡ Err s → (d ≡ Err s) ⊎ ((x : A) × (d ≡ Ok x) × (h x ≡ Err s))
then_err (Ok x) h s e = inr (x, refl, e)
then_err (Err t) h s e = inl (cc)

ok_pair : {A : Type 0} (x y : A) (p q : ℕ) → ◌≡◌ {A = Drawn A} (Ok (x, p)) (Ok (y, q)) → (x ≡ y) × (p ≡ q)
ok_pair {A} x y p q e = let z : ◌≡◌ {A = A × ℕ} (x, p) (y, q) = cc in (ap (λ (t : A × ℕ). t.0) z, ap (λ (t : A × ℕ). t.1) z)

never : {A : Type 0} (x : A) (s : Fault) → ◌≡◌ {A = Result A Fault} (Ok x) (Err s) → ⊥
never x s e = let z : ◌≡◌ {A = ℕ} 0 1 = cc in omega arith

bit_ok : (o : Option ℕ) (at b p : ℕ) → bit_of o at ≡ Ok (b, p) → (o ≡ Some b) × (p ≡ at + 1)
bit_ok None at b p e = absurd (let z : ◌≡◌ {A = ℕ} 0 1 = cc in omega arith)
bit_ok (Some c) at b p e = let z = ok_pair c b (at + 1) p e in (ap (λ (x : ℕ). Some x) z.0, sym z.1)

-- ---- rows

pub record RowAt (f : Stream) (k at x p : ℕ) : Type 0 where
  pub place : p ≡ at + k
  pub small : x < 2 ^ k
  pub bits : (i : ℕ) → i < k → f (at + i) ≡ Some (x / 2 ^ i % 2)

-- one more bit above y
pub record Higher (k y b : ℕ) : Type 0 where
  pub small : y + b * 2 ^ k < 2 ^ suc k
  pub lower : (i : ℕ) → i < k → y / 2 ^ i % 2 ≡ (y + b * 2 ^ k) / 2 ^ i % 2
  pub here : b ≡ (y + b * 2 ^ k) / 2 ^ k % 2

higher : (k y b : ℕ) → y < 2 ^ k → b < 2 → Higher k y b
higher k y b h l =
    let e : y + b * 2 ^ k ≡ y + 2 ^ k * b = omega (arith, mul_comm b (2 ^ k)) in
    record {
      small = omega (arith, h, mul-le-mul_right {m = b} {n = 1} (2 ^ k) (omega arith), pow_step k);
      lower = λ i t.
          let a : 2 ^ i + 2 ^ k * 0 ≡ 2 ^ i = omega arith in
          let c : dot (2 ^ i) (y + b * 2 ^ k) ≡ dot (2 ^ i) y =
          ap (dot (2 ^ i)) e ∙ ap (λ (z : ℕ). dot z (y + 2 ^ k * b)) (sym a) ∙ dot_cat k (2 ^ i) 0 y b (pow_below i k t) h ∙ omega (arith, dot_zero_l b, dot_below (2 ^ i) y) in
          sym (dot_power i y) ∙ sym c ∙ dot_power i (y + b * 2 ^ k);
      here =
          let a : 0 + 2 ^ k * 1 ≡ 2 ^ k = omega arith in
          let c : dot (2 ^ k) (y + b * 2 ^ k) ≡ b =
          ap (dot (2 ^ k)) e ∙ ap (λ (z : ℕ). dot z (y + 2 ^ k * b)) (sym a) ∙ dot_cat k 0 1 y b (pow_pos k) h ∙ omega (arith, dot_zero_l y, dot_one b) in
          sym c ∙ dot_power k (y + b * 2 ^ k);
    }

row_at : (f : Stream) → Bits f → (k at x p : ℕ) → row f k at ≡ Ok (x, p) → RowAt f k at x p
unfolding row
row_at f d zero at x p e = let z = ok_pair 0 x at p e in let a : 0 ≡ x = z.0 in let b : at ≡ p = z.1 in record { place = omega arith; small = omega arith; bits = λ i h. absurd (omega arith) }
row_at f d (suc k) at x p e =
    let a = then_ok (row f k at) _ _ e in
    let r = row_at f d k at a.0.0 a.0.1 a.1 in
    let b = then_ok (bit_of (f a.0.1) a.0.1) _ _ a.2 in
    go a.0.0 a.0.1 b.0.0 b.0.1 r (bit_ok (f a.0.1) a.0.1 b.0.0 b.0.1 b.1) b.2
  where
    go : (y q c s : ℕ) → RowAt f k at y q → (f q ≡ Some c) × (s ≡ q + 1) → ◌≡◌ {A = Drawn ℕ} (Ok (y + c * 2 ^ k, s)) (Ok (x, p)) → RowAt f (suc k) at x p
    go y q c s r (fc, sq) e =
        let z = ok_pair (y + c * 2 ^ k) x s p e in
        let ex : y + c * 2 ^ k ≡ x = z.0 in
        let ep : s ≡ p = z.1 in
        let w : Higher k y c = higher k y c r.small (subst Bit fc (d q)) in
        let here : f (at + k) ≡ Some c = ap f (sym r.place) ∙ fc in
        record {
          place = omega (arith, r.place);
          small = subst (λ (z : ℕ). z < 2 ^ suc k) ex w.small;
          bits = λ i h. subst (λ (z : ℕ). f (at + i) ≡ Some (z / 2 ^ i % 2)) ex (elim (ℕ_discrete i k) [
            | yes t ↦ subst (λ (j : ℕ). f (at + j) ≡ Some ((y + c * 2 ^ k) / 2 ^ j % 2)) (sym t) (here ∙ ap (λ (z : ℕ). Some z) w.here)
            | no t ↦ r.bits i (omega arith) ∙ ap (λ (z : ℕ). Some z) (w.lower i (omega arith))
          ]);
        }

row_place : (f : Stream) (k at x p : ℕ) → row f k at ≡ Ok (x, p) → p ≡ at + k
unfolding row
row_place f zero at x p e = let b : at ≡ p = (ok_pair 0 x at p e).1 in omega arith
row_place f (suc k) at x p e =
    let a = then_ok (row f k at) _ _ e in
    let b = then_ok (bit_of (f a.0.1) a.0.1) _ _ a.2 in
    let q : a.0.1 ≡ at + k = row_place f k at a.0.0 a.0.1 a.1 in
    let s : b.0.1 ≡ a.0.1 + 1 = (bit_ok (f a.0.1) a.0.1 b.0.0 b.0.1 b.1).1 in
    let t : b.0.1 ≡ p = (ok_pair _ _ _ _ b.2).1 in
    omega (arith, q, s, t)

-- ---- matrices

pub record MatrixAt (f : Stream) (n k at : ℕ) (M : List ℕ) (p : ℕ) : Type 0 where
  pub place : p ≡ at + n * k
  pub size : length M ≡ n
  pub rows : (i : ℕ) → i < n → row f k (at + i * k) ≡ Ok (get_or M i 0, at + i * k + k)

matrix_at_is : (f : Stream) (n k at p : ℕ) (M : List ℕ) → matrix f n k at ≡ Ok (M, p) → MatrixAt f n k at M p
unfolding several
matrix_at_is f zero k at p M e = let z = ok_pair [] M at p e in let b : at ≡ p = z.1 in record { place = omega (arith, zero-mul k); size = ap length (sym z.0); rows = λ i h. absurd (omega arith) }
matrix_at_is f (suc n) k at p M e =
    let a = then_ok (several (row f k) n at) _ _ e in
    let b = then_ok (row f k a.0.1) _ _ a.2 in
    go a.0.0 a.0.1 b.0.0 b.0.1 (matrix_at_is f n k at a.0.1 a.0.0 a.1) b.1 (row_place f k a.0.1 b.0.0 b.0.1 b.1) b.2
  where
    go : (N : List ℕ) (q x s : ℕ) → MatrixAt f n k at N q → row f k q ≡ Ok (x, s) → s ≡ q + k → ◌≡◌ {A = Drawn (List ℕ)} (Ok (N ++ (x ∷ []), s)) (Ok (M, p)) → MatrixAt f (suc n) k at M p
    go N q x s m r sq e =
        let z = ok_pair (N ++ (x ∷ [])) M s p e in
        let eM : N ++ (x ∷ []) ≡ M = z.0 in
        let ep : s ≡ p = z.1 in
        let one : suc n * k ≡ n * k + k = suc-mul n k in
        record {
          place = omega (arith, m.place);
          size = sym (ap length eM) ∙ length_push N x ∙ omega (arith, m.size);
          rows = λ i h. subst (λ (z : List ℕ). row f k (at + i * k) ≡ Ok (get_or z i 0, at + i * k + k)) eM (elim (ℕ_discrete i n) [
            | yes t ↦ subst (λ (j : ℕ). row f k (at + j * k) ≡ Ok (get_or (N ++ (x ∷ [])) j 0, at + j * k + k)) (sym t)
                (subst (λ (z : ℕ). row f k z ≡ Ok (get_or (N ++ (x ∷ [])) n 0, z + k)) m.place
                (r ∙ ap (λ (z : ℕ). Ok (x, z)) sq ∙ ap (λ (z : ℕ). Ok (z, q + k)) (sym (get_or_push N x 0 n m.size))))
            | no t ↦ m.rows i (omega arith) ∙ ap (λ (z : ℕ). Ok (z, at + i * k + k)) (sym (get_or_append_left N (x ∷ []) 0 i (omega (arith, m.size))))
          ]);
        }

-- ---- a source that is dry

abbrev Dry : Stream → Fault → Type 0
Dry f s = (s ≡ fault_at SourceDry Draw s.place) × (f s.place ≡ None)

bit_dry : (f : Stream) (at : ℕ) (o : Option ℕ) (s : Fault) → f at ≡ o → bit_of o at ≡ Err s → Dry f s
bit_dry f at None s h e = let z : fault_at SourceDry Draw at ≡ s = cc in subst (Dry f) z (refl, h)
bit_dry f at (Some b) s h e = absurd (never (b, at + 1) s e)

row_dry : (f : Stream) (k at : ℕ) (s : Fault) → row f k at ≡ Err s → Dry f s
unfolding row
row_dry f zero at s e = absurd (never (0, at) s e)
row_dry f (suc k) at s e = elim (then_err (row f k at) _ s e) [
  | inl a ↦ row_dry f k at s a
  | inr (x, _, b) ↦ elim (then_err (bit_of (f x.1) x.1) _ s b) [ inl c ↦ bit_dry f x.1 (f x.1) s refl c | inr (y, _, c) ↦ absurd (never _ s c) ]
]

matrix_dry : (f : Stream) (n k at : ℕ) (s : Fault) → matrix f n k at ≡ Err s → Dry f s
unfolding several
matrix_dry f zero k at s e = absurd (never ([], at) s e)
matrix_dry f (suc n) k at s e = elim (then_err (several (row f k) n at) _ s e) [
  | inl a ↦ matrix_dry f n k at s a
  | inr (x, _, b) ↦ elim (then_err (row f k x.1) _ s b) [ inl c ↦ row_dry f k x.1 s c | inr (y, _, c) ↦ absurd (never _ s c) ]
]

-- ---- candidates

module _ (f : Stream) (keeps : List ℕ → Bool) (n k : ℕ) where
  later : (at i : ℕ) → at + n * k + i * (n * k) ≡ at + suc i * (n * k)
  later at i = omega (arith, suc-mul i (n * k))

  -- one candidate was passed, and those after it from their place on
  passed_more : (at t : ℕ) (M : List ℕ) → matrix f n k at ≡ Ok (M, at + n * k) → keeps M ≡ false
      → ((i : ℕ) → i < t → Passed f keeps n k (at + n * k) i) → (i : ℕ) → i < suc t → Passed f keeps n k at i
  passed_more at t M e h g zero l =
      let z : at ≡ at + 0 * (n * k) = omega (arith, zero-mul (n * k)) in
      subst (λ (q : ℕ). (N : List ℕ) × (matrix f n k q ≡ Ok (N, q + n * k)) × (keeps N ≡ false)) z (M, e, h)
  passed_more at t M e h g (suc i) l =
      subst (λ (q : ℕ). (N : List ℕ) × (matrix f n k q ≡ Ok (N, q + n * k)) × (keeps N ≡ false)) (later at i) (g i (omega arith))

  pub chosen : (t at p : ℕ) (M : List ℕ) → first_kept keeps (matrix f n k) t at ≡ Ok (M, p) → (j : ℕ) × (j < t) × Chosen f keeps n k at M p j
  unfolding first_kept
  chosen zero at p M e = absurd (let z : ◌≡◌ {A = ℕ} 0 1 = cc in omega arith)
  chosen (suc t) at p M e =
      let a = then_ok (matrix f n k at) _ _ e in
      go a.0.0 a.0.1 a.1 (matrix_at_is f n k at a.0.1 a.0.0 a.1).place a.2 (cases_Bool (keeps a.0.0)) (λ q h. chosen t q p M h)
    where
      go : (N : List ℕ) (q : ℕ) → matrix f n k at ≡ Ok (N, q) → q ≡ at + n * k → cond (keeps N) (Ok (N, q)) (first_kept keeps (matrix f n k) t q) ≡ Ok (M, p)
          → (keeps N ≡ true) ⊎ (keeps N ≡ false) → ((q : ℕ) → first_kept keeps (matrix f n k) t q ≡ Ok (M, p) → (j : ℕ) × (j < t) × Chosen f keeps n k q M p j)
          → (j : ℕ) × (j < suc t) × Chosen f keeps n k at M p j
      go N q e qa c (inl y) ih =
          let s : ◌≡◌ {A = Drawn (List ℕ)} (Ok (N, q)) (Ok (M, p)) = sym (ap (λ (b : Bool). cond b (Ok (N, q)) (first_kept keeps (matrix f n k) t q)) y) ∙ c in
          let o = ok_pair N M q p s in
          let eN : N ≡ M = o.0 in
          let eq : q ≡ p = o.1 in
          let z : at ≡ at + 0 * (n * k) = omega (arith, zero-mul (n * k)) in
          (0, omega arith, (ap (matrix f n k) (sym z) ∙ e ∙ s, omega arith, ap keeps (sym eN) ∙ y, λ i h. absurd (omega arith)))
      go N q e qa c (inr y) ih =
          let s : first_kept keeps (matrix f n k) t q ≡ Ok (M, p) = sym (ap (λ (b : Bool). cond b (Ok (N, q)) (first_kept keeps (matrix f n k) t q)) y) ∙ c in
          let r = ih (at + n * k) (subst (λ (z : ℕ). first_kept keeps (matrix f n k) t z ≡ Ok (M, p)) qa s) in
          let w : at + n * k + r.0 * (n * k) ≡ at + suc r.0 * (n * k) = later at r.0 in (
            suc r.0,
            omega (arith, r.1),
            (
              subst (λ (z : ℕ). matrix f n k z ≡ Ok (M, p)) w r.2.0,
              r.2.1 ∙ ap (λ (z : ℕ). z + n * k) w,
              r.2.2,
              passed_more at r.0 N (e ∙ ap (λ (z : ℕ). Ok (N, z)) qa) y r.2.3,
            ),
          )

  pub nothing_kept : (t at p : ℕ) → first_kept keeps (matrix f n k) t at ≡ Err (fault_at NothingKept Draw p) → (p ≡ at + t * (n * k)) × ((i : ℕ) → i < t → Passed f keeps n k at i)
  unfolding first_kept
  nothing_kept zero at p e =
      let z : fault_at NothingKept Draw at ≡ fault_at NothingKept Draw p = cc in
      let q : at ≡ p = ap (λ (s : Fault). s.place) z in
      (omega (arith, zero-mul (n * k)), λ i h. absurd (omega arith))
  nothing_kept (suc t) at p e = go (then_err (matrix f n k at) _ _ e) (λ q. nothing_kept t q p)
    where
      other : Dry f (fault_at NothingKept Draw p) → ⊥
      other d =
          let r : NothingKept ≡ SourceDry = ap (λ (s : Fault). s.refusal) d.0 in
          let z : ◌≡◌ {A = ℕ} 0 1 = cc in omega arith

      tell : (N : List ℕ) (q : ℕ) → matrix f n k at ≡ Ok (N, q) → q ≡ at + n * k
          → cond (keeps N) (Ok (N, q)) (first_kept keeps (matrix f n k) t q) ≡ Err (fault_at NothingKept Draw p) → (keeps N ≡ true) ⊎ (keeps N ≡ false)
          → ((q : ℕ) → first_kept keeps (matrix f n k) t q ≡ Err (fault_at NothingKept Draw p) → (p ≡ q + t * (n * k)) × ((i : ℕ) → i < t → Passed f keeps n k q i))
          → (p ≡ at + suc t * (n * k)) × ((i : ℕ) → i < suc t → Passed f keeps n k at i)
      tell N q e qa c (inl y) ih = absurd (never (N, q) _ (sym (ap (λ (b : Bool). cond b (Ok (N, q)) (first_kept keeps (matrix f n k) t q)) y) ∙ c))
      tell N q e qa c (inr y) ih =
          let s : first_kept keeps (matrix f n k) t q ≡ Err (fault_at NothingKept Draw p) = sym (ap (λ (b : Bool). cond b (Ok (N, q)) (first_kept keeps (matrix f n k) t q)) y) ∙ c in
          let r = ih (at + n * k) (subst (λ (z : ℕ). first_kept keeps (matrix f n k) t z ≡ Err (fault_at NothingKept Draw p)) qa s) in
          (r.0 ∙ later at t, passed_more at t N (e ∙ ap (λ (z : ℕ). Ok (N, z)) qa) y r.1)

      go : (matrix f n k at ≡ Err (fault_at NothingKept Draw p)) ⊎ ((x : List ℕ × ℕ) × (matrix f n k at ≡ Ok x) × (cond (keeps x.0) (Ok x) (first_kept keeps (matrix f n k) t x.1) ≡ Err (fault_at NothingKept Draw p)))
          → ((q : ℕ) → first_kept keeps (matrix f n k) t q ≡ Err (fault_at NothingKept Draw p) → (p ≡ q + t * (n * k)) × ((i : ℕ) → i < t → Passed f keeps n k q i))
          → (p ≡ at + suc t * (n * k)) × ((i : ℕ) → i < suc t → Passed f keeps n k at i)
      go (inl a) ih = absurd (other (matrix_dry f n k at _ a))
      go (inr (x, a, b)) ih = tell x.0 x.1 a (matrix_at_is f n k at x.1 x.0 a).place b (cases_Bool (keeps x.0)) ih

  -- a stop that is not for want of a kept one comes where the source is dry
  pub kept_dry : (t at p : ℕ) → first_kept keeps (matrix f n k) t at ≡ Err (fault_at SourceDry Draw p) → f p ≡ None
  unfolding first_kept
  kept_dry zero at p e =
      absurd (let z : fault_at NothingKept Draw at ≡ fault_at SourceDry Draw p = cc in
      let r : NothingKept ≡ SourceDry = ap (λ (s : Fault). s.refusal) z in
      let z : ◌≡◌ {A = ℕ} 0 1 = cc in omega arith)
  kept_dry (suc t) at p e = go (then_err (matrix f n k at) _ _ e) (λ q. kept_dry t q p)
    where
      tell : (N : List ℕ) (q : ℕ) → cond (keeps N) (Ok (N, q)) (first_kept keeps (matrix f n k) t q) ≡ Err (fault_at SourceDry Draw p) → (keeps N ≡ true) ⊎ (keeps N ≡ false)
          → ((q : ℕ) → first_kept keeps (matrix f n k) t q ≡ Err (fault_at SourceDry Draw p) → f p ≡ None) → f p ≡ None
      tell N q c (inl y) ih = absurd (never (N, q) _ (sym (ap (λ (b : Bool). cond b (Ok (N, q)) (first_kept keeps (matrix f n k) t q)) y) ∙ c))
      tell N q c (inr y) ih = ih q (sym (ap (λ (b : Bool). cond b (Ok (N, q)) (first_kept keeps (matrix f n k) t q)) y) ∙ c)

      go : (matrix f n k at ≡ Err (fault_at SourceDry Draw p)) ⊎ ((x : List ℕ × ℕ) × (matrix f n k at ≡ Ok x) × (cond (keeps x.0) (Ok x) (first_kept keeps (matrix f n k) t x.1) ≡ Err (fault_at SourceDry Draw p)))
          → ((q : ℕ) → first_kept keeps (matrix f n k) t q ≡ Err (fault_at SourceDry Draw p) → f p ≡ None) → f p ≡ None
      go (inl a) ih = (matrix_dry f n k at _ a).1
      go (inr (x, a, b)) ih = tell x.0 x.1 b (cases_Bool (keeps x.0)) ih

pub places : Places
places = record {
  rows = λ f k at x p d e. let r = row_at f d k at x p e in (r.place, r.bits);
  matrices = λ f n k at p M e. let m = matrix_at_is f n k at p M e in (m.place, m.size, m.rows);
  kept = λ f keeps n k at p M. chosen f keeps n k 255 at p M;
  nothing = λ f keeps n k at p. nothing_kept f keeps n k 255 at p;
  dry = λ f keeps n k at p. kept_dry f keeps n k 255 at p;
}
