-- Finite search, and that an injection of a finite range into itself meets every number of the range.
use Rattle.std.proofs.Common.{◌≡◌, ℕ, zero, suc, ◌<◌, ◌≢◌, ◌⊎◌, sym, refl, ap, ◌∙◌, subst, inl, inr, arith}
use native.Mathlib.Decide.{ℕ_discrete}

pub searched : (P : ℕ → Type 0) → ((x : ℕ) → Dec (P x)) → (k : ℕ) → ((x : ℕ) × (x < k) × P x) ⊎ ((x : ℕ) → x < k → P x → ⊥)
searched P d zero = inr (λ x h p. omega arith)
searched P d (suc k) = go (d k) (searched P d k)
  where
    go : Dec (P k) → ((x : ℕ) × (x < k) × P x) ⊎ ((x : ℕ) → x < k → P x → ⊥) → ((x : ℕ) × (x < suc k) × P x) ⊎ ((x : ℕ) → x < suc k → P x → ⊥)
    go (yes p) r = inl (k, omega arith, p)
    go (no q) (inl (x, h, p)) = inl (x, omega arith, p)
    go (no q) (inr r) = inr (λ x h p. elim (ℕ_discrete x k) [ yes e ↦ q (subst P e p) | no e ↦ r x (omega arith) p ])

-- `v` with `k` sent to `m`
moved : ℕ → ℕ → ℕ → ℕ
moved k m v = elim (ℕ_discrete v k) [ yes e ↦ m | no e ↦ v ]

moved_is : (k m v : ℕ) → ((v ≡ k) × (moved k m v ≡ m)) ⊎ ((v ≢ k) × (moved k m v ≡ v))
unfolding moved
moved_is k m v = go (ℕ_discrete v k)
  where
    to : Dec (v ≡ k) → ℕ
    to d = elim d [ yes e ↦ m | no e ↦ v ]

    go : (d : Dec (v ≡ k)) → ((v ≡ k) × (to d ≡ m)) ⊎ ((v ≢ k) × (to d ≡ v))
    go (yes e) = inl (e, refl)
    go (no e) = inr (e, refl)

abbrev pub Within : ℕ → (ℕ → ℕ) → Type 0
Within k f = (x : ℕ) → x < k → f x < k

abbrev pub Injective : ℕ → (ℕ → ℕ) → Type 0
Injective k f = (x y : ℕ) → x < k → y < k → f x ≡ f y → x ≡ y

apart : (k : ℕ) (f : ℕ → ℕ) → Injective k f → (x y : ℕ) → x < k → y < k → (x ≡ y) ⊎ (f x ≢ f y)
apart k f i x y hx hy = elim (ℕ_discrete (f x) (f y)) [ yes e ↦ inl (i x y hx hy e) | no e ↦ inr e ]

pub onto : (k : ℕ) (f : ℕ → ℕ) → Within k f → Injective k f → (y : ℕ) → y < k → (x : ℕ) × (x < k) × (f x ≡ y)
onto zero f w i y h = absurd (omega arith)
onto (suc k) f w i y h = go (onto k g gw gi) (ℕ_discrete y (f k))
  where
    g : ℕ → ℕ
    g x = moved k (f k) (f x)

    gw : Within k g
    gw x l = omega (arith, moved_is k (f k) (f x), w x (omega arith), w k (omega arith), apart (suc k) f i x k (omega arith) (omega arith))

    gi : Injective k g
    gi x z lx lz e = omega (arith, e, moved_is k (f k) (f x), moved_is k (f k) (f z), apart (suc k) f i x z (omega arith) (omega arith), apart (suc k) f i x k (omega arith) (omega arith), apart (suc k) f i z k (omega arith) (omega arith))

    go : ((t : ℕ) → t < k → (x : ℕ) × (x < k) × (g x ≡ t)) → Dec (y ≡ f k) → (x : ℕ) × (x < suc k) × (f x ≡ y)
    go ih (yes e) = (k, omega arith, sym e)
    go ih (no e) =
        let s = ih (moved k (f k) y) (omega (arith, moved_is k (f k) y, w k (omega arith))) in
        let u : s.0 < k = s.1 in
        (s.0, omega arith, omega (arith, s.2, moved_is k (f k) (f s.0), moved_is k (f k) y, apart (suc k) f i s.0 k (omega arith) (omega arith)))

-- so a one-sided inverse is two-sided
pub other_side : (k : ℕ) (f g : ℕ → ℕ) → Within k f → Within k g → ((x : ℕ) → x < k → g (f x) ≡ x) → (y : ℕ) → y < k → f (g y) ≡ y
other_side k f g wf wg e y h =
    let s = onto k f wf (λ a b ha hb p. sym (e a ha) ∙ ap g p ∙ e b hb) y h in
    ap (λ (z : ℕ). f (g z)) (sym s.2) ∙ ap f (e s.0 s.1) ∙ s.2
