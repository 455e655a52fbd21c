-- The substitution and its inverse: on one triple case by case, on a state triple by triple.
use Rattle.std.proofs.Common.{◌≡◌, ℕ, zero, suc, ◌+◌, ◌-◌, ◌*◌, ◌/◌, ◌%◌, ◌^◌, ◌<◌, ◌≤◌, refl, ap, ◌∙◌, ap₂, arith, lit<, pow-add}
use Rattle.cipher.specs.LowMC.{box, each, substitution, unbox, unsubstitution}
use Rattle.cipher.specs.Laws.{Undone}

-- ---- on one triple

-- a fact of the numbers below 8, case by case
pub eight : (P : ℕ → Type 0) → P 0 × P 1 × P 2 × P 3 × P 4 × P 5 × P 6 × P 7 → (t : ℕ) → t < 8 → P t
eight P p zero h = p.0
eight P p (suc zero) h = p.1
eight P p (suc (suc zero)) h = p.2
eight P p (suc (suc (suc zero))) h = p.3
eight P p (suc (suc (suc (suc zero)))) h = p.4
eight P p (suc (suc (suc (suc (suc zero))))) h = p.5
eight P p (suc (suc (suc (suc (suc (suc zero)))))) h = p.6
eight P p (suc (suc (suc (suc (suc (suc (suc zero))))))) h = p.7
eight P p (suc (suc (suc (suc (suc (suc (suc (suc t)))))))) h = absurd (omega arith)

-- a box takes a triple to a triple
abbrev pub Boxed : (ℕ → ℕ) → Type 0
Boxed f = (t : ℕ) → t < 8 → f t < 8

pub box_below : Boxed box
unfolding box
box_below = eight (λ t. box t < 8) (lit< tt, lit< tt, lit< tt, lit< tt, lit< tt, lit< tt, lit< tt, lit< tt)

pub unbox_below : Boxed unbox
unfolding unbox
unbox_below = eight (λ t. unbox t < 8) (lit< tt, lit< tt, lit< tt, lit< tt, lit< tt, lit< tt, lit< tt, lit< tt)

pub unbox_box : (t : ℕ) → t < 8 → unbox (box t) ≡ t
unfolding box unbox
unbox_box = eight (λ t. unbox (box t) ≡ t) (refl, refl, refl, refl, refl, refl, refl, refl)

pub box_unbox : (t : ℕ) → t < 8 → box (unbox t) ≡ t
unfolding box unbox
box_unbox = eight (λ t. box (unbox t) ≡ t) (refl, refl, refl, refl, refl, refl, refl, refl)

-- ---- on each triple of a state, for either box

pub each_each : (f g : ℕ → ℕ) → Boxed f → ((t : ℕ) → t < 8 → g (f t) ≡ t) → (m x : ℕ) → each g m (each f m x) ≡ x
unfolding each
each_each f g b e zero x = refl
each_each f g b e (suc m) x =
    let h : f (x % 8) < 8 = b (x % 8) (omega arith) in
    let low : (f (x % 8) + 8 * each f m (x / 8)) % 8 ≡ f (x % 8) = omega arith in
    let rest : (f (x % 8) + 8 * each f m (x / 8)) / 8 ≡ each f m (x / 8) = omega arith in
    ap₂ (λ (y z : ℕ). g y + 8 * each g m z) low rest
    ∙ ap₂ (λ (y z : ℕ). y + 8 * z) (e (x % 8) (omega arith)) (each_each f g b e m (x / 8)) ∙ omega arith

pow_eight : (n : ℕ) → 3 ≤ n → 2 ^ n ≡ 8 * 2 ^ (n - 3)
pow_eight n h =
    let e : n ≡ 3 + (n - 3) = omega arith in
    ap (λ (k : ℕ). 2 ^ k) e ∙ pow-add 2 3 (n - 3)

pub each_below : (f : ℕ → ℕ) → Boxed f → (m n x : ℕ) → 3 * m ≤ n → x < 2 ^ n → each f m x < 2 ^ n
unfolding each
each_below f b zero n x h l = l
each_below f b (suc m) n x h l =
    let e : 2 ^ n ≡ 8 * 2 ^ (n - 3) = pow_eight n (omega arith) in
    omega (arith, e, each_below f b m (n - 3) (x / 8) (omega arith) (omega arith), b (x % 8) (omega arith))

-- ---- the substitution

pub unsubstitution_substitution : (m x : ℕ) → unsubstitution m (substitution m x) ≡ x
unfolding substitution unsubstitution
unsubstitution_substitution = each_each box unbox box_below unbox_box

pub substitution_unsubstitution : (m x : ℕ) → substitution m (unsubstitution m x) ≡ x
unfolding substitution unsubstitution
substitution_unsubstitution = each_each unbox box unbox_below box_unbox

pub substitution_below : (m n x : ℕ) → 3 * m ≤ n → x < 2 ^ n → substitution m x < 2 ^ n
unfolding substitution
substitution_below = each_below box box_below

pub unsubstitution_below : (m n x : ℕ) → 3 * m ≤ n → x < 2 ^ n → unsubstitution m x < 2 ^ n
unfolding unsubstitution
unsubstitution_below = each_below unbox unbox_below

pub undone : Undone
undone = record {
  left = unsubstitution_substitution;
  right = substitution_unsubstitution;
  within = substitution_below;
  within_back = unsubstitution_below;
}
