-- The register of the generator stays within its bits and is never zero.
use Rattle.std.proofs.Common.{◌≡◌, ℕ, zero, suc, ◌+◌, ◌-◌, ◌/◌, ◌^◌, ◌<◌, cond, Some, None, sym, ap, ◌∙◌, add_comm, add-one, arith}
use Rattle.std.proofs.lemmas.Bool.{eq-eqb, ne_eqb}
use Rattle.drawing.specs.Streams.{Sees}
use Rattle.drawing.specs.Grain.{given, grain, new_bit_of, nth, shift, shifted}
use Rattle.drawing.specs.Digits.{new_below}

pub shift_some : (s : ℕ) → 0 < s → 0 < shift s
shift_some zero h = absurd (omega arith)
shift_some (suc zero) h = omega arith
shift_some (suc (suc s)) h = let e : 0 < suc (suc s) / 2 = omega arith in omega arith

pub shift_below : (s : ℕ) → s < 2 ^ 80 → shift s < 2 ^ 80
shift_below s h = let b = new_below s in let e : s / 2 < 2 ^ 79 = omega arith in omega arith

pub shifted_more : (n s : ℕ) → shifted (n + 1) s ≡ shift (shifted n s)
unfolding shifted
shifted_more n s = rw add-one

-- ---- one pair of new bits

one_less : (i : ℕ) → i < 80 → 80 - i ≡ suc (80 - (i + 1))
one_less i h = omega arith

pub pair_given : (i s b n : ℕ) → i < 80 → new_bit_of s ≡ 1 → b ≡ new_bit_of (shift s) → n ≡ shift (shift s) → given (80 - i) s ≡ Some (record { bit = b; left = n })
unfolding given
pair_given i s b n h e eb en =
    ap (λ (d : ℕ). given d s) (one_less i h)
    ∙ ap (λ t. cond t (Some (record { bit = new_bit_of (shift s); left = shift (shift s) })) (given (80 - (i + 1)) (shift (shift s)))) (eq-eqb (new_bit_of s) 1 e)
    ∙ sym (ap (λ (x : ℕ). Some (record { bit = x; left = n })) eb ∙ ap (λ (x : ℕ). Some (record { bit = new_bit_of (shift s); left = x })) en)

pub pair_nothing : (i s n : ℕ) → i < 80 → (new_bit_of s ≡ 1 → ⊥) → n ≡ shift (shift s) → given (80 - (i + 1)) n ≡ given (80 - i) s
unfolding given
pair_nothing i s n h e en =
    ap (given (80 - (i + 1))) en
    ∙ sym (ap (λ (d : ℕ). given d s) (one_less i h)
    ∙ ap (λ t. cond t (Some (record { bit = new_bit_of (shift s); left = shift (shift s) })) (given (80 - (i + 1)) (shift (shift s)))) (ne_eqb (new_bit_of s) 1 e))

pub gave : (s b n : ℕ) → given 80 s ≡ Some (record { bit = b; left = n }) → (grain s 0 ≡ Some b) × Sees (grain s) (grain n) 1
gave s b n e = (ap (nth 0) e, λ i. sym (ap (grain s) (add_comm 1 i ∙ add-one i) ∙ ap (nth (suc i)) e))

pub gave_nothing : (i s t : ℕ) → 80 < i + 1 → given (80 - i) t ≡ given 80 s → grain s 0 ≡ None
unfolding given
gave_nothing i s t h e = let z : 80 - i ≡ 0 = omega arith in ap (nth 0) (sym e ∙ ap (λ (d : ℕ). given d t) z)
