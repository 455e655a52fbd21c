-- The two tests say what they should: a bounded search finds what there is.
use Rattle.std.proofs.Common.{◌≡◌, ℕ, zero, suc, ◌*◌, ◌^◌, ◌<◌, Bool, true, false, ◌&&◌, eqb, ltb, List, ◌++◌, length, take, is_ok, Ok, Err, Result, sym, refl, ap, ◌∙◌, subst, ap₂, inl, inr, arith}
use Rattle.std.proofs.lemmas.List.{take_at}
use native.Mathlib.Decide.{ℕ_discrete}
use Rattle.std.proofs.lemmas.Bool.{and_from, and_parts, both_ways, cases_Bool, eq-eqb, eqb-true, lt-ltb, ltb-true, cond-true, cond-false}
use Rattle.bits.specs.Gf2.{Collapses, Independent, Inverse, Witness, comb, flat, inverse_of, mul, rows, value, width_of}
use Rattle.bits.specs.Gauss.{Outcome}
use Rattle.bits.specs.declared.elimination.Singular.{Singular}
use Rattle.bits.proofs.Inverse.{not_both}
use Rattle.bits.proofs.Vectors.{length_flat, length_rows}
use Rattle.cipher.specs.Laws.{Invertible}
use Rattle.drawing.specs.Drawing.{Keeping, keeps_key, keeps_layer, none}

none_hit : (test : ℕ → Bool) (d x : ℕ) → x < d → test x ≡ true → none test d ≡ false
unfolding none
none_hit test zero x h t = absurd (omega arith)
none_hit test (suc d) x h t = elim (cases_Bool (test d)) [
  | inl e ↦ cond-true (test d) false (none test d) e
  | inr e ↦ cond-false (test d) false (none test d) e ∙ elim (ℕ_discrete x d) [
    | yes q ↦ absurd (both_ways (test d) e (subst (λ (y : ℕ). test y ≡ true) q t))
    | no q ↦ none_hit test d x (omega arith) t
  ]
]

none_all : (test : ℕ → Bool) (d : ℕ) → ((x : ℕ) → x < d → test x ≡ true → ⊥) → none test d ≡ true
unfolding none
none_all test zero h = refl
none_all test (suc d) h = elim (cases_Bool (test d)) [
  | inl e ↦ absurd (h d (omega arith) e)
  | inr e ↦ cond-false (test d) false (none test d) e ∙ none_all test d (λ x l. h x (omega arith))
]

-- ---- a number other than zero, below a bound, that a function sends to zero

module _ (g : ℕ → ℕ) where
  sent : ℕ → Bool
  sent x = ltb 0 x && eqb (g x) 0

  sent_from : (x : ℕ) → 0 < x → g x ≡ 0 → sent x ≡ true
  unfolding sent
  sent_from x a b = and_from (ltb 0 x) (eqb (g x) 0) (lt-ltb 0 x a) (eq-eqb (g x) 0 b)

  sent_to : (x : ℕ) → sent x ≡ true → (0 < x) × (g x ≡ 0)
  unfolding sent
  sent_to x t = let p = and_parts (ltb 0 x) (eqb (g x) 0) t in (ltb-true 0 x p.0, eqb-true (g x) 0 p.1)

pub layer_dropped : (L : List ℕ) (x : ℕ) → Witness L x → keeps_layer L ≡ false
unfolding keeps_layer sent
layer_dropped L x w = none_hit (sent (mul L)) (2 ^ length L) x w.small (sent_from (mul L) x w.some w.sent)

layer_from : (L : List ℕ) → (Collapses L → ⊥) → keeps_layer L ≡ true
unfolding keeps_layer sent
layer_from L h = none_all (sent (mul L)) (2 ^ length L) (λ x l t. let p = sent_to (mul L) x t in h (x, record { some = p.0; small = l; sent = p.1 }))

pub layer_kept : (L N : List ℕ) → Inverse L N → keeps_layer L ≡ true
layer_kept L N v = layer_from L (not_both L N v)

pub key_kept : (K : List ℕ) → Independent K → keeps_key K ≡ true
unfolding keeps_key sent
key_kept K i = none_all (sent (comb K)) (2 ^ length K) (λ y l t. let p = sent_to (comb K) y t in let z = i y l p.1 in omega (arith, z, p.0))

key_to : (K : List ℕ) → keeps_key K ≡ true → Independent K
unfolding keeps_key sent
key_to K t y l e = elim (ℕ_discrete y 0) [
  | yes q ↦ q
  | no q ↦ absurd (both_ways (keeps_key K) (none_hit (sent (comb K)) (2 ^ length K) y l (sent_from (comb K) y (omega arith) e)) t)
]

pub key_dropped : (K : List ℕ) → (Independent K → ⊥) → keeps_key K ≡ false
key_dropped K h = elim (cases_Bool (keeps_key K)) [ inl t ↦ absurd (h (key_to K t)) | inr t ↦ t ]

pub keeping : Keeping
keeping = record {
  layer_to = λ L t c. both_ways (keeps_layer L) (layer_dropped L c.0 c.1) t;
  layer_from = layer_from;
  key_to = key_to;
  key_from = key_kept;
}

-- ---- what the tests tell

-- a layer that was inverted is kept, and its inverse stands in front of what else there is
pub layer_judged : (w n : ℕ) (ws out out' rest wit wit' : List ℕ) (r : Result Unit Singular) → w ≡ width_of n → Outcome w n ws out out' wit wit' r
    → (is_ok r ≡ keeps_layer (rows w n ws))
    × (is_ok r ≡ true
    → Invertible (rows w n ws)
    × (take (length (rows w n ws) * width_of (length (rows w n ws))) (out' ++ rest) ≡ flat (width_of (length (rows w n ws))) (inverse_of (rows w n ws))))
layer_judged w n ws out out' rest wit wit' (Ok u) e i =
    let M : List ℕ = rows w n ws in
    let k : Invertible M = subst (Inverse M) i.is i.inverse in
    let m : length M ≡ n = length_rows w n ws in
    let l : length out' ≡ n * width_of n = ap length i.written ∙ length_flat w (inverse_of M) ∙ ap₂ ◌*◌ (k.size ∙ m) e in (
      sym (layer_kept M (inverse_of M) k),
      λ t. (
        k,
        subst (λ (j : ℕ). take (j * width_of j) (out' ++ rest) ≡ flat (width_of j) (inverse_of M)) (sym m)
            (take_at out' rest (n * width_of n) l ∙ i.written ∙ ap (λ (j : ℕ). flat j (inverse_of M)) e),
      ),
    )
layer_judged w n ws out out' rest wit wit' (Err s) e i = (sym (layer_dropped (rows w n ws) (value wit') i.witness), λ t. absurd (both_ways false refl t))

pub key_judged : (K : List ℕ) (b : Bool) → (b ≡ true → Independent K) → (Independent K → b ≡ true) → b ≡ keeps_key K
key_judged K true s c = sym (key_kept K (s refl))
key_judged K false s c = sym (key_dropped K (λ i. both_ways false refl (c i)))
