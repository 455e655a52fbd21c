-- Either each layer has an inverse or some layer collapses, and then two blocks have one ciphertext.
use Rattle.std.proofs.Common.{◌≡◌, ℕ, ◌*◌, ◌^◌, ◌<◌, ◌≤◌, ◌≢◌, ◌⊎◌, List, [], ◌∷◌, sym, refl, ap, ◌∙◌, subst, inl, inr, arith, pow_pos}
use lib.Bits.{bit_xor}
use Rattle.bits.specs.Gf2.{Collapses, mul}
use Rattle.bits.proofs.Products.{mul_zero}
use Rattle.bits.proofs.Inverse.{collapses_or_inverse, not_both}
use Rattle.cipher.specs.Sets.{Each, LawfulSet, Set}
use Rattle.cipher.specs.LowMC.{encrypt, round, rounds, substitution, unround, unsubstitution}
use Rattle.cipher.specs.Laws.{Clash, Collapse, Invertible, SomeCollapses}
use Rattle.cipher.proofs.Substitution.{substitution_unsubstitution, unsubstitution_below}
use Rattle.cipher.proofs.Rounds.{AllFit, Fits, Opened, encrypt_injective, encrypt_is, opened, round_unround, there, unround_below, whitened, whitening, xor_off}

-- ---- the layers

pub invertible_or_collapses : (Ls : List (List ℕ)) → Each Invertible Ls ⊎ SomeCollapses Ls
invertible_or_collapses [] = inl tt
invertible_or_collapses (L ∷ Ls) = go (collapses_or_inverse L) (invertible_or_collapses Ls)
  where
    go : Collapses L ⊎ Invertible L → Each Invertible Ls ⊎ SomeCollapses Ls → Each Invertible (L ∷ Ls) ⊎ SomeCollapses (L ∷ Ls)
    go (inl c) d = inr (L, inl refl, c)
    go (inr i) (inl is) = inl (i, is)
    go (inr i) (inr (M, a, c)) = inr (M, inr a, c)

-- where the first layer has an inverse, a later one collapses
later_collapses : (L : List ℕ) (Ls : List (List ℕ)) → Invertible L → SomeCollapses (L ∷ Ls) → SomeCollapses Ls
later_collapses L Ls i (M, inl e, c) = absurd (not_both L _ i (subst Collapses e c))
later_collapses L Ls i (M, inr a, c) = (M, a, c)

pub never_both : (Ls : List (List ℕ)) → Each Invertible Ls → SomeCollapses Ls → ⊥
never_both [] i (M, a, c) = a
never_both (L ∷ Ls) i c = never_both Ls i.1 (later_collapses L Ls i.0 c)

-- ---- the rounds

module _ (n m key : ℕ) (triples : 3 * m ≤ n) where
  -- two different states that the rounds take to one
  pub record Meet (Ls : List (List ℕ)) (Cs : List ℕ) (Ks : List (List ℕ)) : Type 0 where
    pub one : ℕ
    pub other : ℕ
    pub one_within : one < 2 ^ n
    pub other_within : other < 2 ^ n
    pub different : one ≢ other
    pub same : rounds m key Ls Cs Ks one ≡ rounds m key Ls Cs Ks other

  -- the layer takes its witness and zero to zero, so that the states which the substitution takes to these two meet
  meet_now : (L : List ℕ) (C : ℕ) (K : List ℕ) (Ls : List (List ℕ)) (Cs : List ℕ) (Ks : List (List ℕ)) → Fits n L C K → Collapses L
      → Meet (L ∷ Ls) (C ∷ Cs) (K ∷ Ks)
  meet_now L C K Ls Cs Ks f (v, w) = record {
    one = unsubstitution m v;
    other = unsubstitution m 0;
    one_within = unsubstitution_below m n v triples (subst (λ (k : ℕ). v < 2 ^ k) f.square w.small);
    other_within = unsubstitution_below m n 0 triples (pow_pos n);
    different = λ q.
        let z : v ≡ 0 = sym (substitution_unsubstitution m v) ∙ ap (substitution m) q ∙ substitution_unsubstitution m 0 in
        omega (arith, w.some);
    same = ap (λ (t : ℕ). rounds m key Ls Cs Ks (bit_xor (bit_xor t C) (mul K key)))
        (ap (mul L) (substitution_unsubstitution m v) ∙ w.sent ∙ sym (ap (mul L) (substitution_unsubstitution m 0) ∙ mul_zero L));
  }

  -- states that meet later, pulled back by a round that has an inverse
  meet_later : (L : List ℕ) (C : ℕ) (K : List ℕ) (Ls : List (List ℕ)) (Cs : List ℕ) (Ks : List (List ℕ)) → Fits n L C K → Invertible L
      → Meet Ls Cs Ks → Meet (L ∷ Ls) (C ∷ Cs) (K ∷ Ks)
  meet_later L C K Ls Cs Ks f i d = record {
    one = unround m key L C K d.one;
    other = unround m key L C K d.other;
    one_within = unround_below n m key triples L C K f d.one;
    other_within = unround_below n m key triples L C K f d.other;
    different = λ q. d.different (sym on ∙ ap (round m key L C K) q ∙ on_other);
    same = ap (rounds m key Ls Cs Ks) on ∙ d.same ∙ sym (ap (rounds m key Ls Cs Ks) on_other);
  }
    where
      on : round m key L C K (unround m key L C K d.one) ≡ d.one
      on = round_unround n m key triples L C K f i d.one d.one_within

      on_other : round m key L C K (unround m key L C K d.other) ≡ d.other
      on_other = round_unround n m key triples L C K f i d.other d.other_within

  pub meets : (Ls : List (List ℕ)) (Cs : List ℕ) (Ks : List (List ℕ)) → AllFit n Ls Cs Ks → SomeCollapses Ls → Meet Ls Cs Ks
  meets [] Cs Ks f (M, a, c) = absurd a
  meets (L ∷ Ls) [] Ks f c = absurd f
  meets (L ∷ Ls) (C ∷ Cs) [] f c = absurd f
  meets (L ∷ Ls) (C ∷ Cs) (K ∷ Ks) f c = elim (collapses_or_inverse L) [
    | inl v ↦ meet_now L C K Ls Cs Ks f.0 v
    | inr i ↦ meet_later L C K Ls Cs Ks f.0 i (meets Ls Cs Ks f.1 (later_collapses L Ls i c))
  ]

-- ---- the cipher

-- each key has two such blocks
pub clash_at : (s : Set) → LawfulSet s → SomeCollapses s.layers → (key : ℕ) → key < 2 ^ s.params.k → Clash s
clash_at s g c key small = record {
  key = key;
  one = bit_xor d.one w;
  other = bit_xor d.other w;
  key_within = small;
  one_within = whitened s o key d.one d.one_within;
  other_within = whitened s o key d.other d.other_within;
  different = λ q. d.different (sym (xor_off d.one w) ∙ ap (λ (t : ℕ). bit_xor t w) q ∙ xor_off d.other w);
  same = leads d.one ∙ d.same ∙ sym (leads d.other);
}
  where
    o : Opened s
    o = opened s g

    w : ℕ
    w = whitening s o key

    d : Meet s.params.n s.params.m key g.limits.m_most s.layers s.constants o.later
    d = meets s.params.n s.params.m key g.limits.m_most s.layers s.constants o.later o.fit c

    leads : (x : ℕ) → encrypt s key (bit_xor x w) ≡ there s o key x
    leads x = encrypt_is s o key (bit_xor x w) ∙ ap (there s o key) (xor_off x w)

pub clash_collapses : (s : Set) → LawfulSet s → Clash s → SomeCollapses s.layers
clash_collapses s g d = elim (invertible_or_collapses s.layers) [
  | inl i ↦ absurd (d.different (encrypt_injective s g i d.key d.one d.other d.one_within d.other_within d.same))
  | inr c ↦ c
]

-- zero is a key
pub collapse : Collapse
collapse s g = record { to = λ c. clash_at s g c 0 (pow_pos s.params.k); from = clash_collapses s g }
