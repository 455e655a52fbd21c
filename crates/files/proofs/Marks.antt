-- The mark that two letters are, against the mark that is due.
use Rattle.std.proofs.Common.{◌≡◌, ℕ, Bool, true, false, not, ◌&&◌, eqb, List, get_or, Some, None, Ok, Option, Result, sym, refl, ap, ◌∙◌, subst, ap₂}
use Rattle.std.specs.Option.{ok_or}
use Rattle.std.specs.Result.{result_eq}
use Rattle.std.proofs.lemmas.Bool.{and_parts, cond_both, eqb-true, not-false}
use Rattle.bits.specs.declared.refusal.Refusal.{Refusal}
use Rattle.bits.specs.declared.refusal.Refusal.TheVariants.{WrongMark}
use Rattle.files.specs.contracts.reader.MarkPartialEq.TheImpl.{eq-value}
use Rattle.files.specs.declared.reader.Mark.{Mark}
use Rattle.files.specs.declared.reader.Mark.TheVariants.{Header, Layer, Constant, Key, End}
use Rattle.files.specs.Format.{first, second}
use Rattle.files.specs.Steps.{mark_of, mark_or_wrong}

-- two letters are a mark exactly where they are its letters
letters_back : (k : Mark) → mark_of (first k) (second k) ≡ Some k
letters_back Header = refl
letters_back Layer = refl
letters_back Constant = refl
letters_back Key = refl
letters_back End = refl

abbrev Letters : ℕ → ℕ → Option Mark → Type 0
Letters a b None = Unit {0}
Letters a b (Some k) = (a ≡ first k) × (b ≡ second k)

letters_are : (a b : ℕ) → Letters a b (mark_of a b)
letters_are a b =
    cond_both (eqb a 80 && eqb b 82) _ _ (Letters a b) (by_test a 80 b 82) (λ _.
    cond_both (eqb a 76 && eqb b 77) _ _ (Letters a b) (by_test a 76 b 77) (λ _.
    cond_both (eqb a 82 && eqb b 67) _ _ (Letters a b) (by_test a 82 b 67) (λ _.
    cond_both (eqb a 75 && eqb b 77) _ _ (Letters a b) (by_test a 75 b 77) (λ _.
    cond_both (eqb a 69 && eqb b 78) _ _ (Letters a b) (by_test a 69 b 78) (λ _. tt)))))
  where
    by_test : (a x b y : ℕ) → eqb a x && eqb b y ≡ true → (a ≡ x) × (b ≡ y)
    by_test a x b y t =
        let p = and_parts (eqb a x) (eqb b y) t in
        (eqb-true a x p.0, eqb-true b y p.1)

-- ---- the program's test, by its equality of marks

same : (k : Mark) → (eq-value).it k k ≡ true
same Header = refl
same Layer = refl
same Constant = refl
same Key = refl
same End = refl

only : (j k : Mark) → (eq-value).it j k ≡ true → j ≡ k
only Header Header h = refl
only Layer Layer h = refl
only Constant Constant h = refl
only Key Key h = refl
only End End h = refl
only j k h = cc

module _ (F : Refusal → Refusal → Bool) (letters : List ℕ) (r : Result Mark Refusal) (k : Mark) (is : r ≡ mark_or_wrong letters) where
  abbrev Test : Bool → Type 0
  Test t = not (result_eq (eq-value).it F r (Ok k)) ≡ t

  pub is_mark : Test false → (get_or letters 0 0 ≡ first k) × (get_or letters 1 0 ≡ second k)
  is_mark h = go (mark_of (get_or letters 0 0) (get_or letters 1 0)) (letters_are (get_or letters 0 0) (get_or letters 1 0)) (subst (λ (x : Result Mark Refusal). not (result_eq (eq-value).it F x (Ok k)) ≡ false) is h)
    where
      go : (m : Option Mark) → Letters (get_or letters 0 0) (get_or letters 1 0) m → not (result_eq (eq-value).it F (ok_or m WrongMark) (Ok k)) ≡ false
          → (get_or letters 0 0 ≡ first k) × (get_or letters 1 0 ≡ second k)
      go None l e = cc
      go (Some j) l e =
          let same_mark : j ≡ k = only j k (not-false ((eq-value).it j k) e) in
          (l.0 ∙ ap first same_mark, l.1 ∙ ap second same_mark)

  pub no_mark : Test true → eqb (get_or letters 0 0) (first k) && eqb (get_or letters 1 0) (second k) ≡ false
  no_mark h = go (eqb (get_or letters 0 0) (first k) && eqb (get_or letters 1 0) (second k)) refl
    where
      go : (t : Bool) → eqb (get_or letters 0 0) (first k) && eqb (get_or letters 1 0) (second k) ≡ t → t ≡ false
      go false e = refl
      go true e =
          let p = and_parts (eqb (get_or letters 0 0) (first k)) (eqb (get_or letters 1 0) (second k)) e in
          let found : r ≡ Ok k =
          is ∙ ap₂ (λ (a b : ℕ). ok_or (mark_of a b) WrongMark) (eqb-true (get_or letters 0 0) (first k) p.0) (eqb-true (get_or letters 1 0) (second k) p.1)
          ∙ ap (λ (m : Option Mark). ok_or m WrongMark) (letters_back k) in
          let twice : not true ≡ true = ap not (sym (same k)) ∙ subst (λ (x : Result Mark Refusal). not (result_eq (eq-value).it F x (Ok k)) ≡ true) found h in
          cc
