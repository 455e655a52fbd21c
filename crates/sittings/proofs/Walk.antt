-- A list that is walked and written in place.
use Rattle.std.proofs.Common.{◌≡◌, ℕ, suc, ◌+◌, ◌<◌, List, [], ◌∷◌, ◌++◌, length, get_or, take, drop, set, sym, refl, ap, ◌∙◌, subst, add-one, arith, drop-cons, drop-set-lt}
use Rattle.std.proofs.Math.Path.{subst₂}
use Rattle.std.proofs.lemmas.List.{take_more, take_more_set}
use Rattle.engines.specs.declared.engine.Account.{Account}
use Rattle.sittings.specs.declared.entry.Entry.{Entry}
use Rattle.sittings.specs.Runs.{Answered, Run}

module _ {X : Type 0} where
  walk_item : (xs ys : List X) (i : ℕ) (x : X) → i < length xs → i < length ys → drop i ys ≡ drop i xs → get_or ys i x ≡ get_or xs i x
  walk_item xs ys i x h k e = let p = drop-cons xs i x h in let q = drop-cons ys i x k in cc

  pub walk_rest : (xs ys : List X) (i : ℕ) (x y : X) → i < length xs → i < length ys → drop i ys ≡ drop i xs → drop (i + 1) (set ys i y) ≡ drop (i + 1) xs
  walk_rest xs ys i x y h k e =
      let p = drop-cons xs i x h in
      let q = drop-cons ys i x k in
      let r : drop (suc i) ys ≡ drop (suc i) xs = cc in
      drop-set-lt (i + 1) ys i y (omega arith) ∙ rw add-one r

module _ {W : Type 0} (means : W → ℕ) (lanes : ℕ) where
  -- one more entry at the end
  run_push : (a b c : Account) (xs ys : List (Entry W)) (x y : Entry W)
      → Run means lanes a xs ys b → Answered means lanes b x y c → Run means lanes a (xs ++ (x ∷ [])) (ys ++ (y ∷ [])) c
  run_push a b c [] [] x y r s = (c, subst (λ (z : Account). Answered means lanes z x y c) (sym r) s, refl)
  run_push a b c [] (v ∷ ys) x y r s = absurd r
  run_push a b c (u ∷ xs) [] x y r s = absurd r
  run_push a b c (u ∷ xs) (v ∷ ys) x y r s = (r.0, r.1, run_push r.0 b c xs ys x y r.2 s)

  pub run_more : (a b c : Account) (xs ys : List (Entry W)) (i : ℕ) (x y : Entry W)
      → i < length xs → i < length ys → drop i ys ≡ drop i xs
      → Run means lanes a (take i xs) (take i ys) b → Answered means lanes b (get_or ys i x) y c
      → Run means lanes a (take (i + 1) xs) (take (i + 1) (set ys i y)) c
  run_more a b c xs ys i x y h k e r s =
      let p : take (i + 1) xs ≡ take i xs ++ (get_or ys i x ∷ []) = take_more xs i x h ∙ ap (λ (z : Entry W). take i xs ++ (z ∷ [])) (sym (walk_item xs ys i x h k e)) in
      subst₂ (λ (u v : List (Entry W)). Run means lanes a u v c) (sym p) (sym (take_more_set ys i y k)) (run_push a b c (take i xs) (take i ys) (get_or ys i x) y r s)
