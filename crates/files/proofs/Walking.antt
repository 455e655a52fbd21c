-- The records of a file that is stepped through are the file.
use Rattle.std.proofs.Common.{◌≡◌, ℕ, ◌+◌, ◌-◌, ◌≤◌, Bool, true, false, cond, ◌&&◌, eqb, ltb, List, [], ◌∷◌, ◌++◌, length, get_or, take, drop, Some, None, Ok, Err, Option, Result, sym, refl, ap, ◌∙◌, subst, ap₂, arith, take-append-drop}
use Rattle.std.proofs.lemmas.List.{drop_all, drop-drop, drop_more}
use Rattle.std.proofs.lemmas.Bool.{eqb-true, ltb-false}
use Rattle.bits.specs.declared.refusal.Fault.{Fault}
use Rattle.bits.specs.Refusals.{then}
use Rattle.cipher.specs.Parameters.{limits}
use Rattle.files.specs.declared.reader.Mark.{Mark}
use Rattle.files.specs.declared.reader.Mark.TheVariants.{Header, Layer, Constant, Key, End}
use Rattle.files.specs.Format.{first, second}
use Rattle.files.specs.Steps.{Answer, Seen, State, at_start, body_size_of, head_size_of, marked, numbered, params_at, past, record_at, series, step_from, whole_size}
use Rattle.files.specs.Walks.{Hands, WholeFile, all_written, written}

-- ---- the bytes at a place

two : (file : List ℕ) (at : ℕ) → at + 2 ≤ length file → drop at file ≡ get_or file at 0 ∷ get_or file (at + 1) 0 ∷ drop (at + 2) file
two file at h =
    let e : at + 1 + 1 ≡ at + 2 = omega arith in
    drop_more file at 0 (omega arith)
    ∙ ap (λ (l : List ℕ). get_or file at 0 ∷ l) (drop_more file (at + 1) 0 (omega arith) ∙ ap (λ (i : ℕ). get_or file (at + 1) 0 ∷ drop i file) e)

-- a body and what stands after it
body : (file : List ℕ) (o b : ℕ) → take b (drop o file) ++ drop (o + b) file ≡ drop o file
body file o b = ap (λ (l : List ℕ). take b (drop o file) ++ l) (sym (drop-drop b o file)) ∙ take-append-drop b (drop o file)

-- ---- one step

by_test : (P : Answer → Type 0) (t : Bool) (a b : Answer) → (t ≡ true → P a) → (t ≡ false → P b) → P (cond t a b)
by_test P true a b f g = f refl
by_test P false a b f g = g refl

by_result : (P : Answer → Type 0) (r : Result Unit Fault) (a : Answer) → ((e : Fault) → P (Err e)) → P a → P (then r (λ _. a))
by_result P (Ok u) a f g = g
by_result P (Err e) a f g = f e

both : (a b : Bool) → a && b ≡ true → (a ≡ true) × (b ≡ true)
both true true e = (refl, refl)
both true false e = absurd (let z : ◌≡◌ {A = ℕ} 0 1 = cc in omega arith)
both false b e = absurd (let z : ◌≡◌ {A = ℕ} 0 1 = cc in omega arith)

-- nothing is left in a file where nothing is due
abbrev AtEnd : List ℕ → State → Option Mark → Type 0
AtEnd file s None = length file ≤ s.at
AtEnd file s (Some k) = Unit {0}

-- what a step hands out stands between its two places
abbrev Between : List ℕ → State → Answer → Type 0
Between file s (Ok (Some (x, s'))) = (written x ++ drop s'.at file ≡ drop s.at file) × AtEnd file s' s'.due
Between file s (Ok None) = Unit {0}
Between file s (Err e) = Unit {0}

module _ (file : List ℕ) (s : State) where
  record Marked (k : Mark) : Type 0 where
    pub room : s.at + whole_size s.params k ≤ length file
    pub one : get_or file s.at 0 ≡ first k
    pub two : get_or file (s.at + 1) 0 ≡ second k

  -- records with a number
  numbered_between : (k : Mark) (s' : State) → Marked k → head_size_of k ≡ 3 → s'.at ≡ s.at + whole_size s.params k → AtEnd file s' s'.due
      → ((i : ℕ) (bs : List ℕ) → written (record { mark = k; number = i; offset = s.at + head_size_of k; body = bs }) ≡ first k ∷ second k ∷ i ∷ bs)
      → Between file s (numbered file s k s')
  numbered_between k s' m three at' end is =
      by_test (Between file s) (eqb (get_or file (s.at + 2) 0) s.round) _ _ (λ t.
      let at : ℕ = s.at in
      let b : ℕ = body_size_of s.params k in
      let o : at + head_size_of k ≡ at + 2 + 1 = omega (arith, three) in
      let e : s'.at ≡ at + head_size_of k + b = omega (arith, at') in
      let r = m.room in
      let n : get_or file (at + 2) 0 ≡ s.round = eqb-true (get_or file (at + 2) 0) s.round t in (
        ap (λ (l : List ℕ). l ++ drop s'.at file) (is s.round (take b (drop (at + head_size_of k) file)))
            ∙ ap (λ (i : ℕ). first k ∷ second k ∷ s.round ∷ (take b (drop (at + head_size_of k) file) ++ drop i file)) e
            ∙ ap (λ (l : List ℕ). first k ∷ second k ∷ s.round ∷ l) (body file (at + head_size_of k) b)
            ∙ ap (λ (i : ℕ). first k ∷ second k ∷ s.round ∷ drop i file) o
            ∙ sym (two file at (omega (arith, r, three))
            ∙ ap (λ (l : List ℕ). get_or file at 0 ∷ get_or file (at + 1) 0 ∷ l) (drop_more file (at + 2) 0 (omega (arith, r, three)))
            ∙ ap₂ (λ (p q : ℕ). p ∷ q ∷ get_or file (at + 2) 0 ∷ drop (at + 2 + 1) file) m.one m.two
            ∙ ap (λ (i : ℕ). first k ∷ second k ∷ i ∷ drop (at + 2 + 1) file) n),
        end,
      )) (λ _. tt)

  -- records without one
  plain_between : (k : Mark) (s' : State) → Marked k → head_size_of k ≡ 2 → s'.at ≡ s.at + whole_size s.params k → AtEnd file s' s'.due
      → ((bs : List ℕ) → written (record { mark = k; number = 0; offset = s.at + head_size_of k; body = bs }) ≡ first k ∷ second k ∷ bs)
      → Between file s (Ok (Some (record_at file s k 0, s')))
  plain_between k s' m head at' end is =
      let at : ℕ = s.at in
      let b : ℕ = body_size_of s.params k in
      let o : at + head_size_of k ≡ at + 2 = omega (arith, head) in
      let e : s'.at ≡ at + head_size_of k + b = omega (arith, at') in
      let r = m.room in (
        ap (λ (l : List ℕ). l ++ drop s'.at file) (is (take b (drop (at + head_size_of k) file)))
            ∙ ap (λ (i : ℕ). first k ∷ second k ∷ (take b (drop (at + head_size_of k) file) ++ drop i file)) e
            ∙ ap (λ (l : List ℕ). first k ∷ second k ∷ l) (body file (at + head_size_of k) b)
            ∙ ap (λ (i : ℕ). first k ∷ second k ∷ drop i file) o
            ∙ sym (two file at (omega (arith, r, head)) ∙ ap₂ (λ (p q : ℕ). p ∷ q ∷ drop (at + 2) file) m.one m.two),
        end,
      )

  series_at : (k k' : Mark) (i : ℕ) → ((series s k k' i).at ≡ s.at + whole_size s.params k) × AtEnd file (series s k k' i) (series s k k' i).due
  series_at k k' i = go (ltb s.round s.params.r)
    where
      go : (t : Bool) → let u = cond t (past s k (Some k) (s.round + 1) s.params) (past s k (Some k') i s.params) in
          (u.at ≡ s.at + whole_size s.params k) × AtEnd file u u.due
      go true = (refl, tt)
      go false = (refl, tt)

  marked_between : (k : Mark) → Marked k → Between file s (marked file s k)
  marked_between Header m =
      by_result (Between file s) (limits (params_at file (s.at + 2))) _ (λ e. tt)
      (plain_between Header (past s Header (Some Layer) 1 (params_at file (s.at + 2))) m refl refl tt (λ bs. refl))
  marked_between Layer m = numbered_between Layer (series s Layer Constant 1) m refl (series_at Layer Constant 1).0 (series_at Layer Constant 1).1 (λ i bs. refl)
  marked_between Constant m = numbered_between Constant (series s Constant Key 0) m refl (series_at Constant Key 0).0 (series_at Constant Key 0).1 (λ i bs. refl)
  marked_between Key m = numbered_between Key (series s Key End 0) m refl (series_at Key End 0).0 (series_at Key End 0).1 (λ i bs. refl)
  marked_between End m =
      by_test (Between file s) (ltb (s.at + 2) (length file)) _ _ (λ _. tt)
      (λ t. plain_between End (past s End None 0 s.params) m refl refl (omega (arith, ltb-false (s.at + 2) (length file) t)) (λ bs. refl))

  head_some : (k : Mark) → 2 ≤ whole_size s.params k
  head_some Header = omega arith
  head_some Layer = omega arith
  head_some Constant = omega arith
  head_some Key = omega arith
  head_some End = omega arith

  step_between : (d : Option Mark) → Between file s (step_from file s d)
  step_between None = tt
  step_between (Some k) =
      by_test (Between file s) (ltb (length file - s.at) (whole_size s.params k)) _ _ (λ _. tt)
      (λ room. by_test (Between file s) (eqb (get_or file s.at 0) (first k) && eqb (get_or file (s.at + 1) 0) (second k)) _ _
      (λ t.
      let l = both (eqb (get_or file s.at 0) (first k)) (eqb (get_or file (s.at + 1) 0) (second k)) t in
      marked_between k (record {
        room = omega (arith, ltb-false (length file - s.at) (whole_size s.params k) room, head_some k);
        one = eqb-true (get_or file s.at 0) (first k) l.0;
        two = eqb-true (get_or file (s.at + 1) 0) (second k) l.1;
      }))
      (λ _. tt))

-- ---- all steps

-- a step that hands nothing out comes where nothing is due
abbrev Nothing : Option Mark → Answer → Type 0
Nothing d (Ok None) = d ≡ None
Nothing d (Ok (Some x)) = Unit {0}
Nothing d (Err e) = Unit {0}

none_due : (file : List ℕ) (s : State) (d : Option Mark) → Nothing d (step_from file s d)
none_due file s None = refl
none_due file s (Some k) =
    by_test (Nothing (Some k)) (ltb (length file - s.at) (whole_size s.params k)) _ _ (λ _. tt)
    (λ _. by_test (Nothing (Some k)) (eqb (get_or file s.at 0) (first k) && eqb (get_or file (s.at + 1) 0) (second k)) _ _ (λ _. at_mark k) (λ _. tt))
  where
    at_mark : (k : Mark) → Nothing (Some k) (marked file s k)
    at_mark Header = by_result (Nothing (Some Header)) (limits (params_at file (s.at + 2))) _ (λ e. tt) tt
    at_mark Layer = by_test (Nothing (Some Layer)) (eqb (get_or file (s.at + 2) 0) s.round) _ _ (λ _. tt) (λ _. tt)
    at_mark Constant = by_test (Nothing (Some Constant)) (eqb (get_or file (s.at + 2) 0) s.round) _ _ (λ _. tt) (λ _. tt)
    at_mark Key = by_test (Nothing (Some Key)) (eqb (get_or file (s.at + 2) 0) s.round) _ _ (λ _. tt) (λ _. tt)
    at_mark End = by_test (Nothing (Some End)) (ltb (s.at + 2) (length file)) _ _ (λ _. tt) (λ _. tt)

from_here : (file : List ℕ) (s : State) (xs : List Seen) → AtEnd file s s.due → Hands file s xs → all_written xs ≡ drop s.at file
from_here file s [] end h =
    let d : s.due ≡ None = subst (Nothing s.due) h (none_due file s s.due) in
    sym (drop_all s.at file (subst (AtEnd file s) d end))
from_here file s (x ∷ xs) end h =
    let t = subst (Between file s) h.1 (step_between file s s.due) in
    ap (λ (l : List ℕ). written x ++ l) (from_here file h.0 xs t.1 h.2) ∙ t.0

pub whole_file : WholeFile
whole_file file xs h = from_here file at_start xs tt h
