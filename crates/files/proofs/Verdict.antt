-- The checks of reading in their order, and the law over whole files.
use Rattle.std.proofs.Common.{◌≡◌, ℕ, zero, suc, ◌+◌, ◌-◌, ◌<◌, ◌≤◌, Bool, true, false, cond, not, ◌&&◌, eqb, ltb, List, [], ◌∷◌, length, get_or, drop, Some, None, Ok, Err, Option, Result, sym, refl, ap, ◌∙◌, subst, inl, inr, arith, pow_pos}
use native.Mathlib.Nat.{sub-zero}
use Rattle.std.proofs.lemmas.Bool.{cond-false, le-ltb, ltb-false}
use Rattle.bits.specs.declared.refusal.Refusal.TheVariants.{ParameterOutOfRange, Truncated, WrongMark}
use Rattle.bits.specs.declared.refusal.Layer.TheVariants.{File, Set as SetLayer}
use Rattle.bits.specs.declared.refusal.Fault.{Fault}
use Rattle.bits.specs.Refusals.{fault_at, first_of, then}
use Rattle.bits.specs.Gf2.{Witness, inverse_of}
use Rattle.bits.proofs.Inverse.{not_both}
use Rattle.cipher.specs.declared.params.Params.{Params}
use Rattle.cipher.specs.Parameters.{Lawful, lawful, prepared_words_of}
use Rattle.cipher.specs.Sets.{Each, LawfulSet, Set}
use Rattle.files.specs.declared.reader.Mark.TheVariants.{Header, Layer}
use Rattle.files.specs.declared.reader.Record.{Record}
use Rattle.files.specs.Format.{byte_width_of, end_at, file_of, first, matrices_of, second, set_of}
use Rattle.files.specs.Faults.{judged, layers_due}
use Rattle.files.specs.Steps.{Answer, State, Stepped, after_header, at_start, params_at, past, record_at, step_of}
use Rattle.files.specs.Surveys.{Sound, judged_from}
use Rattle.files.specs.Preparing.{Found}
use Rattle.files.specs.Reading.{AsCollapsing, Clashing, Collapsed, Exact, Opens, Prepared, Read, ReadAfter, header, judged_all, passed, room}
use Rattle.cipher.specs.Laws.{Among, Clash, Invertible}
use Rattle.cipher.specs.Instances.{opening, set_in}
use Rattle.cipher.proofs.Collapse.{clash_at, clash_collapses, never_both}
use Rattle.cipher.proofs.Opens.{prepared_holds, prepared_opens}
use Rattle.files.proofs.Exact.{check_ok, file_is, file_passes, judged_is, then_ok}
use Rattle.files.proofs.Inverting.{each_at}
use Rattle.files.proofs.Pieces.{Bytes}
use Rattle.files.proofs.Slots.{size_of_all}

-- ---- the header

-- what the step over the header says of it
abbrev pub HeaderStep : Result Params Fault → Answer → Type 0
HeaderStep h (Err e) = h ≡ Err e
HeaderStep h (Ok None) = ⊥
HeaderStep h (Ok (Some (x, s'))) = (h ≡ Ok s'.params) × (s' ≡ after_header s'.params)

pub header_step : (file : List ℕ) → HeaderStep (header file) (step_of file at_start)
header_step file =
    subst (λ (t : Bool). HeaderStep (header file) (step t (marks 0 1) (lawful q))) (ap (λ (n : ℕ). ltb n 8) (sym (sub-zero (length file))))
    (both (ltb (length file) 8) (marks 0 1) (lawful q))
  where
    q : Params
    q = params_at file 2

    marks : ℕ → ℕ → Bool
    marks i j = eqb (get_or file i 0) (first Header) && eqb (get_or file j 0) (second Header)

    within : Bool → Result (Unit {0}) Fault
    within l = cond l (Ok tt) (Err (fault_at ParameterOutOfRange SetLayer 0))

    step : Bool → Bool → Bool → Answer
    step t m l =
        cond t (Err (fault_at Truncated File (length file)))
        (cond m (then (within l) (λ _. Ok (Some (record_at file at_start Header 0, past at_start Header (Some Layer) 1 q))))
        (Err (fault_at WrongMark File 0)))

    head : Bool → Bool → Bool → Result Params Fault
    head t m l =
        then (first_of ((t, fault_at Truncated File (length file)) ∷ (not m, fault_at WrongMark File 0) ∷ []))
        (λ _. then (within l) (λ _. Ok q))

    both : (t m l : Bool) → HeaderStep (head t m l) (step t m l)
    both true m l = refl
    both false false l = refl
    both false true false = refl
    both false true true = (refl, refl)

pub header_refused : (file : List ℕ) (e : Fault) → step_of file at_start ≡ Err e → header file ≡ Err e
header_refused file e h = subst (HeaderStep (header file)) h (header_step file)

pub header_read : (file : List ℕ) (s' : State) (r : Option Record) → Stepped file at_start s' (Ok r) → (header file ≡ Ok s'.params) × (s' ≡ after_header s'.params)
header_read file s' None h = absurd (subst (HeaderStep (header file)) h.0 (header_step file))
header_read file s' (Some x) h = subst (HeaderStep (header file)) h (header_step file)

-- ---- one check after another

pub passed_header : (file : List ℕ) (words wit : ℕ) (e : Fault) → header file ≡ Err e → passed file words wit ≡ Err e
passed_header file words wit e h = ap (λ (r : Result Params Fault). then r (λ p. then (room p words wit) (λ _. then (judged_all file p) (λ _. Ok p)))) h

module _ (file : List ℕ) (words wit : ℕ) (p : Params) (h : header file ≡ Ok p) where
  headed : passed file words wit ≡ then (room p words wit) (λ _. then (judged_all file p) (λ _. Ok p))
  headed = ap (λ (r : Result Params Fault). then r (λ p. then (room p words wit) (λ _. then (judged_all file p) (λ _. Ok p)))) h

  pub passed_room : (e : Fault) → room p words wit ≡ Err e → passed file words wit ≡ Err e
  passed_room e r = headed ∙ ap (λ (r : Result Unit Fault). then r (λ _. then (judged_all file p) (λ _. Ok p))) r

  pub passed_judged : room p words wit ≡ Ok tt → (r : Result Unit Fault) → judged_all file p ≡ r → passed file words wit ≡ then r (λ _. Ok p)
  passed_judged o r j =
      headed ∙ ap (λ (r : Result Unit Fault). then r (λ _. then (judged_all file p) (λ _. Ok p))) o ∙ ap (λ (r : Result Unit Fault). then r (λ _. Ok p)) j

-- there is room for what passes
pub room_is : (p : Params) (words wit : ℕ) → room p words wit ≡ Ok tt → (prepared_words_of p ≤ words) × (4 ≤ wit)
room_is p words wit h =
    let a = check_ok (ltb words (prepared_words_of p)) _ _ h in
    let b = check_ok (ltb wit 4) _ _ a.1 in
    (ltb-false words (prepared_words_of p) a.0, ltb-false wit 4 b.0)

is_room : (p : Params) (words wit : ℕ) → prepared_words_of p ≤ words → 4 ≤ wit → room p words wit ≡ Ok tt
is_room p words wit a b =
    cond-false (ltb words (prepared_words_of p)) _ _ (le-ltb words (prepared_words_of p) a) ∙ cond-false (ltb wit 4) _ _ (le-ltb wit 4 b)

-- a reader after the header is sound, and judges all that follows
pub sound_start : (file : List ℕ) (p : Params) → Lawful p → 8 ≤ length file → Sound file (after_header p)
sound_start file p limits inside = record { limits = limits; inside = inside; due = limits.r_least }

pub judged_start : (file : List ℕ) (p : Params) → judged_from file (after_header p) ≡ judged_all file p
judged_start file p =
    let e : p.r + 1 - 1 ≡ p.r = omega arith in
    ap (λ (j : ℕ). judged file 8 (layers_due p 1 j)) e

-- a file that passes has its end mark at its end
pub end_is : (file : List ℕ) (p : Params) → judged_all file p ≡ Ok tt → length file ≡ end_at p + 2
end_is file p h = (judged_is file 8 (layers_due p 1 p.r) h).1 ∙ size_of_all p

-- ---- what reading leaves, by the checks

module _ (file words wit words' wit' : List ℕ) where
  pub read_refused : (e : Fault) (answer : Result Params Fault) → passed file (length words) (length wit) ≡ Err e → answer ≡ Err e → words' ≡ words → wit' ≡ wit
      → Read file words wit words' wit' answer
  read_refused e answer h a b c = subst (λ (r : Result Params Fault). ReadAfter file words wit words' wit' r answer) (sym h) (a, (b, c))

  pub read_collapsed : (p : Params) (e : Fault) (answer : Result Params Fault) → passed file (length words) (length wit) ≡ Ok p → answer ≡ Err e
      → Collapsed (set_of p file) words wit words' wit' e → Read file words wit words' wit' answer
  read_collapsed p e answer h a c =
      subst (λ (r : Result Params Fault). ReadAfter file words wit words' wit' r answer) (sym h) (subst (ReadAfter file words wit words' wit' (Ok p)) (sym a) c)

  pub read_prepared : (p q : Params) (answer : Result Params Fault) → passed file (length words) (length wit) ≡ Ok p → answer ≡ Ok q → q ≡ p
      → Prepared (set_of p file) words wit words' wit' → Read file words wit words' wit' answer
  read_prepared p q answer h a e c =
      subst (λ (r : Result Params Fault). ReadAfter file words wit words' wit' r answer) (sym h) (subst (ReadAfter file words wit words' wit' (Ok p)) (sym a) (e, c))

  -- ---- so an accepted file is the file of a lawful set, and conversely

  parts : (p : Params) → passed file (length words) (length wit) ≡ Ok p → (header file ≡ Ok p) × (judged_all file p ≡ Ok tt)
  parts p h =
      let a = then_ok (header file) _ p h in
      let b = then_ok (room a.0 (length words) (length wit)) _ p a.2 in
      let d = then_ok (judged_all file a.0) _ p b.2 in
      let e : a.0 ≡ p = same a.0 p d.2 in
      (a.1 ∙ ap Ok e, subst (λ (q : Params). judged_all file q ≡ Ok tt) e (unit (judged_all file a.0) d.0 d.1))
    where
      same : (a b : Params) → ◌≡◌ {A = Result Params Fault} (Ok a) (Ok b) → a ≡ b
      same a b e = cc

      unit : (r : Result Unit Fault) (u : Unit {0}) → r ≡ Ok u → r ≡ Ok tt
      unit r u e = e

  pub exact_from : (answer : Result Params Fault) → Bytes file → Read file words wit words' wit' answer → Exact file words wit words' wit' answer
  exact_from answer bytes h = record { sound = sound; complete = complete }
    where
      sound_at : (r : Result Params Fault) → passed file (length words) (length wit) ≡ r → (p : Params) (a : Result Params Fault) → a ≡ Ok p
          → ReadAfter file words wit words' wit' r a → (s : Set) × LawfulSet s × (file_of s ≡ file) × (s.params ≡ p) × Prepared s words wit words' wit'
      sound_at (Err e) is p a e' h =
          let z : ◌≡◌ {A = ℕ} 0 1 = cc h.0 in
          absurd (omega arith)
      sound_at (Ok q) is p (Err e) e' h =
          let z : ◌≡◌ {A = ℕ} 0 1 = cc in
          absurd (omega arith)
      sound_at (Ok q) is p (Ok t) e' h =
          let ps = parts q is in
          let f = file_is q file bytes ps.0 ps.1 in
          let e : q ≡ p = cc h.0 in
          (set_of q file, f.0, f.1, e, h.1)

      sound : (p : Params) → answer ≡ Ok p → (s : Set) × LawfulSet s × (file_of s ≡ file) × (s.params ≡ p) × Prepared s words wit words' wit'
      sound p e = sound_at (passed file (length words) (length wit)) refl p answer e h

      complete_at : (s : Set) → set_of s.params file ≡ s → Each Invertible s.layers → length s.layers ≡ s.params.r → (a : Result Params Fault)
          → ReadAfter file words wit words' wit' (Ok s.params) a → (a ≡ Ok s.params) × Prepared s words wit words' wit'
      complete_at s is inv size (Ok q) h = (ap Ok h.0, subst (λ (t : Set). Prepared t words wit words' wit') is h.1)
      complete_at s is inv size (Err e) h =
          let c : Collapsed s words wit words' wit' e = subst (λ (t : Set). Collapsed t words wit words' wit' e) is h in
          let L : List ℕ = get_or s.layers (c.round - 1) [] in
          let j : c.round - 1 < length s.layers = omega (arith, c.least, c.most, size) in
          absurd (not_both L (inverse_of L) (each_at Invertible s.layers (c.round - 1) [] j inv) (c.vector, c.collapses))

      complete : (s : Set) → LawfulSet s → file_of s ≡ file → prepared_words_of s.params ≤ length words → 4 ≤ length wit → Each Invertible s.layers
          → (answer ≡ Ok s.params) × Prepared s words wit words' wit'
      complete s lawful is a b inv =
          let f = file_passes s lawful in
          let hd : header file ≡ Ok s.params = subst (λ (x : List ℕ). header x ≡ Ok s.params) is f.0 in
          let jd : judged_all file s.params ≡ Ok tt = subst (λ (x : List ℕ). judged_all x s.params ≡ Ok tt) is f.1 in
          let st : set_of s.params file ≡ s = subst (λ (x : List ℕ). set_of s.params x ≡ s) is f.2 in
          let ps : passed file (length words) (length wit) ≡ Ok s.params =
          passed_judged file (length words) (length wit) s.params hd (is_room s.params (length words) (length wit) a b) (Ok tt) jd in
          complete_at s st inv lawful.rounds answer (subst (λ (r : Result Params Fault). ReadAfter file words wit words' wit' r answer) ps h)

-- ---- from the check of the layers

pub collapsed_from : (p : Params) (file words wit wit' : List ℕ) (e : Fault)
    → Found (matrices_of (byte_width_of p.n) p.n p.r (drop 8 file)) p.r wit wit' e → Collapsed (set_of p file) words wit words wit' e
collapsed_from p file words wit wit' e f =
    let same : f.round ≡ f.round + 1 - 1 = omega arith in
    record {
      round = f.round + 1;
      vector = f.vector;
      least = omega arith;
      most = omega (arith, f.most);
      collapses = subst (λ (k : ℕ). Witness (get_or (set_of p file).layers k []) f.vector) same f.collapses;
      refused = f.refused;
      written = f.written;
      words_stay = refl;
    }

-- ---- refused as collapsing exactly where two blocks meet

among_at : (Ls : List (List ℕ)) (j : ℕ) → j < length Ls → Among (get_or Ls j []) Ls
among_at [] j h = absurd (omega arith)
among_at (L ∷ Ls) zero h = inl refl
among_at (L ∷ Ls) (suc j) h = inr (among_at Ls j (omega arith))

module _ (file words wit words' wit' : List ℕ) (bytes : Bytes file) where
  lawful_file : (p : Params) → passed file (length words) (length wit) ≡ Ok p → LawfulSet (set_of p file)
  lawful_file p h =
      let ps = parts file words wit words' wit' p h in
      (file_is p file bytes ps.0 ps.1).0

  only_at : (p : Params) → LawfulSet (set_of p file) → (a : Result Params Fault) → ReadAfter file words wit words' wit' (Ok p) a → AsCollapsing a → Clash (set_of p file)
  only_at p lawful (Ok q) h c = absurd c
  only_at p lawful (Err e) h c =
      let s : Set = set_of p file in
      let j : h.round - 1 < length s.layers = omega (arith, h.least, h.most, lawful.rounds) in
      clash_at s lawful (get_or s.layers (h.round - 1) [], among_at s.layers (h.round - 1) j, (h.vector, h.collapses)) 0 (pow_pos p.k)

  always_at : (p : Params) → LawfulSet (set_of p file) → (a : Result Params Fault) → ReadAfter file words wit words' wit' (Ok p) a → Clash (set_of p file) → AsCollapsing a
  always_at p lawful (Ok q) h c = absurd (never_both (set_of p file).layers h.1.inverses (clash_collapses (set_of p file) lawful c))
  always_at p lawful (Err e) h c = ap (λ (x : Fault). x.refusal) h.refused

  pub clashing_from : (answer : Result Params Fault) → Read file words wit words' wit' answer → Clashing file words wit answer
  clashing_from answer h = record {
    only = λ p is. only_at p (lawful_file p is) answer (subst (λ (r : Result Params Fault). ReadAfter file words wit words' wit' r answer) is h);
    always = λ p is. always_at p (lawful_file p is) answer (subst (λ (r : Result Params Fault). ReadAfter file words wit words' wit' r answer) is h);
  }

-- what was read opens
pub opens_from : (file words' words wit wit' : List ℕ) (answer : Result Params Fault) → Exact file words wit words' wit' answer → Opens file words' answer
opens_from file words' words wit wit' (Err e) x = tt
opens_from file words' words wit wit' (Ok p) x =
    let t = x.sound p refl in
    let s : Set = t.0 in
    let d = t.4 in
    let rest : List ℕ = drop (prepared_words_of s.params) words in (
      subst (λ (q : Params). opening q words' ≡ Ok tt) t.3 (ap (opening s.params) d.written ∙ prepared_opens s t.1 d.inverses rest),
      ap (λ (q : Params). file_of (set_in q words')) (sym t.3) ∙ ap (λ (l : List ℕ). file_of (set_in s.params l)) d.written ∙ ap file_of (prepared_holds s t.1 d.inverses rest) ∙ t.2,
    )
