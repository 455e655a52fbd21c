-- One record further: a look at the record due, and then a step, do what the rest of the file is judged by.
use Rattle.std.proofs.Common.{◌≡◌, ℕ, suc, ◌+◌, ◌-◌, ◌*◌, ◌<◌, ◌≤◌, true, false, cond, ◌&&◌, eqb, ltb, List, [], ◌∷◌, ◌++◌, length, get_or, drop, Some, None, Ok, Err, Option, Result, sym, refl, ap, ◌∙◌, subst, ap₂, add-zero, add-one, arith, length-drop}
use Rattle.std.proofs.lemmas.List.{append_assoc, drop-drop, get_or-drop}
use Rattle.std.proofs.lemmas.Bool.{cond_both, cond-false, cond-true, le-ltb, lt-ltb, ltb-false, ltb-true}
use Rattle.bits.specs.declared.refusal.Refusal.TheVariants.{Truncated, WrongMark, WrongNumber}
use Rattle.bits.specs.declared.refusal.Layer.TheVariants.{File}
use Rattle.bits.specs.declared.refusal.Fault.{Fault}
use Rattle.bits.specs.Refusals.{fault_at, first_of, then}
use Rattle.cipher.specs.Parameters.{Lawful}
use Rattle.files.specs.declared.reader.Mark.{Mark}
use Rattle.files.specs.declared.reader.Mark.TheVariants.{Header, Layer, Constant, Key, End}
use Rattle.files.specs.declared.reader.Record.{Record}
use Rattle.files.specs.Format.{byte_width_of, first, second, record_size}
use Rattle.files.specs.Faults.{Slot, body_slots, constants_due, end_slots, judged, keys_due, letters, number, record_slots, seen, series_slots, size_of}
use Rattle.files.specs.Steps.{Answer, State, Stepped, due_at, numbered, past, record_at, seen_of, series, step_from, step_of, whole_size}
use Rattle.files.specs.Surveys.{Advanced, Sound, SoundAt, due_after, judged_from, look_of, slots_at}
use Rattle.files.proofs.Meets.{test_ok}
use Rattle.files.proofs.Slots.{seen_append_err, seen_append_ok, seen_append_short, size_of_append, size_of_record}

-- ---- a mark in front

letters_short : (o : ℕ) (k : Mark) (ss : List Slot) (bs : List ℕ) → length bs < 2 → seen o (letters k ∷ ss) bs ≡ Ok tt
letters_short o k ss [] h = refl
letters_short o k ss (x ∷ []) h = refl
letters_short o k ss (x ∷ y ∷ bs) h = absurd (omega arith)

letters_on : (o : ℕ) (k : Mark) (ss : List Slot) (bs : List ℕ) → 2 ≤ length bs
    → seen o (letters k ∷ ss) bs ≡ cond (eqb (get_or bs 0 0) (first k) && eqb (get_or bs 1 0) (second k)) (seen (2 + o) ss (drop 2 bs)) (Err (fault_at WrongMark File o))
letters_on o k ss [] h = absurd (omega arith)
letters_on o k ss (x ∷ []) h = absurd (omega arith)
letters_on o k ss (x ∷ y ∷ bs) h = refl

number_on : (o i : ℕ) (ss : List Slot) (bs : List ℕ) → 1 ≤ length bs
    → seen o (number i ∷ ss) bs ≡ cond (eqb (get_or bs 0 0) i) (seen (1 + o) ss (drop 1 bs)) (Err (fault_at WrongNumber File o))
number_on o i ss [] h = absurd (omega arith)
number_on o i ss (x ∷ bs) h = refl

-- ---- the end of the judgement, where nothing is wrong in what is there

ends : List ℕ → ℕ → Result Unit Fault
ends file n = first_of ((ltb (length file) n, fault_at Truncated File (length file)) ∷ (ltb n (length file), fault_at WrongMark File n) ∷ [])

judged_ok : (file : List ℕ) (o : ℕ) (ss : List Slot) → seen o ss (drop o file) ≡ Ok tt → judged file o ss ≡ ends file (o + size_of ss)
unfolding ends
judged_ok file o ss h = ap (λ (r : Result Unit Fault). then r (λ _. ends file (o + size_of ss))) h

judged_err : (file : List ℕ) (o : ℕ) (ss : List Slot) (e : Fault) → seen o ss (drop o file) ≡ Err e → judged file o ss ≡ Err e
unfolding ends
judged_err file o ss e h = ap (λ (r : Result Unit Fault). then r (λ _. ends file (o + size_of ss))) h

short_end : (file : List ℕ) (n : ℕ) → length file < n → ends file n ≡ Err (fault_at Truncated File (length file))
unfolding ends
short_end file n h = cond-true (ltb (length file) n) (Err (fault_at Truncated File (length file))) (first_of ((ltb n (length file), fault_at WrongMark File n) ∷ [])) (lt-ltb (length file) n h)

long_end : (file : List ℕ) (n : ℕ) → n < length file → ends file n ≡ Err (fault_at WrongMark File n)
unfolding ends
long_end file n h =
    cond-false (ltb (length file) n) (Err (fault_at Truncated File (length file))) (first_of ((ltb n (length file), fault_at WrongMark File n) ∷ [])) (le-ltb (length file) n (omega arith))
    ∙ cond-true (ltb n (length file)) (Err (fault_at WrongMark File n)) (Ok tt) (lt-ltb n (length file) h)

whole_end : (file : List ℕ) (n : ℕ) → n ≡ length file → ends file n ≡ Ok tt
unfolding ends
whole_end file n h =
    cond-false (ltb (length file) n) (Err (fault_at Truncated File (length file))) (first_of ((ltb n (length file), fault_at WrongMark File n) ∷ [])) (le-ltb (length file) n (omega arith))
    ∙ cond-false (ltb n (length file)) (Err (fault_at WrongMark File n)) (Ok tt) (le-ltb n (length file) (omega arith))

-- ---- what a step gives, against what the rest is judged by

abbrev pub AdvancedTo : List ℕ → State → List Slot → Answer → Type 0
AdvancedTo file s ss (Err e) = judged file s.at ss ≡ Err e
AdvancedTo file s ss (Ok None) = judged file s.at ss ≡ Ok tt
AdvancedTo file s ss (Ok (Some (x, s'))) = (judged file s.at ss ≡ judged_from file s') × Sound file s' × (s.at < s'.at)

-- past the end mark
end_advances : (file : List ℕ) (s : State) → Lawful s.params → s.at ≤ length file → AdvancedTo file s end_slots (due_at file s End)
end_advances file s lawful inside =
    cond_both (ltb (length file - s.at) 2) _ _ (AdvancedTo file s end_slots) short (λ t.
    cond_both (eqb (get_or file s.at 0) (first End) && eqb (get_or file (s.at + 1) 0) (second End)) _ _ (AdvancedTo file s end_slots)
    (λ m. cond_both (ltb (s.at + 2) (length file)) _ _ (AdvancedTo file s end_slots) (more t m) (done t m)) (wrong t))
  where
    bs : List ℕ
    bs = drop s.at file

    long : length bs ≡ length file - s.at
    long = length-drop s.at file

    test : eqb (get_or bs 0 0) (first End) && eqb (get_or bs 1 0) (second End) ≡ eqb (get_or file s.at 0) (first End) && eqb (get_or file (s.at + 1) 0) (second End)
    test =
        let e : get_or bs 0 0 ≡ get_or file s.at 0 = get_or-drop s.at file 0 0 ∙ ap (λ (k : ℕ). get_or file k 0) (add-zero s.at) in
        ap₂ (λ (x y : ℕ). eqb x (first End) && eqb y (second End)) e (get_or-drop s.at file 1 0)

    short : ltb (length file - s.at) 2 ≡ true → AdvancedTo file s end_slots (Err (fault_at Truncated File (length file)))
    short t =
        let h : length file - s.at < 2 = ltb-true (length file - s.at) 2 t in
        judged_ok file s.at end_slots (letters_short s.at End [] bs (omega (arith, long))) ∙ short_end file (s.at + 2) (omega arith)

    right : ltb (length file - s.at) 2 ≡ false → eqb (get_or file s.at 0) (first End) && eqb (get_or file (s.at + 1) 0) (second End) ≡ true
        → judged file s.at end_slots ≡ ends file (s.at + 2)
    right t m =
        let h : 2 ≤ length file - s.at = ltb-false (length file - s.at) 2 t in
        judged_ok file s.at end_slots (letters_on s.at End [] bs (omega (arith, long))
        ∙ cond-true (eqb (get_or bs 0 0) (first End) && eqb (get_or bs 1 0) (second End)) (Ok tt) (Err (fault_at WrongMark File s.at)) (test ∙ m))

    more : ltb (length file - s.at) 2 ≡ false → eqb (get_or file s.at 0) (first End) && eqb (get_or file (s.at + 1) 0) (second End) ≡ true
        → ltb (s.at + 2) (length file) ≡ true → AdvancedTo file s end_slots (Err (fault_at WrongMark File (s.at + 2)))
    more t m l = right t m ∙ long_end file (s.at + 2) (ltb-true (s.at + 2) (length file) l)

    done : ltb (length file - s.at) 2 ≡ false → eqb (get_or file s.at 0) (first End) && eqb (get_or file (s.at + 1) 0) (second End) ≡ true
        → ltb (s.at + 2) (length file) ≡ false → AdvancedTo file s end_slots (Ok (Some (record_at file s End 0, past s End None 0 s.params)))
    done t m l =
        let h : 2 ≤ length file - s.at = ltb-false (length file - s.at) 2 t in
        let g : length file ≤ s.at + 2 = ltb-false (s.at + 2) (length file) l in
        let e : s.at + 2 ≡ length file = omega arith in
        let z : s.at + 2 + 0 ≡ length file = omega arith in (
          right t m ∙ whole_end file (s.at + 2) e ∙ sym (judged_ok file (s.at + 2) [] refl ∙ whole_end file (s.at + 2 + 0) z),
          record { limits = lawful; inside = omega arith; due = e },
          omega arith,
        )

    wrong : ltb (length file - s.at) 2 ≡ false → eqb (get_or file s.at 0) (first End) && eqb (get_or file (s.at + 1) 0) (second End) ≡ false
        → AdvancedTo file s end_slots (Err (fault_at WrongMark File s.at))
    wrong t m =
        let h : 2 ≤ length file - s.at = ltb-false (length file - s.at) 2 t in
        judged_err file s.at end_slots (fault_at WrongMark File s.at) (letters_on s.at End [] bs (omega (arith, long))
        ∙ cond-false (eqb (get_or bs 0 0) (first End) && eqb (get_or bs 1 0) (second End)) (Ok tt) (Err (fault_at WrongMark File s.at)) (test ∙ m))

-- ---- past a record of a series; k is its mark, and `rest` is what is due after it
module _ (file : List ℕ) (s : State) (k : Mark) (bits count : ℕ) (rest : List Slot) (s' : State)
    (size : whole_size s.params k ≡ record_size (byte_width_of bits) count)
    (fine : seen s.at (record_slots k bits count s.round) (drop s.at file) ≡ Ok tt) where
  record_size_is : size_of (record_slots k bits count s.round) ≡ whole_size s.params k
  record_size_is = size_of_record k bits count s.round ∙ sym size

  -- the mark and the number are right where the record is whole
  tests : whole_size s.params k ≤ length file - s.at
      → (eqb (get_or file s.at 0) (first k) && eqb (get_or file (s.at + 1) 0) (second k) ≡ true) × (eqb (get_or file (s.at + 2) 0) s.round ≡ true)
  tests h =
      let bs : List ℕ = drop s.at file in
      let long : length bs ≡ length file - s.at = length-drop s.at file in
      let a : 3 ≤ length bs = omega (arith, size) in
      let m = test_ok (eqb (get_or bs 0 0) (first k) && eqb (get_or bs 1 0) (second k)) _ _ (sym (letters_on s.at k (number s.round ∷ body_slots (byte_width_of bits) bits count) bs (omega arith)) ∙ fine) in
      let ds : List ℕ = drop 2 bs in
      let two : length ds ≡ length bs - 2 = length-drop 2 bs in
      let n = test_ok (eqb (get_or ds 0 0) s.round) _ _ (sym (number_on (2 + s.at) s.round (body_slots (byte_width_of bits) bits count) ds (omega arith)) ∙ m.1) in
      let zero-at : get_or bs 0 0 ≡ get_or file s.at 0 = get_or-drop s.at file 0 0 ∙ ap (λ (j : ℕ). get_or file j 0) (add-zero s.at) in
      let two_at : get_or ds 0 0 ≡ get_or file (s.at + 2) 0 = get_or-drop 2 bs 0 0 ∙ get_or-drop s.at file 2 0 in (
        ap₂ (λ (x y : ℕ). eqb x (first k) && eqb y (second k)) (sym zero-at) (sym (get_or-drop s.at file 1 0)) ∙ m.0,
        ap (λ (x : ℕ). eqb x s.round) (sym two_at) ∙ n.0,
      )

  cut : ltb (length file - s.at) (whole_size s.params k) ≡ true
      → judged file s.at (record_slots k bits count s.round ++ rest) ≡ Err (fault_at Truncated File (length file))
  cut t =
      let h : length file - s.at < whole_size s.params k = ltb-true (length file - s.at) (whole_size s.params k) t in
      let long : length (drop s.at file) ≡ length file - s.at = length-drop s.at file in
      let sum : size_of (record_slots k bits count s.round ++ rest) ≡ size_of (record_slots k bits count s.round) + size_of rest = size_of_append (record_slots k bits count s.round) rest in
      judged_ok file s.at (record_slots k bits count s.round ++ rest)
      (seen_append_short s.at (record_slots k bits count s.round) rest (drop s.at file) (omega (arith, record_size_is)) ∙ fine)
      ∙ short_end file (s.at + size_of (record_slots k bits count s.round ++ rest)) (omega (arith, record_size_is))

  -- the rest is judged alike
  on : judged file s.at (record_slots k bits count s.round ++ rest) ≡ judged file (s.at + whole_size s.params k) rest
  on =
      let n : ℕ = whole_size s.params k in
      let sum : size_of (record_slots k bits count s.round ++ rest) ≡ n + size_of rest =
      size_of_append (record_slots k bits count s.round) rest ∙ ap (λ (j : ℕ). j + size_of rest) record_size_is in
      let total : s.at + size_of (record_slots k bits count s.round ++ rest) ≡ s.at + n + size_of rest = omega arith in
      let see : seen s.at (record_slots k bits count s.round ++ rest) (drop s.at file) ≡ seen (s.at + n) rest (drop (s.at + n) file) =
      seen_append_ok s.at (record_slots k bits count s.round) rest (drop s.at file) fine
      ∙ ap (λ (j : ℕ). seen (s.at + j) rest (drop j (drop s.at file))) record_size_is
      ∙ ap (seen (s.at + n) rest) (drop-drop n s.at file) in
      judge see total
    where
      judge : seen s.at (record_slots k bits count s.round ++ rest) (drop s.at file) ≡ seen (s.at + whole_size s.params k) rest (drop (s.at + whole_size s.params k) file)
          → s.at + size_of (record_slots k bits count s.round ++ rest) ≡ s.at + whole_size s.params k + size_of rest
          → judged file s.at (record_slots k bits count s.round ++ rest) ≡ judged file (s.at + whole_size s.params k) rest
      judge see total = ap₂ (λ (r : Result Unit Fault) (n : ℕ). then r (λ _. first_of ((ltb (length file) n, fault_at Truncated File (length file)) ∷ (ltb n (length file), fault_at WrongMark File n) ∷ []))) see total

  pub series_advances : s.at ≤ length file
      → (s.at + whole_size s.params k ≤ length file → (judged file (s.at + whole_size s.params k) rest ≡ judged_from file s') × Sound file s')
      → s'.at ≡ s.at + whole_size s.params k
      → AdvancedTo file s (record_slots k bits count s.round ++ rest)
      (cond (ltb (length file - s.at) (whole_size s.params k)) (Err (fault_at Truncated File (length file)))
      (cond (eqb (get_or file s.at 0) (first k) && eqb (get_or file (s.at + 1) 0) (second k)) (numbered file s k s') (Err (fault_at WrongMark File s.at))))
  series_advances inside next at =
      cond_both (ltb (length file - s.at) (whole_size s.params k)) _ _ To cut (λ t.
      let h : whole_size s.params k ≤ length file - s.at = ltb-false (length file - s.at) (whole_size s.params k) t in
      let ts = tests h in
      subst To (sym (cond-true (eqb (get_or file s.at 0) (first k) && eqb (get_or file (s.at + 1) 0) (second k)) (numbered file s k s') (Err (fault_at WrongMark File s.at)) ts.0
      ∙ cond-true (eqb (get_or file (s.at + 2) 0) s.round) (Ok (Some (record_at file s k s.round, s'))) (Err (fault_at WrongNumber File (s.at + 2))) ts.1))
      (let n = next (omega arith) in (on ∙ n.0, n.1, omega (arith, size))))
    where
      To : Answer → Type 0
      To = AdvancedTo file s (record_slots k bits count s.round ++ rest)

-- what is due in a series from round i up to r: the record of round i, and the rest
series_open : (k : Mark) (bits count i r : ℕ) (tail : List Slot) → i ≤ r
    → series_slots k bits count i (r + 1 - i) ++ tail ≡ record_slots k bits count i ++ (series_slots k bits count (i + 1) (r - i) ++ tail)
series_open k bits count i r tail h =
    let e : r + 1 - i ≡ suc (r - i) = omega arith in
    ap (λ (j : ℕ). series_slots k bits count i j ++ tail) e
    ∙ append_assoc (record_slots k bits count i) (series_slots k bits count (suc i) (r - i)) tail
    ∙ ap (λ (j : ℕ). record_slots k bits count i ++ (series_slots k bits count j (r - i) ++ tail)) (sym (add-one i))

-- where a series goes on: to its next round, or after the last to the next series
module _ (file : List ℕ) (s : State) (k k' : Mark) (i bits count : ℕ) (tail : List Slot) (limits : Lawful s.params) (in-turn : s.round ≤ s.params.r)
    (inside : s.at + whole_size s.params k ≤ length file) where
  abbrev Next : State → Type 0
  Next s' = (judged file (s.at + whole_size s.params k) (series_slots k bits count (s.round + 1) (s.params.r - s.round) ++ tail) ≡ judged_from file s') × Sound file s'

  next_series : due_after (past s k (Some k) (s.round + 1) s.params) (Some k) ≡ series_slots k bits count (s.round + 1) (s.params.r + 1 - (s.round + 1)) ++ tail
      → due_after (past s k (Some k') i s.params) (Some k') ≡ tail
      → (s.round + 1 ≤ s.params.r → SoundAt file (past s k (Some k) (s.round + 1) s.params) (Some k)) → SoundAt file (past s k (Some k') i s.params) (Some k')
      → Next (series s k k' i)
  next_series same other sound-same sound-other =
      cond_both (ltb s.round s.params.r) _ _ Next
      (λ t.
      let h : s.round < s.params.r = ltb-true s.round s.params.r t in
      let e : s.params.r - s.round ≡ s.params.r + 1 - (s.round + 1) = omega arith in (
        ap (λ (j : ℕ). judged file (s.at + whole_size s.params k) (series_slots k bits count (s.round + 1) j ++ tail)) e
            ∙ ap (judged file (s.at + whole_size s.params k)) (sym same),
        record { limits = limits; inside = inside; due = sound-same (omega arith) },
      ))
      (λ t.
      let h : s.params.r ≤ s.round = ltb-false s.round s.params.r t in
      let e : s.params.r - s.round ≡ 0 = omega arith in (
        ap (λ (j : ℕ). judged file (s.at + whole_size s.params k) (series_slots k bits count (s.round + 1) j ++ tail)) e
            ∙ ap (judged file (s.at + whole_size s.params k)) (sym other),
        record { limits = limits; inside = inside; due = sound-other },
      ))

-- the place after a series' record is the same both ways
series_at : (s : State) (k k' : Mark) (i : ℕ) → (series s k k' i).at ≡ s.at + whole_size s.params k
series_at s k k' i = cond_both (ltb s.round s.params.r) _ _ (λ (t : State). t.at ≡ s.at + whole_size s.params k) (λ t. refl) (λ t. refl)

-- ---- each record that can be due

pub advances : (file : List ℕ) (s : State) (d : Option Mark) → Lawful s.params → s.at ≤ length file → SoundAt file s d
    → seen s.at (slots_at s d) (drop s.at file) ≡ Ok tt → AdvancedTo file s (due_after s d) (step_from file s d)
advances file s None limits inside due fine =
    let z : s.at + 0 ≡ length file = omega arith in
    judged_ok file s.at [] refl ∙ whole_end file (s.at + 0) z
advances file s (Some Header) limits inside due fine = absurd due
advances file s (Some Layer) limits inside due fine =
    let p = s.params in
    let tail = constants_due p 1 p.r in
    let one : p.r + 1 - 1 ≡ p.r = omega arith in
    subst (λ (ss : List Slot). AdvancedTo file s ss (due_at file s Layer)) (sym (series_open Layer p.n p.n s.round p.r tail due))
    (series_advances file s Layer p.n p.n (series_slots Layer p.n p.n (s.round + 1) (p.r - s.round) ++ tail) (series s Layer Constant 1) refl fine inside
    (λ room. next_series file s Layer Constant 1 p.n p.n tail limits due room refl (ap (constants_due p 1) one) (λ h. h) limits.r_least)
    (series_at s Layer Constant 1))
advances file s (Some Constant) limits inside due fine =
    let p = s.params in
    let tail = keys_due p 0 (p.r + 1) in
    let one : p.r + 1 - 0 ≡ p.r + 1 = omega arith in
    let size : 3 + byte_width_of p.n ≡ 3 + 1 * byte_width_of p.n = omega arith in
    subst (λ (ss : List Slot). AdvancedTo file s ss (due_at file s Constant)) (sym (series_open Constant p.n 1 s.round p.r tail due))
    (series_advances file s Constant p.n 1 (series_slots Constant p.n 1 (s.round + 1) (p.r - s.round) ++ tail) (series s Constant Key 0) size fine inside
    (λ room. next_series file s Constant Key 0 p.n 1 tail limits due room refl (ap (keys_due p 0) one) (λ h. h) (omega arith))
    (series_at s Constant Key 0))
advances file s (Some Key) limits inside due fine =
    let p = s.params in
    subst (λ (ss : List Slot). AdvancedTo file s ss (due_at file s Key)) (sym (series_open Key p.k p.n s.round p.r end_slots due))
    (series_advances file s Key p.k p.n (series_slots Key p.k p.n (s.round + 1) (p.r - s.round) ++ end_slots) (series s Key End 0) refl fine inside
    (λ room. next_series file s Key End 0 p.k p.n end_slots limits due room refl refl (λ h. h) tt)
    (series_at s Key End 0))
advances file s (Some End) limits inside due fine = end_advances file s limits inside

series_refuses : (file : List ℕ) (s : State) (k : Mark) (bits count : ℕ) (tail : List Slot) (e : Fault) → s.round ≤ s.params.r
    → seen s.at (record_slots k bits count s.round) (drop s.at file) ≡ Err e
    → judged file s.at (series_slots k bits count s.round (s.params.r + 1 - s.round) ++ tail) ≡ Err e
series_refuses file s k bits count tail e due h =
    ap (judged file s.at) (series_open k bits count s.round s.params.r tail due)
    ∙ judged_err file s.at (record_slots k bits count s.round ++ (series_slots k bits count (s.round + 1) (s.params.r - s.round) ++ tail)) e
    (seen_append_err s.at (record_slots k bits count s.round) (series_slots k bits count (s.round + 1) (s.params.r - s.round) ++ tail) (drop s.at file) e h)

-- a look that refuses
pub look_refuses : (file : List ℕ) (s : State) (d : Option Mark) (e : Fault) → SoundAt file s d
    → seen s.at (slots_at s d) (drop s.at file) ≡ Err e → judged file s.at (due_after s d) ≡ Err e
look_refuses file s None e due h =
    let z : ◌≡◌ {A = ℕ} 0 1 = cc in
    absurd (omega arith)
look_refuses file s (Some Header) e due h = absurd due
look_refuses file s (Some Layer) e due h =
    let p = s.params in
    series_refuses file s Layer p.n p.n (constants_due p 1 p.r) e due h
look_refuses file s (Some Constant) e due h =
    let p = s.params in
    series_refuses file s Constant p.n 1 (keys_due p 0 (p.r + 1)) e due h
look_refuses file s (Some Key) e due h =
    let p = s.params in
    series_refuses file s Key p.k p.n end_slots e due h
look_refuses file s (Some End) e due h =
    let z : ◌≡◌ {A = ℕ} 0 1 = cc in
    absurd (omega arith)

-- ---- the same, by what the look and the step answered

module _ (file : List ℕ) (s : State) (sound : Sound file s) where
  pub refused_by_look : (e : Fault) → look_of file s ≡ Err e → judged_from file s ≡ Err e
  refused_by_look e h = look_refuses file s s.due e sound.due h

  module _ (fine : look_of file s ≡ Ok tt) where
    stepped : (a : Answer) → step_of file s ≡ a → AdvancedTo file s (due_after s s.due) a
    stepped a h = subst (AdvancedTo file s (due_after s s.due)) h (advances file s s.due sound.limits sound.inside sound.due fine)

    -- and where the step went
    pub advanced : (s' : State) (r : Result (Option Record) Fault) → Stepped file s s' r → Advanced file s s' r
    advanced s' (Err e) h = stepped (Err e) h.0
    advanced s' (Ok None) h = stepped (Ok None) h.0
    advanced s' (Ok (Some x)) h = stepped (Ok (Some (seen_of x, s'))) h
