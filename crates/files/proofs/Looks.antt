-- Rows of bytes against what is due: only a row's last byte can have a stray bit.
use Rattle.std.proofs.Common.{◌≡◌, ℕ, zero, suc, ◌+◌, ◌-◌, ◌*◌, ◌^◌, ◌<◌, ◌≤◌, false, min, cond, ◌&&◌, eqb, ltb, List, [], ◌∷◌, ◌++◌, length, get_or, take, drop, Ok, Err, Result, sym, refl, ap, ◌∙◌, subst, arith}
use Rattle.std.proofs.lemmas.Bool.{and_from, cond-false, cond-true, eq-eqb, le-ltb, lt-ltb}
use Rattle.bits.specs.declared.refusal.Refusal.TheVariants.{StrayBit, WrongMark, WrongNumber}
use Rattle.bits.specs.declared.refusal.Layer.TheVariants.{File}
use Rattle.bits.specs.declared.refusal.Fault.{Fault}
use Rattle.bits.specs.Refusals.{fault_at}
use Rattle.files.specs.declared.reader.Mark.{Mark}
use Rattle.files.specs.Format.{byte_width_of, first, second}
use Rattle.files.specs.Faults.{body_slots, number, record_slots, row_slots, seen, size_of}
use Rattle.files.proofs.Pieces.{Bytes}
use Rattle.files.proofs.Slots.{seen_append_err, seen_append_ok, seen_append_short, size_of_row}

-- a byte before a row's last one may be any
full : (bits x : ℕ) (a b : Result Unit Fault) → 8 ≤ bits → x < 256 → cond (ltb x (2 ^ min 8 bits)) a b ≡ a
full bits x a b h l =
    let e : min 8 bits ≡ 8 = omega arith in
    let p : 2 ^ min 8 bits ≡ 256 = ap (λ (k : ℕ). 2 ^ k) e in
    cond-true (ltb x (2 ^ min 8 bits)) a b (lt-ltb x (2 ^ min 8 bits) (omega arith))

-- so of a row of d bytes and one more only byte d counts
row_short : (d bits o : ℕ) (bs : List ℕ) → Bytes bs → 8 * d < bits → length bs ≤ d → seen o (row_slots (suc d) bits) bs ≡ Ok tt
row_short d bits o [] f h l = refl
row_short zero bits o (x ∷ bs) f h l = absurd (omega arith)
row_short (suc d) bits o (x ∷ bs) f h l =
    full bits x (seen (1 + o) (row_slots (suc d) (bits - 8)) bs) (Err (fault_at StrayBit File o)) (omega arith) (f 0)
    ∙ row_short d (bits - 8) (1 + o) bs (λ i. f (suc i)) (omega arith) (omega arith)

-- byte d has the bits that are left
left_of : (d bits : ℕ) → 2 ^ (bits - 8 - 8 * d) ≡ 2 ^ (bits - 8 * suc d)
left_of d bits =
    let e : bits - 8 - 8 * d ≡ bits - 8 * suc d = omega arith in
    ap (λ (k : ℕ). 2 ^ k) e

all_left : (bits : ℕ) → bits ≤ 8 → 2 ^ min 8 bits ≡ 2 ^ (bits - 8 * 0)
all_left bits h =
    let e : min 8 bits ≡ bits - 8 * 0 = omega arith in
    ap (λ (k : ℕ). 2 ^ k) e

row_fine : (d bits o : ℕ) (bs : List ℕ) → Bytes bs → 8 * d < bits → bits ≤ 8 * d + 8 → d < length bs → get_or bs d 0 < 2 ^ (bits - 8 * d) → seen o (row_slots (suc d) bits) bs ≡ Ok tt
row_fine d bits o [] f h g l q = absurd (omega arith)
row_fine zero bits o (x ∷ bs) f h g l q =
    cond-true (ltb x (2 ^ min 8 bits)) (Ok tt) (Err (fault_at StrayBit File o)) (lt-ltb x (2 ^ min 8 bits) (omega (arith, all_left bits (omega arith))))
row_fine (suc d) bits o (x ∷ bs) f h g l q =
    full bits x (seen (1 + o) (row_slots (suc d) (bits - 8)) bs) (Err (fault_at StrayBit File o)) (omega arith) (f 0)
    ∙ row_fine d (bits - 8) (1 + o) bs (λ i. f (suc i)) (omega arith) (omega arith) (omega arith) (omega (arith, left_of d bits))

row_stray : (d bits o : ℕ) (bs : List ℕ) → Bytes bs → 8 * d < bits → bits ≤ 8 * d + 8 → d < length bs → 2 ^ (bits - 8 * d) ≤ get_or bs d 0
    → seen o (row_slots (suc d) bits) bs ≡ Err (fault_at StrayBit File (o + d))
row_stray d bits o [] f h g l q = absurd (omega arith)
row_stray zero bits o (x ∷ bs) f h g l q =
    let e : o ≡ o + 0 = omega arith in
    cond-false (ltb x (2 ^ min 8 bits)) (Ok tt) (Err (fault_at StrayBit File o)) (le-ltb x (2 ^ min 8 bits) (omega (arith, all_left bits (omega arith))))
    ∙ ap (λ (k : ℕ). Err (fault_at StrayBit File k)) e
row_stray (suc d) bits o (x ∷ bs) f h g l q =
    let e : 1 + o + d ≡ o + suc d = omega arith in
    full bits x (seen (1 + o) (row_slots (suc d) (bits - 8)) bs) (Err (fault_at StrayBit File o)) (omega arith) (f 0)
    ∙ row_stray d (bits - 8) (1 + o) bs (λ i. f (suc i)) (omega arith) (omega arith) (omega arith) (omega (arith, left_of d bits))
    ∙ ap (λ (k : ℕ). Err (fault_at StrayBit File k)) e

-- ---- the rows of a body, of which i are looked at; c is the bytes of a row
module _ (c d bits : ℕ) (size : c ≡ suc d) (above : 8 * d < bits) (within : bits ≤ 8 * d + 8) where
  -- row i and the rest
  open_rows : (o i count : ℕ) (bs : List ℕ) → i < count
      → seen o (body_slots c bits (count - i)) bs ≡ seen o (row_slots c bits ++ body_slots c bits (count - (i + 1))) bs
  open_rows o i count bs h =
      let e : count - i ≡ suc (count - (i + 1)) = omega arith in
      ap (λ (k : ℕ). seen o (body_slots c bits k) bs) e

  row : (o : ℕ) (bs : List ℕ) → seen o (row_slots c bits) bs ≡ seen o (row_slots (suc d) bits) bs
  row o bs = ap (λ (k : ℕ). seen o (row_slots k bits) bs) size

  pub rows_short : (o i count : ℕ) (bs : List ℕ) (t : Result Unit Fault) → Bytes bs → i < count → length bs ≤ d
      → seen o (body_slots c bits (count - i)) bs ≡ t → Ok tt ≡ t
  rows_short o i count bs t f h l inv =
      let e : length bs ≤ size_of (row_slots c bits) = omega (arith, size_of_row c bits) in
      sym (open_rows o i count bs h ∙ seen_append_short o (row_slots c bits) (body_slots c bits (count - (i + 1))) bs e ∙ row o bs ∙ row_short d bits o bs f above l) ∙ inv

  pub rows_stray : (o i count : ℕ) (bs : List ℕ) (t : Result Unit Fault) → Bytes bs → i < count → d < length bs → 2 ^ (bits - 8 * d) ≤ get_or bs d 0
      → seen o (body_slots c bits (count - i)) bs ≡ t → Err (fault_at StrayBit File (o + d)) ≡ t
  rows_stray o i count bs t f h l q inv =
      sym (open_rows o i count bs h
      ∙ seen_append_err o (row_slots c bits) (body_slots c bits (count - (i + 1))) bs (fault_at StrayBit File (o + d)) (row o bs ∙ row_stray d bits o bs f above within l q)) ∙ inv

  pub rows_more : (o i count : ℕ) (bs : List ℕ) (t : Result Unit Fault) → Bytes bs → i < count → d < length bs → get_or bs d 0 < 2 ^ (bits - 8 * d)
      → seen o (body_slots c bits (count - i)) bs ≡ t → seen (o + c) (body_slots c bits (count - (i + 1))) (drop c bs) ≡ t
  rows_more o i count bs t f h l q inv =
      ap (λ (k : ℕ). seen (o + k) (body_slots c bits (count - (i + 1))) (drop k bs)) (sym (size_of_row c bits))
      ∙ sym (open_rows o i count bs h ∙ seen_append_ok o (row_slots c bits) (body_slots c bits (count - (i + 1))) bs (row o bs ∙ row_fine d bits o bs f above within l q)) ∙ inv

-- ---- a record by its first two bytes
module _ (o bits count i : ℕ) (k : Mark) where
  -- another mark
  pub record_other : (bs letters : List ℕ) → letters ≡ take 2 bs → 2 ≤ length bs → eqb (get_or letters 0 0) (first k) && eqb (get_or letters 1 0) (second k) ≡ false
      → seen o (record_slots k bits count i) bs ≡ Err (fault_at WrongMark File o)
  record_other [] letters e h t = absurd (omega arith)
  record_other (x ∷ []) letters e h t = absurd (omega arith)
  record_other (x ∷ y ∷ bs) letters e h t =
      cond-false (eqb x (first k) && eqb y (second k)) (seen (2 + o) (number i ∷ body_slots (byte_width_of bits) bits count) bs) (Err (fault_at WrongMark File o))
      (subst (λ (l : List ℕ). eqb (get_or l 0 0) (first k) && eqb (get_or l 1 0) (second k) ≡ false) e t)

  -- the right mark, and then a number
  record_named : (x y z : ℕ) (bs : List ℕ) → x ≡ first k → y ≡ second k
      → seen o (record_slots k bits count i) (x ∷ y ∷ z ∷ bs) ≡ cond (eqb z i) (seen (1 + (2 + o)) (body_slots (byte_width_of bits) bits count) bs) (Err (fault_at WrongNumber File (2 + o)))
  record_named x y z bs a b =
      cond-true (eqb x (first k) && eqb y (second k)) (seen (2 + o) (number i ∷ body_slots (byte_width_of bits) bits count) (z ∷ bs)) (Err (fault_at WrongMark File o))
      (and_from (eqb x (first k)) (eqb y (second k)) (eq-eqb x (first k) a) (eq-eqb y (second k) b))

  -- and the right number: on to its rows
  pub record_on : (bs letters rest body : List ℕ) (z : ℕ) → letters ≡ take 2 bs → rest ≡ drop 2 bs → 2 ≤ length bs → get_or letters 0 0 ≡ first k → get_or letters 1 0 ≡ second k
      → rest ≡ z ∷ body → z ≡ i → seen o (record_slots k bits count i) bs ≡ seen (o + 3) (body_slots (byte_width_of bits) bits count) body
  record_on [] letters rest body z e g h a b r c = absurd (omega arith)
  record_on (x ∷ []) letters rest body z e g h a b r c = absurd (omega arith)
  record_on (x ∷ y ∷ bs) letters rest body z e g h a b r c =
      let n : 1 + (2 + o) ≡ o + 3 = omega arith in
      let is : bs ≡ z ∷ body = sym g ∙ r in
      ap (λ (l : List ℕ). seen o (record_slots k bits count i) (x ∷ y ∷ l)) is
      ∙ record_named x y z body (ap (λ (l : List ℕ). get_or l 0 0) (sym e) ∙ a) (ap (λ (l : List ℕ). get_or l 1 0) (sym e) ∙ b)
      ∙ cond-true (eqb z i) (seen (1 + (2 + o)) (body_slots (byte_width_of bits) bits count) body) (Err (fault_at WrongNumber File (2 + o))) (eq-eqb z i c)
      ∙ ap (λ (p : ℕ). seen p (body_slots (byte_width_of bits) bits count) body) n
