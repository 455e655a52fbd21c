-- What is due at each place: the check of slots one after another, and how many bytes they take.
use Rattle.std.proofs.Common.{◌≡◌, ℕ, zero, suc, ◌+◌, ◌-◌, ◌*◌, ◌≤◌, Bool, true, false, cond, ◌&&◌, eqb, ltb, List, [], ◌∷◌, ◌++◌, length, drop, Ok, Err, Result, sym, refl, ap, ◌∙◌, ap₂, add-zero, suc-mul, zero-mul, arith}
use Rattle.std.proofs.lemmas.List.{drop_all}
use Rattle.bits.specs.declared.refusal.Refusal.TheVariants.{WrongMark, WrongNumber, StrayBit}
use Rattle.bits.specs.declared.refusal.Layer.TheVariants.{File}
use Rattle.bits.specs.declared.refusal.Fault.{Fault}
use Rattle.bits.specs.Refusals.{fault_at, then}
use Rattle.cipher.specs.declared.params.Params.{Params}
use Rattle.files.specs.declared.reader.Mark.{Mark}
use Rattle.files.specs.declared.reader.Mark.TheVariants.{Layer, Constant, Key}
use Rattle.files.specs.Format.{byte_width_of, first, second, record_size, end_at}
use Rattle.files.specs.Faults.{Slot, letters, number, below, row_slots, body_slots, record_slots, series_slots, end_slots, keys_due, constants_due, layers_due, size_of, seen}

-- ---- one list of slots after another

pub seen_none : (o : ℕ) (ss : List Slot) → seen o ss [] ≡ Ok tt
seen_none o [] = refl
seen_none o (letters k ∷ ss) = refl
seen_none o (number i ∷ ss) = refl
seen_none o (below l ∷ ss) = refl

-- past the end nothing is wrong
past_end : (o n : ℕ) (ss : List Slot) (bs : List ℕ) → length bs ≤ n → Ok tt ≡ seen o ss (drop n bs)
past_end o n ss bs h = sym (ap (seen o ss) (drop_all n bs h) ∙ seen_none o ss)

two_on : (n x y : ℕ) (bs : List ℕ) → drop (2 + n) (x ∷ y ∷ bs) ≡ drop n bs
two_on n x y bs =
    let e : 2 + n ≡ suc (suc n) = omega arith in
    ap (λ (m : ℕ). drop m (x ∷ y ∷ bs)) e

one_on : (n x : ℕ) (bs : List ℕ) → drop (1 + n) (x ∷ bs) ≡ drop n bs
one_on n x bs =
    let e : 1 + n ≡ suc n = omega arith in
    ap (λ (m : ℕ). drop m (x ∷ bs)) e

-- a test in front
tested : (t : Bool) (a b c : Result Unit Fault) (d : Result Unit Fault) (e : Fault) → a ≡ then b (λ _. c) → c ≡ d → cond t a (Err e) ≡ then (cond t b (Err e)) (λ _. d)
tested true a b c d e h g = h ∙ ap (λ (x : Result Unit Fault). then b (λ _. x)) g
tested false a b c d e h g = refl

-- slots after slots: the first that are wrong decide, and where nothing is wrong the rest does. Past the end nothing is wrong.
pub seen_append : (o : ℕ) (ss rest : List Slot) (bs : List ℕ)
    → seen o (ss ++ rest) bs ≡ then (seen o ss bs) (λ _. seen (o + size_of ss) rest (drop (size_of ss) bs))
seen_append o [] rest bs = ap (λ (x : ℕ). seen x rest bs) (sym (add-zero o))
seen_append o (letters k ∷ ss) rest [] = past_end (o + (2 + size_of ss)) (2 + size_of ss) rest [] (omega arith)
seen_append o (letters k ∷ ss) rest (x ∷ []) = past_end (o + (2 + size_of ss)) (2 + size_of ss) rest (x ∷ []) (omega arith)
seen_append o (letters k ∷ ss) rest (x ∷ y ∷ bs) =
    let e : 2 + o + size_of ss ≡ o + (2 + size_of ss) = omega arith in
    tested (eqb x (first k) && eqb y (second k)) (seen (2 + o) (ss ++ rest) bs) (seen (2 + o) ss bs) (seen (2 + o + size_of ss) rest (drop (size_of ss) bs))
    (seen (o + (2 + size_of ss)) rest (drop (2 + size_of ss) (x ∷ y ∷ bs))) (fault_at WrongMark File o) (seen_append (2 + o) ss rest bs)
    (ap₂ (λ (p : ℕ) (l : List ℕ). seen p rest l) e (sym (two_on (size_of ss) x y bs)))
seen_append o (number i ∷ ss) rest [] = past_end (o + (1 + size_of ss)) (1 + size_of ss) rest [] (omega arith)
seen_append o (number i ∷ ss) rest (x ∷ bs) =
    let e : 1 + o + size_of ss ≡ o + (1 + size_of ss) = omega arith in
    tested (eqb x i) (seen (1 + o) (ss ++ rest) bs) (seen (1 + o) ss bs) (seen (1 + o + size_of ss) rest (drop (size_of ss) bs))
    (seen (o + (1 + size_of ss)) rest (drop (1 + size_of ss) (x ∷ bs))) (fault_at WrongNumber File o) (seen_append (1 + o) ss rest bs)
    (ap₂ (λ (p : ℕ) (l : List ℕ). seen p rest l) e (sym (one_on (size_of ss) x bs)))
seen_append o (below l ∷ ss) rest [] = past_end (o + (1 + size_of ss)) (1 + size_of ss) rest [] (omega arith)
seen_append o (below l ∷ ss) rest (x ∷ bs) =
    let e : 1 + o + size_of ss ≡ o + (1 + size_of ss) = omega arith in
    tested (ltb x l) (seen (1 + o) (ss ++ rest) bs) (seen (1 + o) ss bs) (seen (1 + o + size_of ss) rest (drop (size_of ss) bs))
    (seen (o + (1 + size_of ss)) rest (drop (1 + size_of ss) (x ∷ bs))) (fault_at StrayBit File o) (seen_append (1 + o) ss rest bs)
    (ap₂ (λ (p : ℕ) (l : List ℕ). seen p rest l) e (sym (one_on (size_of ss) x bs)))

-- the same by cases
pub seen_append_err : (o : ℕ) (ss rest : List Slot) (bs : List ℕ) (e : Fault) → seen o ss bs ≡ Err e → seen o (ss ++ rest) bs ≡ Err e
seen_append_err o ss rest bs e h =
    seen_append o ss rest bs ∙ ap (λ (r : Result Unit Fault). then r (λ _. seen (o + size_of ss) rest (drop (size_of ss) bs))) h

pub seen_append_ok : (o : ℕ) (ss rest : List Slot) (bs : List ℕ) → seen o ss bs ≡ Ok tt
    → seen o (ss ++ rest) bs ≡ seen (o + size_of ss) rest (drop (size_of ss) bs)
seen_append_ok o ss rest bs h =
    seen_append o ss rest bs ∙ ap (λ (r : Result Unit Fault). then r (λ _. seen (o + size_of ss) rest (drop (size_of ss) bs))) h

-- slots that take at least the bytes that are there: what follows is not looked at
pub seen_append_short : (o : ℕ) (ss rest : List Slot) (bs : List ℕ) → length bs ≤ size_of ss → seen o (ss ++ rest) bs ≡ seen o ss bs
seen_append_short o ss rest bs h =
    seen_append o ss rest bs ∙ ap (λ (r : Result Unit Fault). then (seen o ss bs) (λ _. r)) (sym (past_end (o + size_of ss) (size_of ss) rest bs h)) ∙ same (seen o ss bs)
  where
    same : (r : Result Unit Fault) → then r (λ _. Ok tt) ≡ r
    same (Ok u) = refl
    same (Err e) = refl

-- ---- sizes

pub size_of_append : (ss rest : List Slot) → size_of (ss ++ rest) ≡ size_of ss + size_of rest
size_of_append [] rest = omega arith
size_of_append (letters k ∷ ss) rest = omega (arith, size_of_append ss rest)
size_of_append (number i ∷ ss) rest = omega (arith, size_of_append ss rest)
size_of_append (below l ∷ ss) rest = omega (arith, size_of_append ss rest)

pub size_of_row : (c bits : ℕ) → size_of (row_slots c bits) ≡ c
size_of_row zero bits = refl
size_of_row (suc c) bits = omega (arith, size_of_row c (bits - 8))

pub size_of_body : (c bits count : ℕ) → size_of (body_slots c bits count) ≡ count * c
size_of_body c bits zero = sym (zero-mul c)
size_of_body c bits (suc count) = omega (arith, size_of_append (row_slots c bits) (body_slots c bits count), size_of_row c bits, size_of_body c bits count, suc-mul count c)

pub size_of_record : (k : Mark) (bits count i : ℕ) → size_of (record_slots k bits count i) ≡ record_size (byte_width_of bits) count
size_of_record k bits count i = omega (arith, size_of_body (byte_width_of bits) bits count)

pub size_of_series : (k : Mark) (bits count i j : ℕ) → size_of (series_slots k bits count i j) ≡ j * record_size (byte_width_of bits) count
size_of_series k bits count i zero = sym (zero-mul (record_size (byte_width_of bits) count))
size_of_series k bits count i (suc j) =
    size_of_append (record_slots k bits count i) (series_slots k bits count (suc i) j)
    ∙ omega (arith, size_of_record k bits count i, size_of_series k bits count (suc i) j, suc-mul j (record_size (byte_width_of bits) count))

pub size_of_keys : (p : Params) (i j : ℕ) → size_of (keys_due p i j) ≡ j * record_size (byte_width_of p.k) p.n + 2
size_of_keys p i j = size_of_append (series_slots Key p.k p.n i j) end_slots ∙ ap (λ (x : ℕ). x + 2) (size_of_series Key p.k p.n i j)

pub size_of_constants : (p : Params) (i j : ℕ)
    → size_of (constants_due p i j) ≡ j * record_size (byte_width_of p.n) 1 + ((p.r + 1) * record_size (byte_width_of p.k) p.n + 2)
size_of_constants p i j =
    size_of_append (series_slots Constant p.n 1 i j) (keys_due p 0 (p.r + 1))
    ∙ ap₂ (λ (x y : ℕ). x + y) (size_of_series Constant p.n 1 i j) (size_of_keys p 0 (p.r + 1))

pub size_of_layers : (p : Params) (i j : ℕ)
    → size_of (layers_due p i j) ≡ j * record_size (byte_width_of p.n) p.n + (p.r * record_size (byte_width_of p.n) 1 + ((p.r + 1) * record_size (byte_width_of p.k) p.n + 2))
size_of_layers p i j =
    size_of_append (series_slots Layer p.n p.n i j) (constants_due p 1 p.r)
    ∙ ap₂ (λ (x y : ℕ). x + y) (size_of_series Layer p.n p.n i j) (size_of_constants p 1 p.r)

-- all that is due after the header ends two bytes after the place of the end mark
pub size_of_all : (p : Params) → 8 + size_of (layers_due p 1 p.r) ≡ end_at p + 2
size_of_all p = ap (λ (x : ℕ). 8 + x) (size_of_layers p 1 p.r) ∙ sums (p.r * record_size (byte_width_of p.n) p.n) (p.r * record_size (byte_width_of p.n) 1) ((p.r + 1) * record_size (byte_width_of p.k) p.n)
  where
    sums : (a b c : ℕ) → 8 + (a + (b + (c + 2))) ≡ 8 + a + b + c + 2
    sums a b c = omega arith
