-- Bytes that are just what is due: read as rows, matrices and series of records, and written from them.
use Rattle.std.proofs.Common.{◌≡◌, ℕ, zero, suc, ◌+◌, ◌-◌, ◌*◌, ◌/◌, ◌%◌, ◌^◌, ◌<◌, ◌≤◌, min, Bool, true, false, cond, ◌&&◌, eqb, ltb, ◌⊎◌, List, [], ◌∷◌, ◌++◌, length, take, drop, Ok, Err, Result, sym, refl, ap, ◌∙◌, subst, ap₂, inl, inr, suc-mul, zero-mul, arith}
use Rattle.std.proofs.lemmas.Nat.{pow-add, pow_pos, pow_below}
use Rattle.std.proofs.lemmas.List.{append_assoc, drop_at, drop-drop, length-append, nil_from_length, take_at}
use Rattle.std.proofs.lemmas.Bool.{and_parts, and_from, cases_lt, eq-eqb, eqb-true, lt-ltb, ltb-true, cond-true}
use Rattle.bits.specs.declared.refusal.Refusal.TheVariants.{WrongMark, WrongNumber, StrayBit}
use Rattle.bits.specs.declared.refusal.Layer.TheVariants.{File}
use Rattle.bits.specs.declared.refusal.Fault.{Fault}
use Rattle.bits.specs.Refusals.{fault_at}
use Rattle.bits.specs.Gf2.{Below}
use Rattle.cipher.specs.Sets.{Each, Matrix}
use Rattle.files.specs.declared.reader.Mark.{Mark}
use Rattle.files.specs.Format.{body_of, byte_rows, bytes_of, byte_value, byte_width_of, first, matrices_of, records_of, record_size, second}
use Rattle.files.specs.Faults.{Slot, letters, number, below, row_slots, body_slots, series_slots, size_of, seen}

-- the bytes are those due, and no more
abbrev pub Meets : List Slot → List ℕ → Type 0
Meets [] bs = bs ≡ []
Meets (letters k ∷ ss) [] = ⊥
Meets (letters k ∷ ss) (x ∷ []) = ⊥
Meets (letters k ∷ ss) (x ∷ y ∷ bs) = (x ≡ first k) × (y ≡ second k) × Meets ss bs
Meets (number i ∷ ss) [] = ⊥
Meets (number i ∷ ss) (x ∷ bs) = (x ≡ i) × Meets ss bs
Meets (below l ∷ ss) [] = ⊥
Meets (below l ∷ ss) (x ∷ bs) = (x < l) × Meets ss bs

-- a test that did not refuse
pub test_ok : (t : Bool) (r : Result Unit Fault) (e : Fault) → cond t r (Err e) ≡ Ok tt → (t ≡ true) × (r ≡ Ok tt)
test_ok true r e h = (refl, h)
test_ok false r e h =
    let z : ◌≡◌ {A = ℕ} 0 1 = cc in
    absurd (omega arith)

-- nothing wrong, and as many bytes as are due
pub seen_meets : (o : ℕ) (ss : List Slot) (bs : List ℕ) → seen o ss bs ≡ Ok tt → length bs ≡ size_of ss → Meets ss bs
seen_meets o [] bs h l = nil_from_length bs l
seen_meets o (letters k ∷ ss) [] h l = absurd (omega arith)
seen_meets o (letters k ∷ ss) (x ∷ []) h l = absurd (omega arith)
seen_meets o (letters k ∷ ss) (x ∷ y ∷ bs) h l =
    let t = test_ok (eqb x (first k) && eqb y (second k)) (seen (2 + o) ss bs) (fault_at WrongMark File o) h in
    let b = and_parts (eqb x (first k)) (eqb y (second k)) t.0 in
    (eqb-true x (first k) b.0, eqb-true y (second k) b.1, seen_meets (2 + o) ss bs t.1 (omega arith))
seen_meets o (number i ∷ ss) [] h l = absurd (omega arith)
seen_meets o (number i ∷ ss) (x ∷ bs) h l =
    let t = test_ok (eqb x i) (seen (1 + o) ss bs) (fault_at WrongNumber File o) h in
    (eqb-true x i t.0, seen_meets (1 + o) ss bs t.1 (omega arith))
seen_meets o (below b ∷ ss) [] h l = absurd (omega arith)
seen_meets o (below b ∷ ss) (x ∷ bs) h l =
    let t = test_ok (ltb x b) (seen (1 + o) ss bs) (fault_at StrayBit File o) h in
    (ltb-true x b t.0, seen_meets (1 + o) ss bs t.1 (omega arith))

pub meets_size : (ss : List Slot) (bs : List ℕ) → Meets ss bs → length bs ≡ size_of ss
meets_size [] bs m = ap length m
meets_size (letters k ∷ ss) [] m = absurd m
meets_size (letters k ∷ ss) (x ∷ []) m = absurd m
meets_size (letters k ∷ ss) (x ∷ y ∷ bs) m = omega (arith, meets_size ss bs m.2)
meets_size (number i ∷ ss) [] m = absurd m
meets_size (number i ∷ ss) (x ∷ bs) m = omega (arith, meets_size ss bs m.1)
meets_size (below b ∷ ss) [] m = absurd m
meets_size (below b ∷ ss) (x ∷ bs) m = omega (arith, meets_size ss bs m.1)

pub meets_seen : (o : ℕ) (ss : List Slot) (bs : List ℕ) → Meets ss bs → seen o ss bs ≡ Ok tt
meets_seen o [] bs m = refl
meets_seen o (letters k ∷ ss) [] m = absurd m
meets_seen o (letters k ∷ ss) (x ∷ []) m = absurd m
meets_seen o (letters k ∷ ss) (x ∷ y ∷ bs) m =
    cond-true (eqb x (first k) && eqb y (second k)) (seen (2 + o) ss bs) (Err (fault_at WrongMark File o))
    (and_from (eqb x (first k)) (eqb y (second k)) (eq-eqb x (first k) m.0) (eq-eqb y (second k) m.1))
    ∙ meets_seen (2 + o) ss bs m.2
meets_seen o (number i ∷ ss) [] m = absurd m
meets_seen o (number i ∷ ss) (x ∷ bs) m =
    cond-true (eqb x i) (seen (1 + o) ss bs) (Err (fault_at WrongNumber File o)) (eq-eqb x i m.0) ∙ meets_seen (1 + o) ss bs m.1
meets_seen o (below b ∷ ss) [] m = absurd m
meets_seen o (below b ∷ ss) (x ∷ bs) m =
    cond-true (ltb x b) (seen (1 + o) ss bs) (Err (fault_at StrayBit File o)) (lt-ltb x b m.0) ∙ meets_seen (1 + o) ss bs m.1

-- ---- the limits of a byte and of the bytes after it

limits_of : (bits : ℕ) → ((2 ^ min 8 bits ≡ 2 ^ bits) × (2 ^ (bits - 8) ≡ 1) × (2 ^ bits < 256)) ⊎ ((2 ^ min 8 bits ≡ 256) × (2 ^ bits ≡ 256 * 2 ^ (bits - 8)))
limits_of bits = elim (cases_lt bits 8) [
  | inl h ↦
      let a : min 8 bits ≡ bits = omega arith in
      let b : bits - 8 ≡ 0 = omega arith in
      inl (ap (λ (x : ℕ). 2 ^ x) a, ap (λ (x : ℕ). 2 ^ x) b, pow_below bits 8 h)
  | inr h ↦
      let a : min 8 bits ≡ 8 = omega arith in
      let b : bits ≡ 8 + (bits - 8) = omega arith in
      inr (ap (λ (x : ℕ). 2 ^ x) a, ap (λ (x : ℕ). 2 ^ x) b ∙ pow-add 2 8 (bits - 8))
]

low_below : (bits x : ℕ) → x < 2 ^ bits → x % 256 < 2 ^ min 8 bits
low_below bits x h = omega (arith, limits_of bits)

high_below : (bits x : ℕ) → x < 2 ^ bits → x / 256 < 2 ^ (bits - 8)
high_below bits x h = omega (arith, limits_of bits)

both_below : (bits b v : ℕ) → b < 2 ^ min 8 bits → v < 2 ^ (bits - 8) → (b < 256) × (b + 256 * v < 2 ^ bits)
both_below bits b v h l = (omega (arith, limits_of bits), omega (arith, limits_of bits))

-- ---- reading

row_read : (c bits : ℕ) (ss : List Slot) (bs : List ℕ) → Meets (row_slots c bits ++ ss) bs
    → (byte_value (take c bs) < 2 ^ bits) × (bytes_of c (byte_value (take c bs)) ++ drop c bs ≡ bs) × Meets ss (drop c bs)
row_read zero bits ss bs m = (pow_pos bits, refl, m)
row_read (suc c) bits ss [] m = absurd m
row_read (suc c) bits ss (x ∷ bs) m =
    let ih = row_read c (bits - 8) ss bs m.1 in
    let v : ℕ = byte_value (take c bs) in
    let b : (x < 256) × (x + 256 * v < 2 ^ bits) = both_below bits x v m.0 ih.0 in
    let lo : (x + 256 * v) % 256 ≡ x = omega arith in
    let hi : (x + 256 * v) / 256 ≡ v = omega arith in
    (b.1, ap₂ (λ (y : ℕ) (ys : List ℕ). y ∷ ys) lo (ap (λ (z : ℕ). bytes_of c z ++ drop c bs) hi ∙ ih.1), ih.2)

pub body_read : (c bits count : ℕ) (ss : List Slot) (bs : List ℕ) → Meets (body_slots c bits count ++ ss) bs
    → Matrix count bits (byte_rows c count bs) × (body_of c (byte_rows c count bs) ++ drop (count * c) bs ≡ bs) × Meets ss (drop (count * c) bs)
body_read c bits zero ss bs m =
    let e : bs ≡ drop (0 * c) bs = ap (λ (n : ℕ). drop n bs) (sym (zero-mul c)) in
    (record { size = refl; narrow = tt }, sym e, subst (Meets ss) e m)
body_read c bits (suc count) ss bs m =
    let r = row_read c bits (body_slots c bits count ++ ss) bs (subst (λ (l : List Slot). Meets l bs) (append_assoc (row_slots c bits) (body_slots c bits count) ss) m) in
    let ih = body_read c bits count ss (drop c bs) r.2 in
    let v : ℕ = byte_value (take c bs) in
    let vs : List ℕ = byte_rows c count (drop c bs) in
    let n : c + count * c ≡ suc count * c = omega (arith, suc-mul count c) in
    let e : drop (count * c) (drop c bs) ≡ drop (suc count * c) bs = drop-drop (count * c) c bs ∙ ap (λ (n : ℕ). drop n bs) n in (
      record { size = ap suc ih.0.size; narrow = (r.0, ih.0.narrow) },
      append_assoc (bytes_of c v) (body_of c vs) (drop (suc count * c) bs)
          ∙ ap (λ (l : List ℕ). bytes_of c v ++ l) (ap (λ (l : List ℕ). body_of c vs ++ l) (sym e) ∙ ih.1) ∙ r.1,
      subst (Meets ss) e ih.2,
    )

three_on : (n x y z : ℕ) (bs : List ℕ) → drop (3 + n) (x ∷ y ∷ z ∷ bs) ≡ drop n bs
three_on n x y z bs =
    let e : 3 + n ≡ suc (suc (suc n)) = omega arith in
    ap (λ (m : ℕ). drop m (x ∷ y ∷ z ∷ bs)) e

pub series_read : (k : Mark) (bits count i j : ℕ) (ss : List Slot) (bs : List ℕ) → Meets (series_slots k bits count i j ++ ss) bs
    → Each (Matrix count bits) (matrices_of (byte_width_of bits) count j bs)
    × (records_of k (byte_width_of bits) i (matrices_of (byte_width_of bits) count j bs) ++ drop (j * record_size (byte_width_of bits) count) bs ≡ bs)
    × Meets ss (drop (j * record_size (byte_width_of bits) count) bs)
series_read k bits count i zero ss bs m =
    let e : bs ≡ drop (0 * record_size (byte_width_of bits) count) bs = ap (λ (n : ℕ). drop n bs) (sym (zero-mul (record_size (byte_width_of bits) count))) in
    (tt, sym e, subst (Meets ss) e m)
series_read k bits count i (suc j) ss [] m = absurd m
series_read k bits count i (suc j) ss (x ∷ []) m = absurd m
series_read k bits count i (suc j) ss (x ∷ y ∷ []) m = absurd m.2
series_read k bits count i (suc j) ss (x ∷ y ∷ z ∷ bs) m =
    let c : ℕ = byte_width_of bits in
    let R : ℕ = record_size c count in
    let all : List ℕ = x ∷ y ∷ z ∷ bs in
    let more : List Slot = series_slots k bits count (suc i) j in
    let b = body_read c bits count (more ++ ss) bs (subst (λ (l : List Slot). Meets l bs) (append_assoc (body_slots c bits count) more ss) m.2.1) in
    let d : drop R all ≡ drop (count * c) bs = three_on (count * c) x y z bs in
    let ih = series_read k bits count (suc i) j ss (drop R all) (subst (Meets (more ++ ss)) (sym d) b.2) in
    let M : List ℕ = byte_rows c count bs in
    let rest : List ℕ = records_of k c (suc i) (matrices_of c count j (drop R all)) in
    let n : R + j * R ≡ suc j * R = omega (arith, suc-mul j R) in
    let e : drop (j * R) (drop R all) ≡ drop (suc j * R) all = drop-drop (j * R) R all ∙ ap (λ (n : ℕ). drop n all) n in
    let whole : (body_of c M ++ rest) ++ drop (suc j * R) all ≡ bs =
    append_assoc (body_of c M) rest (drop (suc j * R) all)
    ∙ ap (λ (l : List ℕ). body_of c M ++ l) (ap (λ (l : List ℕ). rest ++ l) (sym e) ∙ ih.1 ∙ d) ∙ b.1 in
    let p = m.0 in
    let q = m.1 in
    let r = m.2.0 in
    ((b.0, ih.0), ap₂ (λ (u v : ℕ). u ∷ v ∷ i ∷ ((body_of c M ++ rest) ++ drop (suc j * R) all)) (sym p) (sym q) ∙ ap₂ (λ (u : ℕ) (l : List ℕ). x ∷ y ∷ u ∷ l) (sym r) whole, subst (Meets ss) e ih.2)

-- ---- writing

row_meets : (c bits x : ℕ) (ss : List Slot) (bs : List ℕ) → x < 2 ^ bits → Meets ss bs → Meets (row_slots c bits ++ ss) (bytes_of c x ++ bs)
row_meets zero bits x ss bs h m = m
row_meets (suc c) bits x ss bs h m = (low_below bits x h, row_meets c (bits - 8) (x / 256) ss bs (high_below bits x h) m)

pub body_meets : (c bits : ℕ) (M : List ℕ) (ss : List Slot) (bs : List ℕ) → Below bits M → Meets ss bs → Meets (body_slots c bits (length M) ++ ss) (body_of c M ++ bs)
body_meets c bits [] ss bs h m = m
body_meets c bits (x ∷ M) ss bs h m =
    rw (append_assoc (row_slots c bits) (body_slots c bits (length M)) ss, append_assoc (bytes_of c x) (body_of c M) bs)
    (row_meets c bits x (body_slots c bits (length M) ++ ss) (body_of c M ++ bs) h.0 (body_meets c bits M ss bs h.1 m))

pub series_meets : (k : Mark) (bits count i : ℕ) (Ms : List (List ℕ)) (ss : List Slot) (bs : List ℕ) → Each (Matrix count bits) Ms → Meets ss bs
    → Meets (series_slots k bits count i (length Ms) ++ ss) (records_of k (byte_width_of bits) i Ms ++ bs)
series_meets k bits count i [] ss bs h m = m
series_meets k bits count i (M ∷ Ms) ss bs h m =
    let c : ℕ = byte_width_of bits in
    let more : List Slot = series_slots k bits count (suc i) (length Ms) in
    let rest : List ℕ = records_of k c (suc i) Ms in
    let b : Meets (body_slots c bits count ++ (more ++ ss)) (body_of c M ++ (rest ++ bs)) =
    subst (λ (n : ℕ). Meets (body_slots c bits n ++ (more ++ ss)) (body_of c M ++ (rest ++ bs))) h.0.size
    (body_meets c bits M (more ++ ss) (rest ++ bs) h.0.narrow (series_meets k bits count (suc i) Ms ss bs h.1 m)) in
    (refl, refl, (refl, rw (append_assoc (body_slots c bits count) more ss, append_assoc (body_of c M) rest bs) b))

-- ---- what is written is read back

length_bytes : (c x : ℕ) → length (bytes_of c x) ≡ c
length_bytes zero x = refl
length_bytes (suc c) x = ap suc (length_bytes c (x / 256))

bytes_back : (c bits x : ℕ) → bits ≤ 8 * c → x < 2 ^ bits → byte_value (bytes_of c x) ≡ x
bytes_back zero bits x l h =
    let z : bits ≡ 0 = omega arith in
    let s : x < 2 ^ 0 = subst (λ (n : ℕ). x < 2 ^ n) z h in
    omega arith
bytes_back (suc c) bits x l h = omega (arith, bytes_back c (bits - 8) (x / 256) (omega arith) (high_below bits x h))

length_body : (c : ℕ) (M : List ℕ) → length (body_of c M) ≡ length M * c
length_body c [] = sym (zero-mul c)
length_body c (x ∷ M) = length-append (bytes_of c x) (body_of c M) ∙ omega (arith, length_bytes c x, length_body c M, suc-mul (length M) c)

body_back : (c bits : ℕ) (M bs : List ℕ) → bits ≤ 8 * c → Below bits M → byte_rows c (length M) (body_of c M ++ bs) ≡ M
body_back c bits [] bs l h = refl
body_back c bits (x ∷ M) bs l h =
    rw (append_assoc (bytes_of c x) (body_of c M) bs, take_at (bytes_of c x) (body_of c M ++ bs) c (length_bytes c x), drop_at (bytes_of c x) (body_of c M ++ bs) c (length_bytes c x))
    (ap₂ (λ (y : ℕ) (ys : List ℕ). y ∷ ys) (bytes_back c bits x l h.0) (body_back c bits M bs l h.1))

-- a width that holds the bits
pub width_holds : (bits : ℕ) → bits ≤ 8 * byte_width_of bits
width_holds bits = omega arith

pub series_size : (k : Mark) (c bits count i : ℕ) (Ms : List (List ℕ)) → Each (Matrix count bits) Ms → length (records_of k c i Ms) ≡ length Ms * record_size c count
series_size k c bits count i [] h = sym (zero-mul (record_size c count))
series_size k c bits count i (M ∷ Ms) h =
    let s : length M * c ≡ count * c = ap (λ (n : ℕ). n * c) h.0.size in
    omega (arith, length-append (body_of c M) (records_of k c (suc i) Ms), length_body c M, s, series_size k c bits count (suc i) Ms h.1, suc-mul (length Ms) (record_size c count))

pub series_back : (k : Mark) (c bits count i : ℕ) (Ms : List (List ℕ)) (bs : List ℕ) → bits ≤ 8 * c → Each (Matrix count bits) Ms
    → matrices_of c count (length Ms) (records_of k c i Ms ++ bs) ≡ Ms
series_back k c bits count i [] bs l h = refl
series_back k c bits count i (M ∷ Ms) bs l h =
    let rest : List ℕ = records_of k c (suc i) Ms in
    let size : length (body_of c M) ≡ count * c = length_body c M ∙ ap (λ (n : ℕ). n * c) h.0.size in
    let a : (body_of c M ++ rest) ++ bs ≡ body_of c M ++ (rest ++ bs) = append_assoc (body_of c M) rest bs in
    let one : byte_rows c count ((body_of c M ++ rest) ++ bs) ≡ M =
    ap₂ (λ (n : ℕ) (l : List ℕ). byte_rows c n l) (sym h.0.size) a ∙ body_back c bits M (rest ++ bs) l h.0.narrow in
    let d : drop (record_size c count) (first k ∷ second k ∷ i ∷ ((body_of c M ++ rest) ++ bs)) ≡ rest ++ bs =
    three_on (count * c) (first k) (second k) i ((body_of c M ++ rest) ++ bs) ∙ ap (λ (l : List ℕ). drop (count * c) l) a ∙ drop_at (body_of c M) (rest ++ bs) (count * c) size in
    ap₂ (λ (m : List ℕ) (l : List (List ℕ)). m ∷ l) one (ap (λ (l : List ℕ). matrices_of c count (length Ms) l) d ∙ series_back k c bits count (suc i) Ms bs l h.1)
