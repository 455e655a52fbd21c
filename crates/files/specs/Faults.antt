-- What can be wrong in a file whose header is right: the parameters fix what each byte may be, and the lowest wrong place decides.
use Rattle.std.specs.Prelude.{ℕ, zero, suc, ◌+◌, ◌-◌, ◌^◌, min, cond, ◌&&◌, List, [], ◌∷◌, ◌++◌, length, drop, Ok, Err, Result, ◌==◌, nat_lt}
use Rattle.bits.specs.declared.refusal.Refusal.TheVariants.{Truncated, WrongMark, WrongNumber, StrayBit}
use Rattle.bits.specs.declared.refusal.Layer.TheVariants.{File}
use Rattle.bits.specs.declared.refusal.Fault.{Fault}
use Rattle.bits.specs.Refusals.{fault_at, first_of, then}
use Rattle.cipher.specs.declared.params.Params.{Params}
use Rattle.files.specs.declared.reader.Mark.{Mark}
use Rattle.files.specs.declared.reader.Mark.TheVariants.{Layer, Constant, Key, End}
use Rattle.files.specs.Format.{byte_width_of, first, second}

-- what is due at a place: the two letters of a mark, a round number, or a byte of a row, which is below a limit
pub data Slot : Type 0 where
  letters : Mark → Slot
  number : ℕ → Slot
  below : ℕ → Slot

-- c bytes of a row of so many bits: a byte has 8 of them, the last what is left
abbrev pub row_slots : ℕ → ℕ → List Slot
row_slots zero bits = []
row_slots (suc c) bits = below (2 ^ min 8 bits) ∷ row_slots c (bits - 8)

abbrev pub body_slots : ℕ → ℕ → ℕ → List Slot
body_slots c bits zero = []
body_slots c bits (suc count) = row_slots c bits ++ body_slots c bits count

-- a record: mark, number, and so many rows of so many bits
abbrev pub record_slots : Mark → ℕ → ℕ → ℕ → List Slot
record_slots k bits count i = letters k ∷ number i ∷ body_slots (byte_width_of bits) bits count

-- j records, numbered from i on
abbrev pub series_slots : Mark → ℕ → ℕ → ℕ → ℕ → List Slot
series_slots k bits count i zero = []
series_slots k bits count i (suc j) = record_slots k bits count i ++ series_slots k bits count (suc i) j

abbrev pub end_slots : List Slot
end_slots = letters End ∷ []

-- what is due when so many key matrices, numbered from i on, are still to come; and likewise from the constants and from the layers on
abbrev pub keys_due : Params → ℕ → ℕ → List Slot
keys_due p i j = series_slots Key p.k p.n i j ++ end_slots

abbrev pub constants_due : Params → ℕ → ℕ → List Slot
constants_due p i j = series_slots Constant p.n 1 i j ++ keys_due p 0 (p.r + 1)

abbrev pub layers_due : Params → ℕ → ℕ → List Slot
layers_due p i j = series_slots Layer p.n p.n i j ++ constants_due p 1 p.r

-- how many bytes the slots take
abbrev pub size_of : List Slot → ℕ
size_of [] = 0
size_of (letters k ∷ ss) = 2 + size_of ss
size_of (number i ∷ ss) = 1 + size_of ss
size_of (below l ∷ ss) = 1 + size_of ss

-- the first wrong place among the bytes that are there, the first of which has the place o; half a mark at the end is not looked at
abbrev pub seen : ℕ → List Slot → List ℕ → Result Unit Fault
seen o [] bs = Ok tt
seen o (letters k ∷ ss) [] = Ok tt
seen o (letters k ∷ ss) (x ∷ []) = Ok tt
seen o (letters k ∷ ss) (x ∷ y ∷ bs) = cond (x == first k && y == second k) (seen (2 + o) ss bs) (Err (fault_at WrongMark File o))
seen o (number i ∷ ss) [] = Ok tt
seen o (number i ∷ ss) (x ∷ bs) = cond (x == i) (seen (1 + o) ss bs) (Err (fault_at WrongNumber File o))
seen o (below l ∷ ss) [] = Ok tt
seen o (below l ∷ ss) (x ∷ bs) = cond (nat_lt x l) (seen (1 + o) ss bs) (Err (fault_at StrayBit File o))

-- the fault of lowest place from o on: a wrong byte, or the file's end before it is whole, or a byte after its end
abbrev pub judged : List ℕ → ℕ → List Slot → Result Unit Fault
judged file o ss =
    then (seen o ss (drop o file)) (λ _. first_of (
    (nat_lt (length file) (o + size_of ss), fault_at Truncated File (length file))
    ∷ (nat_lt (o + size_of ss) (length file), fault_at WrongMark File (o + size_of ss))
    ∷ []))
