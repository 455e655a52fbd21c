-- Refusals: their numbers, and checks that run in an order.
use Rattle.std.specs.Prelude.{ℕ, Bool, cond, List, [], ◌∷◌, ◌++◌, Ok, Err, Result, codes, decimal}
use Rattle.bits.specs.declared.refusal.Refusal.{Refusal}
use Rattle.bits.specs.declared.refusal.Refusal.TheVariants.{ParameterOutOfRange, TooFewWords, Truncated, WrongMark, WrongNumber, StrayBit, LayerCollapses, NotInverse, NoInstance, WrongCount, WrongLength, OutOfGates, OverCapacity, BadTriples, KeyTooNarrow, SourceDry, NothingKept}
use Rattle.bits.specs.declared.refusal.Layer.{Layer}
use Rattle.bits.specs.declared.refusal.Fault.{Fault}

-- the number by which users know a refusal
abbrev pub number_of : Refusal → ℕ
number_of ParameterOutOfRange = 1
number_of TooFewWords = 2
number_of Truncated = 3
number_of WrongMark = 4
number_of WrongNumber = 5
number_of StrayBit = 6
number_of LayerCollapses = 7
number_of NotInverse = 8
number_of NoInstance = 9
number_of WrongCount = 10
number_of WrongLength = 11
number_of OutOfGates = 12
number_of OverCapacity = 13
number_of BadTriples = 14
number_of KeyTooNarrow = 15
number_of SourceDry = 16
number_of NothingKept = 17

-- how a refusal is printed, and how one with its place is
abbrev pub number_text : Refusal → List ℕ
number_text r = decimal (number_of r)

abbrev pub refused_text : Fault → List ℕ
refused_text e = codes "refused: " ++ (decimal (number_of e.refusal) ++ (codes " at " ++ decimal e.place))

abbrev pub fault_at : Refusal → Layer → ℕ → Fault
fault_at r l p = record { refusal = r; layer = l; place = p }

-- the first check whose test comes out true refuses
abbrev pub first_of : List (Bool × Fault) → Result Unit Fault
first_of [] = Ok tt
first_of (c ∷ cs) = cond c.0 (Err c.1) (first_of cs)

-- one thing after another, each only where the one before was not refused
abbrev pub then : {A B : Type 0} → Result A Fault → (A → Result B Fault) → Result B Fault
then (Ok a) f = f a
then (Err e) f = Err e
