-- A source of bits is the bits still to come: a function from a place, counted from 0, to the bit there, or nothing from where it is dry.
use Rattle.std.specs.Prelude.{◌≡◌, ℕ, ◌+◌, ◌/◌, ◌%◌, ◌^◌, ◌<◌, cond, List, length, Some, None, Option, nat_lt, slice_index}

abbrev pub Stream : Type 0
Stream = ℕ → Option ℕ

-- a bit is 0 or 1
abbrev pub Bit : Option ℕ → Type 0
Bit None = Unit {0}
Bit (Some b) = b < 2

abbrev pub Bits : Stream → Type 0
Bits f = (i : ℕ) → Bit (f i)

-- the stream g is what comes of f from a place on
abbrev pub Sees : Stream → Stream → ℕ → Type 0
Sees f g at = (i : ℕ) → g i ≡ f (at + i)

-- what asking does: `meaning` gives the bits still to come, `old` was asked, answered r, and is `new` now
abbrev pub Asked : {S : Type 0} → (S → Stream) → S → S → Option ℕ → Type 0
Asked meaning old new (Some b) = (meaning old 0 ≡ Some b) × Sees (meaning old) (meaning new) 1
Asked meaning old new None = (meaning old 0 ≡ None) × (new ≡ old)

-- the bits of bytes, lowest first
abbrev pub tape : List ℕ → Stream
tape bytes i = cond (nat_lt (i / 8) (length bytes)) (Some (slice_index bytes (i / 8) / 2 ^ (i % 8) % 2)) None
