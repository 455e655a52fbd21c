-- A self-shrinking generator over a linear feedback shift register of 80 bits. The register is a number: its bit j is b(i + j), for i bits gone by.
use Rattle.std.specs.Prelude.{◌≡◌, ℕ, zero, suc, ◌+◌, ◌-◌, ◌*◌, ◌/◌, ◌%◌, ◌^◌, cond, List, [], ◌∷◌, Some, None, Option, ◌==◌, bit_xor}
use Rattle.drawing.specs.Streams.{Stream}

abbrev pub at : ℕ → ℕ → ℕ
at s j = s / 2 ^ j % 2

-- b(i + 80)
abbrev pub new_bit_of : ℕ → ℕ
new_bit_of s = bit_xor (bit_xor (bit_xor (bit_xor (bit_xor (at s 62) (at s 51)) (at s 38)) (at s 23)) (at s 13)) (s % 2)

-- the register one bit later
abbrev pub shift : ℕ → ℕ
shift s = s / 2 + new_bit_of s * 2 ^ 79

unfoldable pub shifted : ℕ → ℕ → ℕ
shifted zero s = s
shifted (suc n) s = shift (shifted n s)

abbrev pub ones : ℕ
ones = 2 ^ 80 - 1

-- the register after the first 160 new bits are dropped
unfoldable pub begun : ℕ
unfolding shifted
begun = shifted 160 ones

-- a bit, and the register after it
pub record Given : Type 0 where
  pub bit : ℕ
  pub left : ℕ

-- of at most d pairs of new bits the first that begins with 1 gives its second bit
unfoldable pub given : ℕ → ℕ → Option Given
given zero s = None
given (suc d) s = cond (new_bit_of s == 1) (Some (record { bit = new_bit_of (shift s); left = shift (shift s) })) (given d (shift (shift s)))

-- bit i of what a source gives: 80 pairs that give nothing make it dry for good
abbrev pub nth : ℕ → Option Given → Option ℕ
nth i None = None
nth zero (Some g) = Some g.bit
nth (suc i) (Some g) = nth i (given 80 g.left)

abbrev pub grain : ℕ → Stream
grain s i = nth i (given 80 s)

-- ---- a worked example

abbrev pub new_bits : ℕ → ℕ → List ℕ
new_bits zero s = []
new_bits (suc n) s = new_bit_of s ∷ new_bits n (shift s)

-- of the new bits, counted from the very start, the first eighteen are 0 and the nineteenth is 1
pub record GrainExample : Type 0 where
  pub start : new_bits 19 ones ≡ 0 ∷ 0 ∷ 0 ∷ 0 ∷ 0 ∷ 0 ∷ 0 ∷ 0 ∷ 0 ∷ 0 ∷ 0 ∷ 0 ∷ 0 ∷ 0 ∷ 0 ∷ 0 ∷ 0 ∷ 0 ∷ 1 ∷ []
