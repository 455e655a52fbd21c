-- Each bit that the sources give is 0 or 1: facts that the sources themselves hold.
use Rattle.std.specs.Prelude.{ℕ, zero, suc, ◌/◌, ◌%◌, ◌^◌, ◌<◌, Bool, true, false, cond, List, length, Some, None, Option, ◌==◌, bit_xor, nat_lt, slice_index}
use Rattle.std.proofs.Common.{lit<, mod-lt}
use Rattle.std.proofs.lemmas.Nat.{xor_lt}
use Rattle.drawing.specs.Streams.{Bit, Bits, tape}
use Rattle.drawing.specs.Grain.{Given, at, given, grain, new_bit_of, nth, shift}

odd_or_even : (x : ℕ) → x % 2 < 2
odd_or_even x = mod-lt x (lit< tt)

pub tape_digits : (bytes : List ℕ) (i : ℕ) → Bit (tape bytes i)
tape_digits bytes i = go (nat_lt (i / 8) (length bytes)) (slice_index bytes (i / 8) / 2 ^ (i % 8))
  where
    go : (t : Bool) (x : ℕ) → Bit (cond t (Some (x % 2)) None)
    go true x = odd_or_even x
    go false x = tt

two : {a b : ℕ} → a < 2 → b < 2 → bit_xor a b < 2
two {a} {b} = xor_lt 1 a b

tap : (s j : ℕ) → at s j < 2
tap s j = odd_or_even (s / 2 ^ j)

pub new_below : (s : ℕ) → new_bit_of s < 2
new_below s = two (two (two (two (two (tap s 62) (tap s 51)) (tap s 38)) (tap s 23)) (tap s 13)) (odd_or_even s)

abbrev Fine : Option Given → Type 0
Fine None = Unit {0}
Fine (Some g) = g.bit < 2

given_fine : (d s : ℕ) → Fine (given d s)
unfolding given
given_fine zero s = tt
given_fine (suc d) s = go (new_bit_of s == 1) _ _ _ (new_below (shift s)) (given_fine d (shift (shift s)))
  where
    go : (t : Bool) (b n : ℕ) (o : Option Given) → b < 2 → Fine o → Fine (cond t (Some (record { bit = b; left = n })) o)
    go true b n o l f = l
    go false b n o l f = f

nth_digits : (i : ℕ) (o : Option Given) → Fine o → Bit (nth i o)
nth_digits i None f = tt
nth_digits zero (Some g) f = f
nth_digits (suc i) (Some g) f = nth_digits i (given 80 g.left) (given_fine 80 g.left)

pub grain_digits : (s : ℕ) → Bits (grain s)
grain_digits s i = nth_digits i (given 80 s) (given_fine 80 s)
