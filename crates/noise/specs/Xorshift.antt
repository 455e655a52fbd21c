-- The generator xorshift on 64 bits.
use Rattle.std.specs.Prelude.{ℕ, ◌*◌, ◌/◌, ◌%◌, ◌^◌, bit_xor}

-- where it starts
abbrev pub first : ℕ
first = 88172645463325252

-- a word, with itself added after a shift to the left, of which 64 bits stay, or to the right
abbrev pub left : ℕ → ℕ → ℕ
left k x = bit_xor x (x * 2 ^ k % 2 ^ 64)

abbrev pub right : ℕ → ℕ → ℕ
right k x = bit_xor x (x / 2 ^ k)

-- the word after a word
abbrev pub next : ℕ → ℕ
next x = left 17 (right 7 (left 13 x))
