-- Where the parts of a set stand in its words, round by round.
use Rattle.std.specs.Prelude.{ℕ, ◌+◌, ◌*◌, List, take, drop, bit_xor}
use Rattle.bits.specs.Gf2.{mul, rows, value}
use Rattle.cipher.specs.declared.params.Params.{Params}
use Rattle.cipher.specs.declared.places.Places.{Places}
use Rattle.cipher.specs.Parameters.{block_words_of, key_words_of}
use Rattle.cipher.specs.Instances.{constants_place, inverses_place, keys_place}
use Rattle.cipher.specs.LowMC.{unsubstitution}

-- of the round i, from 0
abbrev pub places_of : Params → ℕ → Places
places_of p i = record {
  layer = i * (p.n * block_words_of p);
  constant = constants_place p + i * block_words_of p;
  key = keys_place p + (i + 1) * (p.n * key_words_of p);
  inverse = inverses_place p + i * (p.n * block_words_of p);
}

-- the round there back, by a matrix M in place of the inverse of the layer
abbrev pub unround_by : ℕ → ℕ → List ℕ → ℕ → List ℕ → ℕ → ℕ
unround_by m key M C K y = unsubstitution m (mul M (bit_xor (bit_xor y (mul K key)) C))

-- the constant at a place
abbrev pub constant_at : ℕ → ℕ → List ℕ → ℕ
constant_at w at ws = value (take w (drop at ws))

-- the matrix of n rows of w words at a place
abbrev pub matrix_at : ℕ → ℕ → ℕ → List ℕ → List ℕ
matrix_at w n at ws = rows w n (drop at ws)
