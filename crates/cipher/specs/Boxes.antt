-- The substitution layer in either direction.
use Rattle.std.specs.Prelude.{ℕ, bit_and, bit_xor}
use Rattle.cipher.specs.declared.direction.Direction.{Direction}
use Rattle.cipher.specs.declared.direction.Direction.TheVariants.{Encrypt, Decrypt}
use Rattle.cipher.specs.LowMC.{substitution, unsubstitution}

-- on the m lowest triples
abbrev pub boxes : Direction → ℕ → ℕ → ℕ
boxes Encrypt = substitution
boxes Decrypt = unsubstitution

-- what is added to each bit of a triple
abbrev pub added : Direction → ℕ → ℕ → ℕ → ℕ × ℕ × ℕ
added Encrypt a b c = (bit_and b c, bit_xor a (bit_and a c), bit_xor (bit_xor a b) (bit_and a b))
added Decrypt a b c = (bit_xor b (bit_and b c), bit_and a c, bit_xor (bit_xor a b) (bit_and a b))
