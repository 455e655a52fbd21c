-- The two directions of the cipher.
use Rattle.std.specs.Prelude.{ℕ}
use Rattle.cipher.specs.declared.direction.Direction.{Direction}
use Rattle.cipher.specs.declared.direction.Direction.TheVariants.{Encrypt, Decrypt}
use Rattle.cipher.specs.Sets.{Set}
use Rattle.cipher.specs.LowMC.{decrypt, encrypt}

abbrev pub along : Direction → Set → ℕ → ℕ → ℕ
along Encrypt = encrypt
along Decrypt = decrypt

-- the other way
abbrev pub against : Direction → Set → ℕ → ℕ → ℕ
against Encrypt = decrypt
against Decrypt = encrypt
