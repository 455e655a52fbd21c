-- The four numbers of a set, their limits, and what follows from them.
use Rattle.std.specs.Prelude.{ℕ, ◌+◌, ◌*◌, ◌≤◌, Bool, cond, ◌&&◌, Ok, Err, Result, nat_le}
use Rattle.bits.specs.declared.refusal.Refusal.TheVariants.{ParameterOutOfRange}
use Rattle.bits.specs.declared.refusal.Layer.TheVariants.{Set}
use Rattle.bits.specs.declared.refusal.Fault.{Fault}
use Rattle.bits.specs.Refusals.{fault_at}
use Rattle.bits.specs.Gf2.{width_of}
use Rattle.cipher.specs.declared.params.Params.{Params}

-- n block bits, k key bits, m triples, r rounds
abbrev pub params : ℕ → ℕ → ℕ → ℕ → Params
params n k m r = record { n = n; k = k; m = m; r = r }

abbrev pub lawful : Params → Bool
lawful p =
    nat_le 3 p.n && (nat_le p.n 256 && (nat_le 1 p.k && (nat_le p.k 256 && (nat_le 1 p.m && (nat_le (3 * p.m) p.n && (nat_le 1 p.r && nat_le p.r 255))))))

-- the same as facts
pub record Lawful (p : Params) : Type 0 where
  pub n_least : 3 ≤ p.n
  pub n_most : p.n ≤ 256
  pub k_least : 1 ≤ p.k
  pub k_most : p.k ≤ 256
  pub m_least : 1 ≤ p.m
  pub m_most : 3 * p.m ≤ p.n
  pub r_least : 1 ≤ p.r
  pub r_most : p.r ≤ 255

abbrev pub limits : Params → Result Unit Fault
limits p = cond (lawful p) (Ok tt) (Err (fault_at ParameterOutOfRange Set 0))

-- words of a block, and of a key
abbrev pub block_words_of : Params → ℕ
block_words_of p = width_of p.n

abbrev pub key_words_of : Params → ℕ
key_words_of p = width_of p.k

-- words of all layers; their inverses have as many
abbrev pub layer_words : Params → ℕ
layer_words p = p.r * (p.n * block_words_of p)

-- words of a prepared set: layers and inverses, constants, key matrices
abbrev pub prepared_words_of : Params → ℕ
prepared_words_of p = 2 * layer_words p + p.r * block_words_of p + (p.r + 1) * (p.n * key_words_of p)

-- AND gates of one encryption or decryption
abbrev pub gates_of : Params → ℕ
gates_of p = 3 * p.m * p.r
