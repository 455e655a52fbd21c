-- Sizes: the bits of a row fit in its words, and a round's key matrix stands within a set's words.
use Rattle.std.proofs.Common.{ℕ, ◌+◌, ◌*◌, ◌<◌, ◌≤◌, arith}
use Rattle.bits.proofs.Vectors.{row_ends}
use Rattle.cipher.specs.declared.params.Params.{Params}
use Rattle.cipher.specs.Parameters.{block_words_of, key_words_of, prepared_words_of}
use Rattle.cipher.specs.Instances.{keys_place}

pub wide : (p : Params) → p.n ≤ 64 * block_words_of p
wide p = omega arith

pub key_wide : (p : Params) → p.k ≤ 64 * key_words_of p
key_wide p = omega arith

pub key_inside : (p : Params) (i : ℕ) → i < p.r → keys_place p + (i + 1) * (p.n * key_words_of p) + p.n * key_words_of p ≤ prepared_words_of p
key_inside p i h = omega (arith, row_ends (i + 1) (p.r + 1) (p.n * key_words_of p) (omega arith))
