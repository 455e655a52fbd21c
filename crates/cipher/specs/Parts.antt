-- What a round of a prepared set uses, as numbers and lists of rows.
use Rattle.std.specs.Prelude.{◌≡◌, ℕ, List, length}
use Rattle.bits.specs.Gf2.{value}
use Rattle.bits.specs.Matrices.{rows_in}
use Rattle.cipher.specs.declared.params.Params.{Params}
use Rattle.cipher.specs.declared.prepared.Round.{Round}
use Rattle.cipher.specs.Parameters.{block_words_of, key_words_of}
use Rattle.cipher.specs.Places.{constant_at, matrix_at, places_of}

-- of round i, from 0
pub record PartsOf (p : Params) (ws : List ℕ) (i : ℕ) (r : Round) : Type 0 where
  pub layer : rows_in r.layer ≡ matrix_at (block_words_of p) p.n (places_of p i).layer ws
  pub inverse : rows_in r.inverse ≡ matrix_at (block_words_of p) p.n (places_of p i).inverse ws
  pub constant : value r.constant.now ≡ constant_at (block_words_of p) (places_of p i).constant ws
  pub key : rows_in r.key ≡ matrix_at (key_words_of p) p.n (places_of p i).key ws
  pub long : length r.constant.now ≡ block_words_of p
  pub tall : (r.layer.height ≡ p.n) × (r.inverse.height ≡ p.n) × (r.key.height ≡ p.n)
  pub wide : (r.layer.width ≡ block_words_of p) × (r.inverse.width ≡ block_words_of p) × (r.key.width ≡ key_words_of p)
