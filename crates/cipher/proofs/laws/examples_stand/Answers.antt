-- Everything here is computed.
use Rattle.std.proofs.Common.{refl, lit<}
use Rattle.bits.specs.Gf2.{dot, inverse_of, matrix_of, parity, parity_in, row_of, seek, solve}
use Rattle.cipher.specs.LowMC.{box, each, substitution, unbox, unsubstitution}
use Rattle.cipher.proofs.laws.examples_stand.Goals as goal

pub returns : goal.returns
unfolding dot inverse_of matrix_of parity parity_in row_of seek solve box each substitution unbox unsubstitution
returns c = record {
  box = refl;
  inverse = refl;
  one = refl;
  none = refl;
  keyed = refl;
  back = refl;
  witness = record { some = lit< tt; small = lit< tt; sent = refl };
  lost_none = refl;
  lost_seven = refl;
  rest_stays = refl;
}
