use Rattle.std.proofs.Common.{refl, arith}
use Rattle.bits.specs.Gf2.{dot, inverse_of}
use Rattle.files.proofs.sample.sample_stands.Goals as goal

pub returns : goal.returns
unfolding inverse_of dot
returns c = record {
  lawful = record {
    limits = record {
      n_least = omega arith;
      n_most = omega arith;
      k_least = omega arith;
      k_most = omega arith;
      m_least = omega arith;
      m_most = omega arith;
      r_least = omega arith;
      r_most = omega arith;
    };
    rounds = refl;
    layers = (record { size = refl; narrow = (omega arith, (omega arith, (omega arith, tt))) }, tt);
    constants = record { size = refl; narrow = (omega arith, tt) };
    key_rounds = refl;
    keys = (
      record { size = refl; narrow = (omega arith, (omega arith, (omega arith, tt))) },
      (record { size = refl; narrow = (omega arith, (omega arith, (omega arith, tt))) }, tt),
    );
  };
  layout = refl;
  back = refl;
  passes = refl;
  cut = refl;
  words = refl;
}
