use Rattle.cipher.proofs.Substitution.{undone}
use Rattle.cipher.proofs.laws.substitution_stands.Goals as goal

pub returns : goal.returns
returns c = undone
