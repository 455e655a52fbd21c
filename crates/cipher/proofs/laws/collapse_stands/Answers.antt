use Rattle.cipher.proofs.Collapse.{collapse}
use Rattle.cipher.proofs.laws.collapse_stands.Goals as goal

pub returns : goal.returns
returns c = collapse
