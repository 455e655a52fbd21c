use Rattle.drawing.proofs.Keeping.{keeping}
use Rattle.drawing.proofs.drawer.keeping_stands.Goals as goal

pub returns : goal.returns
returns c = keeping
