use Rattle.drawing.proofs.Standing.{places}
use Rattle.drawing.proofs.drawer.places_stand.Goals as goal

pub returns : goal.returns
returns c = places
