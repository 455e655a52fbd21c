use Rattle.std.proofs.Common.{sym, subst}
use Rattle.cipher.specs.Published.{Ruled}
use Rattle.cipher.proofs.Rule.{row_ruled}
use Rattle.cipher.proofs.published.published.Goals as goal

pub returns : goal.returns
returns c = record { pinned = c.look_up.ensures; ruled = subst Ruled (sym c.look_up.ensures) (row_ruled c.args.row) }
