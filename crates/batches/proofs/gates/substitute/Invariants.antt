use Rattle.std.proofs.Common.{◌≡◌, ℕ, ◌*◌, map}
use Rattle.engines.specs.Accounts.{Spent}
use Rattle.cipher.specs.Boxes.{boxes}
use Rattle.batches.specs.Lanes.{lane}
use Rattle.batches.proofs.gates.substitute.Given as goal

abbrev pub invariant-loop-t : goal.invariant-loop-t
invariant-loop-t g l =
    let m = g.E.Engine in
    ((j : ℕ) → lane j (map m.means l.cells) ≡ boxes l.way l.t (lane j (map m.means l.initial.cells)))
    × Spent (m.acct l.initial.e) (3 * l.t) (m.acct l.e)
