use Rattle.std.proofs.Common.{◌≡◌, ℕ, ◌-◌, ◌*◌, ◌<◌, map}
use Rattle.cipher.specs.LowMC.{unrounds}
use Rattle.cipher.proofs.Passes.{constants_left, keys_left, layers_left}
use Rattle.engines.specs.Accounts.{Spent}
use Rattle.batches.specs.Lanes.{lane}
use Rattle.batches.proofs.rounds.decrypt_wires.Given as goal

-- in each lane the rounds from i on are undone
abbrev pub invariant-loop-i : goal.invariant-loop-i
invariant-loop-i g l =
    let m = g.E.Engine in
    let p = l.fn.opened.set.params in
    let ws = l.fn.opened.set.words.now in
    ((j : ℕ) → j < m.lanes
    → lane j (map m.means l.state)
    ≡ unrounds p.m (lane j (map m.means l.key)) (layers_left p ws l.i) (constants_left p ws l.i) (keys_left p ws l.i) (lane j (map m.means l.initial.state)))
    × Spent (m.acct l.initial.e) ((p.r - l.i) * (3 * p.m)) (m.acct l.e)
