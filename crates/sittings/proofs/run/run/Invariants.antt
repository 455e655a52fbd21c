use Rattle.std.proofs.Common.{◌≡◌, ◌≤◌, length, take, drop}
use Rattle.sittings.specs.Runs.{Run}
use Rattle.sittings.proofs.run.run.Given as goal

-- the entries so far have run, and the others are as they were
abbrev pub invariant-loop-x : goal.invariant-loop-x
invariant-loop-x g l =
    let m = g.E.Engine in
    (l.x-index ≤ length l.initial.list)
    × (drop l.x-index l.list ≡ drop l.x-index l.initial.list)
    × Run m.means m.lanes (m.acct l.initial.engine) (take l.x-index l.initial.list) (take l.x-index l.list) (m.acct l.engine)
