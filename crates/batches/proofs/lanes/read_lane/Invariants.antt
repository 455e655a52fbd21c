use Rattle.std.proofs.Common.{◌≡◌, map, take}
use Rattle.bits.specs.Gf2.{value}
use Rattle.batches.specs.Lanes.{lane}
use Rattle.batches.proofs.lanes.read_lane.Given as goal

abbrev pub invariant-loop-i : goal.invariant-loop-i
invariant-loop-i g l = value l.block ≡ lane l.j (take l.i (map g.E.Engine.means l.cells))
