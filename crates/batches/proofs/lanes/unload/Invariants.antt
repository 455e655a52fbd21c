use Rattle.std.proofs.Common.{◌≡◌, map}
use Rattle.bits.specs.Gf2.{rows}
use Rattle.batches.specs.Lanes.{columns}
use Rattle.batches.proofs.lanes.unload.Given as goal

abbrev pub invariant-loop-j : goal.invariant-loop-j
invariant-loop-j g l = rows l.w l.j l.blocks ≡ columns l.j (map g.E.Engine.means l.cells)
