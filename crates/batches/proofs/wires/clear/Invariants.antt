use Rattle.std.proofs.Common.{◌≡◌, map, take, replicate}
use Rattle.batches.proofs.wires.clear.Given as goal

abbrev pub invariant-loop-cell : goal.invariant-loop-cell
invariant-loop-cell g l = map g.E.Engine.means (take l.cell-index l.cells) ≡ replicate l.cell-index 0
