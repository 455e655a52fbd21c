use Rattle.std.proofs.Common.{arith}
use Rattle.bits.specs.Matrices.{rows_in}
use Rattle.batches.specs.Lanes.{lane}
use Rattle.batches.proofs.Packing.{entered, fill_more}
use Rattle.batches.proofs.lanes.load.Goals as goal

pub loop-i-preserved : goal.loop-i-preserved
loop-i-preserved g c =
    let m = g.E.Engine in
    let b = c.args.blocks in
    let bs = rows_in b in
    fill_more m.means c.loop-i.cells c.loop-i.i c.enter.result (λ k. lane k bs) (omega arith) c.loop-i.invariant
    (entered b.width c.loop-i.i b.height m.lanes c.gather.result _ b.words.now c.requires.lanes c.gather.ensures c.enter.ensures)
