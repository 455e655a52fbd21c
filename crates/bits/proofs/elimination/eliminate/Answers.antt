use Rattle.std.proofs.Common.{length, arith}
use Rattle.bits.proofs.Memory.{eliminate_more}
use Rattle.bits.proofs.elimination.eliminate.Goals as goal

pub loop-c-preserved : goal.loop-c-preserved
loop-c-preserved c =
    eliminate_more c.args.n c.loop-c.c (length c.loop-c.row) (length c.args.row.now) c.args.work.now c.loop-c.work c.reduce.new.work (omega arith)
    c.reduce.ensures.solved c.reduce.ensures.carried c.loop-c.invariant.1
