use Rattle.std.proofs.Common.{arith}
use Rattle.files.proofs.Pieces.{row_more}
use Rattle.files.proofs.rows.load_row.Goals as goal

pub loop-k-preserved : goal.loop-k-preserved
loop-k-preserved c =
    row_more c.args.row.now c.loop-k.out c.loop-k.k c.word.result (λ i. omega (arith, c.type_inv.row i)) (omega arith) c.word.ensures c.loop-k.invariant
