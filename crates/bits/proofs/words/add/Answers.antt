use Rattle.std.proofs.Common.{get_or, arith}
use lib.Bits.{xor_lt}
use Rattle.bits.specs.Gf2.{value}
use Rattle.bits.proofs.Vectors.{add_more, words_set}
use Rattle.bits.proofs.words.add.Goals as goal

pub loop-i-preserved : goal.loop-i-preserved
loop-i-preserved c =
    let i = c.loop-i.i in (
      add_more c.loop-i.a c.args.b.now i (value c.args.a.now) (omega arith) (omega arith) c.loop-i.invariant.1 (λ i. omega (arith, c.type_inv.b i)) c.loop-i.invariant.0,
      words_set c.loop-i.a i _ c.loop-i.invariant.1 (xor_lt 64 (get_or c.loop-i.a i 0) (get_or c.args.b.now i 0) (c.loop-i.invariant.1 i) (omega (arith, c.type_inv.b i))),
    )
