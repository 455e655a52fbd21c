use Rattle.std.proofs.Common.{◌^◌, arith}
use Rattle.bits.specs.Gf2.{value}
use Rattle.bits.proofs.Products.{dot_below}
use Rattle.batches.proofs.wires.spread.Goals as goal

pub returns-else-bit-eq1 : goal.returns-else-bit-eq1
returns-else-bit-eq1 c = omega (arith, c.bit.ensures, c.if-bit-eq1.false, dot_below (2 ^ c.args.i) (value c.args.constant.now))
