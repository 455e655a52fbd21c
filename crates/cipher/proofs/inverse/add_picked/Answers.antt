use Rattle.std.proofs.Common.{◌^◌, ◌<◌, arith}
use Rattle.bits.specs.Gf2.{dot, value}
use Rattle.bits.proofs.Products.{dot_below}
use Rattle.bits.proofs.Vectors.{times_none}
use Rattle.cipher.proofs.inverse.add_picked.Goals as goal

pub returns-else-bit-eq1 : goal.returns-else-bit-eq1
returns-else-bit-eq1 c =
    let b = dot_below (2 ^ c.args.i) (value c.args.pick.now) in
    let n : c.bit.result < 1 = omega (arith, c.bit.ensures, b) in
    times_none (value c.args.sum.now) (value c.args.row.now) (dot (2 ^ c.args.i) (value c.args.pick.now)) (omega (arith, c.bit.ensures, n))
