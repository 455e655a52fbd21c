use Rattle.std.proofs.Common.{◌≡◌, length, arith, rules}
use Rattle.bits.specs.Gf2.{mul, rows, value}
use Rattle.bits.proofs.Memory.{mul_rows_below}
use Rattle.bits.proofs.elimination.column_above.Goals as goal

pub put_bit-requires-clause-above : goal.put_bit-requires-clause-above
put_bit-requires-clause-above c =
    let product : value c.product.new.out ≡ mul (rows (length c.unit.new.v) c.args.c c.args.work.now) (value c.unit.new.v) = search rules in
    omega (arith, product, mul_rows_below (length c.unit.new.v) c.args.c (value c.unit.new.v) c.args.work.now)
