use Rattle.std.proofs.Common.{◌≡◌, length}
use Rattle.bits.specs.Gf2.{mul, value, rows}
use Rattle.bits.proofs.matrix.product.Given as goal

abbrev pub invariant-loop-i : goal.invariant-loop-i
invariant-loop-i l = value l.out ≡ mul (rows l.fn.m.width (length l.yielded) l.fn.m.words.now) (value l.v)
