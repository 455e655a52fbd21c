use Rattle.std.proofs.Common.{◌^◌, sym, ◌∙◌, arith}
use Rattle.bits.specs.Gf2.{value}
use Rattle.bits.proofs.Vectors.{clear_one, clear_none}
use Rattle.bits.proofs.matrix.clear_row.Goals as goal

pub returns-then-bit-eq1 : goal.returns-then-bit-eq1
returns-then-bit-eq1 c = c.add.ensures ∙ sym (clear_one (2 ^ c.args.j) (value c.args.row.now) (value c.args.s.now) (omega arith))

pub returns-else-bit-eq1 : goal.returns-else-bit-eq1
returns-else-bit-eq1 c = sym (clear_none (2 ^ c.args.j) (value c.args.row.now) (value c.args.s.now) (λ e. omega arith))
