use Rattle.std.proofs.Common.{arith}
use Rattle.bits.specs.Gf2.{value}
use Rattle.bits.proofs.Vectors.{times_none}
use Rattle.bits.proofs.elimination.add_times.Goals as goal

pub returns-else-on-eq1 : goal.returns-else-on-eq1
returns-else-on-eq1 c = times_none (value c.args.a.now) (value c.args.b.now) c.args.on (omega arith)
