use Rattle.std.proofs.Common.{arith}
use Rattle.cipher.proofs.Strays.{strays_is}
use Rattle.cipher.proofs.stray.strays.Goals as goal

pub returns-then-bits-lt64 : goal.returns-then-bits-lt64
returns-then-bits-lt64 c = strays_is c.args.word c.args.bits (omega arith)
