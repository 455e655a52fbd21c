use Rattle.bits.proofs.Memory.{bit_put}
use Rattle.bits.proofs.elimination.put_bit.Goals as goal

pub returns : goal.returns
returns c = bit_put c.args.v.now c.args.k c.requires.place c.requires.above
