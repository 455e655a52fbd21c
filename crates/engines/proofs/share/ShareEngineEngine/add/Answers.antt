use Rattle.engines.proofs.Shares.{xor_swap}
use Rattle.engines.proofs.share.ShareEngineEngine.add.Goals as goal

pub returns-clause-meaning : goal.returns-clause-meaning
returns-clause-meaning c = cc (xor_swap c.args.x.s0 c.args.y.s0 c.args.x.s1 c.args.y.s1)
