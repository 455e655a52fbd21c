use Rattle.std.proofs.Common.{◌^◌, ◌<◌, ◌∙◌, sym, mod-eq_of_lt, rules}
use lib.Bits.{xor_comm}
use Rattle.engines.proofs.Shares.{xor_cancel}
use Rattle.engines.proofs.share.ShareEngineEngine.enter.Goals as goal

pub returns-clause-meaning : goal.returns-clause-meaning
returns-clause-meaning c =
    let w : c.args.word < 2 ^ 64 = search rules in
    rw (c.of.ensures.0, c.of.ensures.1, xor_comm c.args.mask _) (xor_cancel _ _ ∙ sym (mod-eq_of_lt w))
