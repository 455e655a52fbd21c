use Rattle.engines.proofs.Shares.{shares_add, xor_swap}
use Rattle.engines.proofs.share.product.Goals as goal

pub returns-clause-shares : goal.returns-clause-shares
returns-clause-shares c =
    let x = c.args.x in
    let y = c.args.y in
    let t = c.args.triple in
    rw (c.of.ensures.0, c.of.ensures.1, xor_swap x.s0 t.a0 x.s1 t.a1, xor_swap y.s0 t.b0 y.s1 t.b1)

pub returns-clause-meaning : goal.returns-clause-meaning
returns-clause-meaning c h =
    let x = c.args.x in
    let y = c.args.y in
    let t = c.args.triple in
    rw (c.of.ensures.0, c.of.ensures.1) (shares_add _ _ _ _ _ _ _ _ _ _ h (xor_swap x.s0 t.a0 x.s1 t.a1) (xor_swap y.s0 t.b0 y.s1 t.b1))
