use Rattle.bits.specs.Gf2.{value}
use Rattle.bits.specs.Matrices.{rows_in}
use Rattle.cipher.proofs.Passes.{forward_is}
use Rattle.cipher.proofs.round.forward.Goals as goal

pub returns : goal.returns
returns c =
    let r = c.args.round in
    forward_is c.args.m (value c.args.key.now) (value c.args.state.now) (value r.constant.now) (value c.substitute.new.s) (value c.product.new.out) (value c.add.new.a) (value c.product-2.new.out) (value c.add-2.new.a)
    (rows_in r.layer) (rows_in r.key) c.substitute.ensures c.product.ensures c.add.ensures c.product-2.ensures c.add-2.ensures
