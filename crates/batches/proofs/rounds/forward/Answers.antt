use Rattle.std.proofs.Common.{◌^◌, map}
use Rattle.bits.specs.Gf2.{value}
use Rattle.bits.specs.Matrices.{rows_in}
use Rattle.batches.proofs.Turns.{forward_lane}
use Rattle.batches.proofs.rounds.forward.Goals as goal

pub returns-clause-lanes : goal.returns-clause-lanes
returns-clause-lanes g c j h =
    let m = g.E.Engine.means in
    let r = c.args.round in
    forward_lane c.args.m (2 ^ j) (value r.constant.now) (rows_in r.layer) (rows_in r.key) (map m c.args.key.now) _ _ _
    (map m c.substitute.new.cells) (map m c.product.new.to) (map m c.product-2.new.to)
    (c.substitute.ensures.lanes j) c.product.ensures c.product-2.ensures (c.add_wires.ensures (2 ^ j)) (c.add_constant.ensures j h)
