use Rattle.std.proofs.Common.{◌^◌, map, refl, ap}
use Rattle.bits.specs.Gf2.{value}
use Rattle.bits.specs.Matrices.{rows_in}
use Rattle.batches.proofs.Turns.{backward_lane}
use Rattle.batches.proofs.rounds.backward.Goals as goal

pub returns-clause-lanes : goal.returns-clause-lanes
returns-clause-lanes g c j h =
    let m = g.E.Engine.means in
    let r = c.args.round in
    backward_lane c.args.m (2 ^ j) (value r.constant.now) (rows_in r.inverse) (rows_in r.key) (map m c.args.key.now) _ _ _ _
    (map m c.product.new.to) (map m c.add_constant.new.to) (map m c.product-2.new.to) (map m c.copy_from_slice.new.self)
    c.product.ensures (c.add_wires.ensures (2 ^ j)) (c.add_constant.ensures j h) refl c.product-2.ensures (ap (map m) c.copy_from_slice.ensures.after) (c.substitute.ensures.lanes j)
