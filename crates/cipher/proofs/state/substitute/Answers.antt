use Rattle.std.proofs.Common.{◌*◌, ◌<◌}
use Rattle.bits.specs.Gf2.{value}
use Rattle.cipher.proofs.Triples.{boxes_none, boxes_step, changes_small}
use Rattle.cipher.proofs.state.substitute.Goals as goal
use Rattle.cipher.proofs.state.substitute.Goals.{After-change-first}

-- what is added to each bit is a bit
digits : (c : After-change-first) → (c.change-first.result.0 < 2) × (c.change-first.result.1 < 2) × (c.change-first.result.2 < 2)
digits c =
    changes_small c.args.way (value c.loop-t.s) (3 * c.loop-t.t) c.bit.result c.bit-in-loop-t.result c.bit-in-loop-t-2.result c.change-first.result
    c.bit.ensures c.bit-in-loop-t.ensures c.bit-in-loop-t-2.ensures c.change-first.ensures

pub loop-t-init : goal.loop-t-init
loop-t-init c = boxes_none c.args.way (value c.args.s.now)

pub flip-requires-clause-digit : goal.flip-requires-clause-digit
flip-requires-clause-digit c = (digits (goal.at.flip-requires-clause-digit c).After-change-first).0

pub flip-requires-in-loop-t-clause-digit : goal.flip-requires-in-loop-t-clause-digit
flip-requires-in-loop-t-clause-digit c = (digits (goal.at.flip-requires-in-loop-t-clause-digit c).After-change-first).1

pub flip-requires-in-loop-t-2-clause-digit : goal.flip-requires-in-loop-t-2-clause-digit
flip-requires-in-loop-t-2-clause-digit c = (digits (goal.at.flip-requires-in-loop-t-2-clause-digit c).After-change-first).2

pub loop-t-preserved : goal.loop-t-preserved
loop-t-preserved c =
    boxes_step c.args.way c.loop-t.t (value c.args.s.now) (value c.loop-t.s) c.bit.result c.bit-in-loop-t.result c.bit-in-loop-t-2.result
    (value c.flip.new.s) (value c.flip-in-loop-t.new.s) (value c.flip-in-loop-t-2.new.s) c.change-first.result
    c.loop-t.invariant c.bit.ensures c.bit-in-loop-t.ensures c.bit-in-loop-t-2.ensures c.change-first.ensures c.flip.ensures c.flip-in-loop-t.ensures c.flip-in-loop-t-2.ensures
