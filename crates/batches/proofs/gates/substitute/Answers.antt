use Rattle.std.proofs.Common.{map, ◌∙◌, arith, rules}
use Rattle.batches.specs.Lanes.{lane}
use Rattle.batches.proofs.Boxes.{along_more, along_none}
use Rattle.batches.proofs.gates.substitute.Goals as goal

pub loop-t-init : goal.loop-t-init
loop-t-init g c = ((λ j. along_none c.args.way _), search rules)

pub loop-t-preserved : goal.loop-t-preserved
loop-t-preserved g c =
    let m = g.E.Engine.means in
    let t = c.loop-t.t in
    let s = c.loop-t.invariant.1 in
    let u = c.substitute_triple.ensures.spent in (
      (λ j. c.substitute_triple.ensures.lanes j
          ∙ along_more c.args.way t (lane j (map m c.args.cells.now)) (lane j (map m c.loop-t.cells)) (c.loop-t.invariant.0 j)),
      record {
        room = omega (arith, s.room, s.done, s.granted, u.room);
        done = omega (arith, s.done, u.done);
        granted = u.granted ∙ s.granted;
        capacity = u.capacity ∙ s.capacity;
      },
    )
