use Rattle.std.proofs.Common.{◌<◌, length, arith}
use Rattle.sittings.proofs.Walk.{run_more, walk_rest}
use Rattle.sittings.proofs.run.run.Goals as goal

pub loop-x-preserved : goal.loop-x-preserved
loop-x-preserved g c =
    let m = g.E.Engine in
    let v = c.loop-x.invariant in
    let xs = c.args.list.now in
    let ys = c.loop-x.list in
    let i = c.loop-x.x-index in
    let h : i < length xs = c.loop-x-test.true in
    let k : i < length ys = omega arith in (
      omega arith,
      walk_rest xs ys i c.x-item.result c.answer.new.entry h k v.1,
      run_more m.means m.lanes (m.acct c.args.engine.now) (m.acct c.loop-x.engine) (m.acct c.answer.new.engine) xs ys i
          c.x-item.result c.answer.new.entry h k v.1 v.2 c.answer.ensures,
    )
