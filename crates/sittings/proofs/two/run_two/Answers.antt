use Rattle.sittings.proofs.Sums.{balanced}
use Rattle.sittings.proofs.Lanes.{all_apart, all_lanes}
use Rattle.sittings.proofs.two.run_two.Goals as goal

pub returns : goal.returns
returns g c =
    let m = g.E.Engine in
    let n = g.F.Engine in
    let a = m.acct c.args.first.now in
    let b = m.acct c.run.new.engine in
    let p = n.acct c.args.second.now in
    let q = n.acct c.run-2.new.engine in
    let xs = c.args.list.now in
    let xs' = c.run.new.list in
    let ys = c.args.other.now in
    let ys' = c.run-2.new.list in
    let r = c.run.ensures in
    let t = c.run-2.ensures in
    record {
      first = r;
      second = t;
      first_balance = balanced m.means m.lanes a b xs xs' r (m.sound c.args.first.now);
      second_balance = balanced n.means n.lanes p q ys ys' t (n.sound c.args.second.now);
      first_lanes = all_lanes m.means m.lanes a b xs xs' r;
      second_lanes = all_lanes n.means n.lanes p q ys ys' t;
      first_apart = all_apart m.means m.lanes a b xs xs' r m.means m.lanes a b xs xs' r;
      second_apart = all_apart n.means n.lanes p q ys ys' t n.means n.lanes p q ys ys' t;
      across = all_apart m.means m.lanes a b xs xs' r n.means n.lanes p q ys ys' t;
      read = c.read.ensures.read;
      clashing = c.read.ensures.clashing;
      exact = c.read.ensures.exact;
    }
