use Rattle.std.proofs.Common.{sym, subst, length, ◌<◌, ◌≡◌, ◌-◌, ◌^◌, map, ap, ◌∙◌, arith}
use lib.Bits.{bit_xor}
use Rattle.bits.specs.Gf2.{mul, value}
use Rattle.bits.specs.Matrices.{rows_in}
use Rattle.cipher.proofs.SoundSets.{opening_sound}
use Rattle.batches.specs.Lanes.{lane}
use Rattle.batches.proofs.Turns.{all_undone, constant_below, gates_back, gates_left, gates_none, none_undone, one_undone, product_lane}
use Rattle.batches.proofs.rounds.decrypt_wires.Goals as goal

pub backward-requires-clause-narrow : goal.backward-requires-clause-narrow
backward-requires-clause-narrow g c =
    let o = c.args.opened in
    let below = constant_below o.set.params o.set.words.now (opening_sound o.set.params o.set.words.now o.passed).lawful (c.loop-i.i - 1) (omega arith) c.round.result c.round.ensures in
    let size : length c.loop-i.state ≡ o.set.params.n = omega arith in
    subst (λ n. value c.round.result.constant.now < 2 ^ n) (sym size) below

pub backward-requires-clause-gates : goal.backward-requires-clause-gates
backward-requires-clause-gates g c =
    let p = c.args.opened.set.params in
    gates_left (p.r - c.loop-i.i) p.r p.m _ _ (omega arith) c.requires.gates c.loop-i.invariant.1

pub loop-i-init : goal.loop-i-init
loop-i-init g c =
    let m = g.E.Engine.means in
    let p = c.args.opened.set.params in (
      (λ j h. none_undone p c.args.opened.set.words.now (lane j (map m c.args.key.now)) (lane j (map m c.args.state.now))),
      gates_none p.r p.m _ (omega (arith, c.requires.gates)),
    )

pub loop-i-preserved : goal.loop-i-preserved
loop-i-preserved g c =
    let m = g.E.Engine.means in
    let o = c.args.opened in
    let p = o.set.params in
    let ws = o.set.words.now in
    let i = c.loop-i.i in (
      (λ j h.
          let key = lane j (map m c.args.key.now) in
          let s = lane j (map m c.loop-i.state) in
          let t = lane j (map m c.backward.new.state) in
          one_undone p ws key _ i s t (omega arith) (omega arith) (opening_sound p ws o.passed).inverses c.round.result c.round.ensures
          (c.backward.ensures.lanes j h) (c.loop-i.invariant.0 j h)),
      gates_back i p.r p.m _ _ _ (omega arith) (omega arith) c.loop-i.invariant.1 c.backward.ensures.spent,
    )

pub returns-clause-lanes : goal.returns-clause-lanes
returns-clause-lanes g c j h =
    let m = g.E.Engine.means in
    let p = c.args.opened.set.params in
    let ws = c.args.opened.set.words.now in
    let key = lane j (map m c.args.key.now) in
    let s = lane j (map m c.loop-i.state) in
    all_undone p ws key (lane j (map m c.args.state.now)) c.loop-i.i s (lane j (map m c.add_wires.new.to)) (omega arith) (c.loop-i.invariant.0 j h)
    (c.add_wires.ensures (2 ^ j) ∙ ap (bit_xor s) (product_lane (rows_in c.first_key.result) (map m c.args.key.now) (map m c.product.new.to) (2 ^ j) c.product.ensures ∙ ap (λ K. mul K key) c.first_key.ensures.rows))
