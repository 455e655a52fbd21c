use Rattle.std.proofs.Common.{sym, subst, length, ◌<◌, ◌≡◌, ◌^◌, map, ap, ◌∙◌, arith}
use lib.Bits.{bit_xor}
use Rattle.bits.specs.Gf2.{mul, value}
use Rattle.bits.specs.Matrices.{rows_in}
use Rattle.cipher.specs.LowMC.{rounds}
use Rattle.cipher.proofs.Passes.{constants_left, encrypted, keys_left, layers_left, round_at, rounds_done, rounds_more}
use Rattle.cipher.proofs.SoundSets.{opening_sound}
use Rattle.batches.specs.Lanes.{lane}
use Rattle.batches.proofs.Turns.{constant_below, gates_left, gates_more, product_lane}
use Rattle.batches.proofs.rounds.encrypt_wires.Goals as goal

pub forward-requires-clause-narrow : goal.forward-requires-clause-narrow
forward-requires-clause-narrow g c =
    let o = c.args.opened in
    let below = constant_below o.set.params o.set.words.now (opening_sound o.set.params o.set.words.now o.passed).lawful c.loop-i.i (omega arith) c.round.result c.round.ensures in
    let size : length c.loop-i.state ≡ o.set.params.n = omega arith in
    subst (λ n. value c.round.result.constant.now < 2 ^ n) (sym size) below

pub forward-requires-clause-gates : goal.forward-requires-clause-gates
forward-requires-clause-gates g c =
    let p = c.args.opened.set.params in
    gates_left c.loop-i.i p.r p.m _ _ (omega arith) c.requires.gates c.loop-i.invariant.1

pub loop-i-preserved : goal.loop-i-preserved
loop-i-preserved g c =
    let m = g.E.Engine.means in
    let p = c.args.opened.set.params in
    let ws = c.args.opened.set.words.now in
    let i = c.loop-i.i in (
      (λ j h.
          let key = lane j (map m c.args.key.now) in
          let s = lane j (map m c.loop-i.state) in
          let t = lane j (map m c.forward.new.state) in
          rounds_more p ws i p.m key s t _ (omega arith) (round_at p ws i c.round.result c.round.ensures p.m key s t (c.forward.ensures.lanes j h)) (c.loop-i.invariant.0 j h)),
      gates_more i p.m _ _ _ c.loop-i.invariant.1 c.forward.ensures.spent,
    )

pub returns-clause-lanes : goal.returns-clause-lanes
returns-clause-lanes g c j h =
    let m = g.E.Engine.means in
    let p = c.args.opened.set.params in
    let ws = c.args.opened.set.words.now in
    let e : c.loop-i.i ≡ p.r = omega arith in
    let key = lane j (map m c.args.key.now) in
    let s = lane j (map m c.args.state.now) in
    rounds_done p ws c.loop-i.i p.m key (lane j (map m c.loop-i.state)) _ e (c.loop-i.invariant.0 j h)
    ∙ ap (λ x. rounds p.m key (layers_left p ws 0) (constants_left p ws 0) (keys_left p ws 0) x)
    (c.add_wires.ensures (2 ^ j) ∙ ap (bit_xor s) (product_lane (rows_in c.first_key.result) (map m c.args.key.now) (map m c.product.new.to) (2 ^ j) c.product.ensures ∙ ap (λ K. mul K key) c.first_key.ensures.rows))
    ∙ encrypted p ws key s
