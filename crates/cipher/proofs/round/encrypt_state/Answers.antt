use Rattle.std.proofs.Common.{ap, ◌∙◌, arith}
use lib.Bits.{bit_xor}
use Rattle.bits.specs.Gf2.{mul, value}
use Rattle.cipher.specs.LowMC.{rounds}
use Rattle.cipher.proofs.Passes.{constants_left, encrypted, keys_left, layers_left, round_at, rounds_done, rounds_more}
use Rattle.cipher.proofs.round.encrypt_state.Goals as goal

pub loop-i-preserved : goal.loop-i-preserved
loop-i-preserved c =
    let p = c.args.set.params in
    let ws = c.args.set.words.now in
    let key = value c.args.key.now in
    let s = value c.loop-i.state in
    rounds_more p ws c.loop-i.i p.m key s (value c.forward.new.state) _ (omega arith)
    (round_at p ws c.loop-i.i c.round.result c.round.ensures p.m key s (value c.forward.new.state) c.forward.ensures) c.loop-i.invariant

pub returns : goal.returns
returns c =
    let p = c.args.set.params in
    let ws = c.args.set.words.now in
    let key = value c.args.key.now in
    rounds_done p ws c.loop-i.i p.m key (value c.loop-i.state) _ (omega arith) c.loop-i.invariant
    ∙ ap (λ x. rounds p.m key (layers_left p ws 0) (constants_left p ws 0) (keys_left p ws 0) x)
    (c.add.ensures ∙ ap (bit_xor (value c.args.state.now)) (c.product.ensures ∙ ap (λ K. mul K key) c.first_key.ensures.rows))
    ∙ encrypted p ws key (value c.args.state.now)
