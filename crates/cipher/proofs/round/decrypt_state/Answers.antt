use Rattle.std.proofs.Common.{◌-◌, ap, ◌∙◌, arith}
use lib.Bits.{bit_xor}
use Rattle.bits.specs.Gf2.{mul, value}
use Rattle.cipher.proofs.Passes.{decrypted, unround_at, unrounds_more}
use Rattle.cipher.proofs.round.decrypt_state.Goals as goal

pub loop-i-preserved : goal.loop-i-preserved
loop-i-preserved c =
    let p = c.args.set.params in
    let ws = c.args.set.words.now in
    let key = value c.args.key.now in
    let s = value c.loop-i.state in
    let i = c.loop-i.i - 1 in
    unrounds_more p ws c.loop-i.i i p.m key s (value c.backward.new.state) _ (omega arith) (omega arith) c.requires.inverses
    (unround_at p ws i c.round.result c.round.ensures p.m key s (value c.backward.new.state) c.backward.ensures) c.loop-i.invariant

pub returns : goal.returns
returns c =
    let p = c.args.set.params in
    let ws = c.args.set.words.now in
    let key = value c.args.key.now in
    decrypted p ws c.loop-i.i key (value c.loop-i.state) (value c.add.new.a) (value c.args.state.now) (omega arith) c.loop-i.invariant
    (c.add.ensures ∙ ap (bit_xor (value c.loop-i.state)) (c.product.ensures ∙ ap (λ K. mul K key) c.first_key.ensures.rows))
