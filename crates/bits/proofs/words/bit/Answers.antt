use Rattle.std.proofs.Common.{rules, ◌≡◌, ◌/◌, ◌%◌, ◌^◌, get_or, ap, ◌∙◌, arith}
use Rattle.bits.proofs.Vectors.{bit_past, bit_read}
use Rattle.bits.proofs.words.bit.Goals as goal

pub returns-in-Some : goal.returns-in-Some
returns-in-Some c =
    let word : c.in-Some.word.now ≡ get_or c.args.v.now (c.args.j / 64) 0 = search rules in
    ap (λ x. x / 2 ^ (c.args.j % 64) % 2) word ∙ bit_read c.args.v.now c.args.j c.fitting.ensures

pub returns-in-None : goal.returns-in-None
returns-in-None c = bit_past c.args.v.now c.args.j c.fitting.ensures (omega (arith, c.in-None.ensures.lookup))
