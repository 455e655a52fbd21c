use Rattle.std.proofs.Common.{◌≡◌, ◌<◌, ◌∙◌, get_or, length, take, min, arith, length-take}
use Rattle.std.proofs.lemmas.List.{get_or-take}
use Rattle.bits.specs.Gf2.{value}
use Rattle.bits.proofs.Vectors.{parity_zero, dot_more, dot_done}
use Rattle.bits.proofs.Products.{dot_below}
use Rattle.bits.proofs.words.parity.Goals as goal

pub loop-i-init : goal.loop-i-init
loop-i-init c = omega (arith, parity_zero, dot_below (value c.args.row.now) (value c.args.v.now))

pub loop-i-preserved : goal.loop-i-preserved
loop-i-preserved c =
    let row = c.args.row.now in
    let v = c.args.v.now in
    let i = c.loop-i.i in
    let n = c.min-shared.result in
    let size : length (take n row) ≡ min n (length row) = length-take n row in
    let here : i < n = omega (arith, size, c.loop-i-test.true) in
    let word : get_or (take n row) i 0 ≡ get_or row i 0 = get_or-take n row i 0 here in
    rw word (dot_more row v i c.loop-i.acc _ (omega arith) (omega arith) (omega (arith, c.type_inv.row i)) (omega (arith, c.type_inv.v i)) c.loop-i.invariant)

pub returns : goal.returns
returns c =
    let size : length (take c.min-shared.result c.args.row.now) ≡ min c.min-shared.result (length c.args.row.now) = length-take c.min-shared.result c.args.row.now in
    c.from.ensures ∙ dot_done c.args.row.now c.args.v.now c.loop-i.i c.loop-i.acc _ (omega (arith, size)) c.loop-i.invariant
