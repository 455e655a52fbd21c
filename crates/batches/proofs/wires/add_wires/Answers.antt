use Rattle.std.proofs.Common.{◌≡◌, ◌<◌, map, length, sym, ap, ◌∙◌, ap₂, arith}
use lib.Bits.{bit_xor}
use lib.ListN.{length-map}
use Rattle.bits.specs.Gf2.{mul}
use Rattle.batches.proofs.Packing.{read_map, wires_more}
use Rattle.batches.proofs.wires.add_wires.Goals as goal

pub loop-i-preserved : goal.loop-i-preserved
loop-i-preserved g c v =
    let m = g.E.Engine.means in
    let xs = c.loop-i.to in
    let ys = c.args.from.now in
    let i = c.loop-i.i in
    let hx : i < length xs = omega arith in
    let hy : i < length ys = omega arith in
    let n : length (map m ys) ≡ length ys = length-map ys m in
    wires_more m xs i c.add.result hx (map m ys) v (mul (map m c.args.to.now) v) (omega arith)
    (c.add.ensures ∙ ap₂ bit_xor (ap m (sym c.index-to-i.is) ∙ read_map m xs i _ hx c.index-to-i.is) (read_map m ys i _ hy c.index-from-i.is)) (c.loop-i.invariant v)
