use Rattle.std.proofs.Common.{◌≡◌, ◌%◌, ◌^◌, ◌<◌, map, length, sym, ap, ◌∙◌, mod-eq_of_lt, arith}
use lib.Bits.{bit_xor}
use Rattle.bits.specs.Gf2.{value}
use Rattle.bits.proofs.Products.{dot_below}
use Rattle.batches.specs.Lanes.{lane}
use Rattle.batches.proofs.Packing.{constant_more, read_map, spread_bit}
use Rattle.batches.proofs.wires.add_constant.Goals as goal

pub loop-i-preserved : goal.loop-i-preserved
loop-i-preserved g c j h =
    let m = g.E.Engine in
    let xs = c.loop-i.to in
    let i = c.loop-i.i in
    let x = value c.args.constant.now in
    let hx : i < length xs = omega arith in
    constant_more m.means xs i c.add.result hx x (m.means c.enter-c.result) j (lane j (map m.means c.args.to.now))
    (c.add.ensures ∙ ap (λ y. bit_xor y (m.means c.enter-c.result)) (ap m.means (sym c.index-to-i.is) ∙ read_map m.means xs i _ hx c.index-to-i.is))
    (spread_bit m.lanes j _ _ (dot_below (2 ^ i) x) h m.few.1 (c.enter-c.ensures ∙ ap (λ y. y % 2 ^ m.lanes) c.spread.ensures))
    (c.loop-i.invariant j h)

pub returns : goal.returns
returns g c j h =
    let m = g.E.Engine.means in
    let x = value c.args.constant.now in
    let e : c.loop-i.i ≡ length c.args.to.now = omega arith in
    c.loop-i.invariant j h ∙ ap (bit_xor (lane j (map m c.args.to.now))) (ap (λ k. x % 2 ^ k) e ∙ mod-eq_of_lt c.requires)
