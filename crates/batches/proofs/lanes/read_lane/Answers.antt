use Rattle.std.proofs.Common.{◌≡◌, ◌/◌, ◌%◌, ◌^◌, ◌<◌, map, length, sym, refl, ap, ◌∙◌, arith}
use lib.ListN.{length-map}
use Rattle.bits.proofs.Products.{dot_comm}
use Rattle.bits.proofs.Rank.{dot_power}
use Rattle.bits.proofs.Vectors.{value_cleared}
use Rattle.batches.proofs.Packing.{lane_more, read_map}
use Rattle.batches.proofs.lanes.read_lane.Goals as goal

pub loop-i-init : goal.loop-i-init
loop-i-init g c = value_cleared c.fill.new.self (λ k h. c.fill.ensures.clones k 0 (omega (arith, h, c.fill.ensures.len)) refl)

pub loop-i-preserved : goal.loop-i-preserved
loop-i-preserved g c =
    let m = g.E.Engine.means in
    let xs = c.args.cells.now in
    let ms = map m xs in
    let i = c.loop-i.i in
    let j = c.args.j in
    let lt : i < length xs = omega arith in
    let n : length ms ≡ length xs = length-map xs m in
    lane_more ms c.loop-i.block i (2 ^ j) (c.read.result / 2 ^ j % 2) (omega arith) (omega arith) c.loop-i.invariant
    (ap (λ x. x / 2 ^ j % 2) (c.read.ensures ∙ read_map m xs i _ lt c.index-cells-i.is) ∙ sym (dot_power j _) ∙ dot_comm (2 ^ j) _)
