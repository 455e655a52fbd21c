use Rattle.std.proofs.Common.{◌≡◌, ◌+◌, ◌-◌, ◌*◌, map, sym, ap, ◌∙◌, arith, length-drop, length-take}
use borrow.Rule.Slice.PartMut.{put_mid}
use Rattle.bits.specs.Gf2.{flat, rows}
use Rattle.bits.proofs.Vectors.{flat_rows, row_ends}
use Rattle.batches.specs.Lanes.{columns}
use Rattle.batches.proofs.Packing.{unload_more}
use Rattle.batches.proofs.lanes.unload.Goals as goal

pub loop-j-preserved : goal.loop-j-preserved
loop-j-preserved g c =
    let m = g.E.Engine.means in
    let j = c.loop-j.j in
    let w = c.args.w in
    let ms = map m c.args.cells.now in
    let xs = c.loop-j.blocks in
    let new = c.read_lane.new.block in
    let n : j * w + w - j * w ≡ w = omega arith in
    let room = row_ends j c.args.count w (omega arith) in
    ap (λ k. rows w (j + 1) (put_mid (j * w) k xs new)) n
    ∙ unload_more w j xs new ms (omega arith) (c.read_lane.auto.block ∙ simp (length-take, length-drop) (omega arith)) c.read_lane.ensures c.loop-j.invariant

pub returns : goal.returns
returns g c =
    let w = c.args.w in
    let ms = map g.E.Engine.means c.args.cells.now in
    let out = c.loop-j.blocks in
    let e : c.loop-j.j ≡ c.args.count = omega arith in
    sym (flat_rows w c.args.count out (c.loop-j.auto.blocks ∙ c.requires.size) c.fitting.ensures)
    ∙ ap (flat w) (ap (λ k. rows w k out) (sym e) ∙ c.loop-j.invariant ∙ ap (λ k. columns k ms) e)
