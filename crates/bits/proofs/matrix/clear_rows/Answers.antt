use Rattle.std.proofs.Common.{◌≡◌, ◌+◌, ◌-◌, ◌*◌, ◌^◌, length, take, drop, ap, ◌∙◌, arith, length-drop, length-take}
use Rattle.bits.specs.Gf2.{value}
use Rattle.bits.specs.Gauss.{clear}
use Rattle.bits.proofs.Vectors.{row_ends, clear_step}
use Rattle.bits.proofs.matrix.clear_rows.Goals as goal

pub loop-i-preserved : goal.loop-i-preserved
loop-i-preserved c =
    let i = c.loop-i.i in
    let w = length c.args.row.now in
    let t = clear (2 ^ c.args.j) (value c.args.row.now) in
    let e = row_ends i c.args.count w (omega arith) in
    let n : i * w + w - i * w ≡ w = omega arith in
    let v : value c.clear_row.new.s ≡ t (value (take w (drop (i * w) c.loop-i.rest))) = c.clear_row.ensures ∙ ap (λ k. t (value (take k (drop (i * w) c.loop-i.rest)))) n in
    rw n (clear_step t w i c.loop-i.rest c.args.rest.now c.clear_row.new.s (omega arith) (omega (arith, simp (length-take, length-drop) at c.clear_row.auto.s)) v c.loop-i.invariant.0 c.loop-i.invariant.1)
