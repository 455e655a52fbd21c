use Rattle.std.proofs.Common.{◌≡◌, ◌+◌, ◌-◌, ◌*◌, length, take, drop, sym, ap, ◌∙◌, subst, ap₂, arith, rules, length-drop, length-take}
use borrow.Rule.Slice.PartMut.{put_mid}
use Rattle.std.specs.Iterator.Adapters.{enumerate_count, enumerate_source}
use Rattle.bits.specs.Gf2.{flat, width_of, words_of}
use Rattle.bits.proofs.Vectors.{length_words_of, row_ends}
use Rattle.files.specs.Format.{byte_rows, byte_value, byte_width_of}
use Rattle.files.proofs.Chunks.{Come, come_end, come_turn}
use Rattle.files.proofs.Inverting.{rows_below}
use Rattle.files.proofs.Pieces.{all_written, put_piece, rows_more}
use Rattle.files.proofs.rows.Rows.load.Goals as goal

pub slice_bounds-load_row-end : goal.slice_bounds-load_row-end
slice_bounds-load_row-end c =
    let t = come_turn (byte_width_of c.args.self.bits) (enumerate_count c.loop-i.i-iterator) c.args.self.count c.args.body.now (enumerate_source c.loop-i.i-iterator)
    (enumerate_source c.next.new.self) c.loop-i.invariant.come c.in-Some.row c.in-Some.ensures.steps.0 (omega arith) c.requires.body in
    let i : c.in-Some.i ≡ enumerate_count c.loop-i.i-iterator = c.in-Some.ensures.steps.1 in
    omega (arith, row_ends c.in-Some.i c.args.self.count c.width-w.result (omega (arith, t.0)), ap (λ k. c.args.self.count * k) c.width-w.ensures)

pub loop-i-preserved : goal.loop-i-preserved
loop-i-preserved c =
    let self = c.args.self in
    let s = byte_width_of self.bits in
    let j = enumerate_count c.loop-i.i-iterator in
    let i = c.in-Some.i in
    let w = c.width-w.result in
    let bs = c.args.body.now in
    let out = c.loop-i.out in
    let t = come_turn s j self.count bs (enumerate_source c.loop-i.i-iterator) (enumerate_source c.next.new.self) c.loop-i.invariant.come c.in-Some.row c.in-Some.ensures.steps.0 (omega arith) c.requires.body in
    let same : i ≡ j = c.in-Some.ensures.steps.1 in
    let next : enumerate_count c.next.new.self ≡ i + 1 = omega (arith, c.in-Some.ensures.steps.2) in
    let room : self.count * w ≡ self.count * width_of self.bits = ap (λ k. self.count * k) c.width-w.ensures in
    let e = row_ends i self.count w (omega (arith, t.0)) in
    let b : i * w + w - i * w ≡ w = omega arith in
    let part : length (take (i * w + w - i * w) (drop (i * w) out)) ≡ w = simp (length-take, length-drop) (omega arith) in
    let is : c.load_row.new.out ≡ words_of w (byte_value (take s (drop (i * s) bs))) =
    c.load_row.ensures ∙ ap₂ (λ k xs. words_of k (byte_value xs)) part (t.1 ∙ ap (λ k. take s (drop (k * s) bs)) (sym same)) in
    record {
      can = search rules;
      finite = search rules;
      come = subst (λ k. Come s k self.count bs (enumerate_source c.next.new.self)) (sym c.in-Some.ensures.steps.2) t.2;
      written = ap (λ k. take (k * w) (put_mid (i * w) (i * w + w - i * w) out c.load_row.new.out)) next
          ∙ put_piece w i (i * w + w - i * w) out c.load_row.new.out _ _ (omega arith) (ap length is ∙ length_words_of w _) b
          (ap (λ k. take (k * w) out) same ∙ c.loop-i.invariant.written ∙ ap (λ k. flat w (byte_rows s k bs)) (sym same)) is
          ∙ sym (rows_more s w i bs) ∙ ap (λ k. flat w (byte_rows s k bs)) (sym next);
    }

pub returns : goal.returns
returns c =
    let self = c.args.self in
    let s = byte_width_of self.bits in
    let j = enumerate_count c.loop-i.i-iterator in
    let w = c.width-w.result in
    let e : j ≡ self.count = come_end s j self.count c.args.body.now (enumerate_source c.loop-i.i-iterator) (enumerate_source c.next.new.self) c.loop-i.invariant.come c.in-None.ensures.steps.0 c.requires.body in
    let n : j * w ≡ self.count * width_of self.bits = ap₂ (λ k v. k * v) e c.width-w.ensures in
    record {
      written = all_written (j * w) c.loop-i.out _ (omega arith) c.loop-i.invariant.written ∙ ap₂ (λ v k. flat v (byte_rows s k c.args.body.now)) c.width-w.ensures e;
      fit = rows_below s self.count (64 * width_of self.bits) c.args.body.now (λ k. omega (arith, c.type_inv.body k)) (omega arith);
    }
