use Rattle.std.proofs.Common.{◌≡◌, ◌+◌, ◌-◌, ◌*◌, length, take, drop, sym, ap, ◌∙◌, subst, ap₂, arith, rules}
use borrow.Rule.Slice.PartMut.{put_mid}
use Rattle.std.specs.Iterator.Adapters.{enumerate_count, enumerate_source}
use Rattle.std.proofs.lemmas.List.{length-take-le, take_rest}
use Rattle.bits.specs.Gf2.{flat, width_of}
use Rattle.bits.proofs.Vectors.{length_flat, row_ends}
use Rattle.cipher.specs.Sets.{joined}
use Rattle.files.specs.Format.{byte_rows, byte_width_of, matrices_of, record_size}
use Rattle.files.proofs.Chunks.{Come, body_at, come_end, come_turn}
use Rattle.files.proofs.Pieces.{all_written, length_byte_rows, put_piece, records_more}
use Rattle.files.proofs.rows.Rows.load_records.Goals as goal

pub slice_bounds-load-end-in-loop-j : goal.slice_bounds-load-end-in-loop-j
slice_bounds-load-end-in-loop-j c =
    let s = record_size (byte_width_of c.args.self.bits) c.args.self.count in
    let r = c.args.records in
    let t = come_turn s (enumerate_count c.loop-j.j-iterator) r (take (r * s) c.args.bytes.now) (enumerate_source c.loop-j.j-iterator) (enumerate_source c.next.new.self)
    c.loop-j.invariant.come c.in-Some.record c.in-Some.ensures.steps.0 (omega arith) (length-take-le (r * s) c.args.bytes.now c.requires.bytes) in
    let j : c.in-Some.j ≡ enumerate_count c.loop-j.j-iterator = c.in-Some.ensures.steps.1 in
    omega (arith, row_ends c.in-Some.j r c.words-piece.result (omega (arith, t.0)), ap (λ k. r * k) c.words-piece.ensures)

pub loop-j-preserved : goal.loop-j-preserved
loop-j-preserved c =
    let self = c.args.self in
    let b = byte_width_of self.bits in
    let n = self.count in
    let w = width_of self.bits in
    let s = record_size b n in
    let r = c.args.records in
    let i = enumerate_count c.loop-j.j-iterator in
    let j = c.in-Some.j in
    let p = c.words-piece.result in
    let bs = c.args.bytes.now in
    let out = c.loop-j.out in
    let t = come_turn s i r (take (r * s) bs) (enumerate_source c.loop-j.j-iterator) (enumerate_source c.next.new.self) c.loop-j.invariant.come c.in-Some.record c.in-Some.ensures.steps.0 (omega arith)
    (length-take-le (r * s) bs c.requires.bytes) in
    let same : j ≡ i = c.in-Some.ensures.steps.1 in
    let next : enumerate_count c.next.new.self ≡ j + 1 = omega (arith, c.in-Some.ensures.steps.2) in
    let below = t.0 in
    let e = row_ends j r p (omega arith) in
    let room : r * p ≡ r * (n * w) = ap (λ k. r * k) c.words-piece.ensures in
    let k : j * p + p - j * p ≡ p = omega arith in
    let is : c.load.new.out ≡ flat w (byte_rows b n (drop (i * s + 3) bs)) =
    c.load.ensures.written ∙ ap (λ xs. flat w (byte_rows b n xs)) (take_rest c.in-Some.record.now 3 ∙ ap (drop 3) t.1) ∙ ap (flat w) (body_at b n i r bs t.0) in
    record {
      can = search rules;
      finite = search rules;
      come = subst (λ k. Come s k r (take (r * s) bs) (enumerate_source c.next.new.self)) (sym c.in-Some.ensures.steps.2) t.2;
      written = ap (λ k. take (k * p) (put_mid (j * p) (j * p + p - j * p) out c.load.new.out)) next
          ∙ put_piece p j (j * p + p - j * p) out c.load.new.out _ _ (omega arith)
          (ap length is ∙ length_flat w (byte_rows b n (drop (i * s + 3) bs)) ∙ ap (λ k. k * w) (length_byte_rows b n (drop (i * s + 3) bs)) ∙ sym c.words-piece.ensures) k
          (ap (λ k. take (k * p) out) same ∙ c.loop-j.invariant.written) is
          ∙ sym (records_more b n w i bs) ∙ ap (λ k. flat w (joined (matrices_of b n k bs))) (sym c.in-Some.ensures.steps.2);
    }

pub returns : goal.returns
returns c =
    let self = c.args.self in
    let b = byte_width_of self.bits in
    let s = record_size b self.count in
    let r = c.args.records in
    let j = enumerate_count c.loop-j.j-iterator in
    let p = c.words-piece.result in
    let e : j ≡ r = come_end s j r (take (r * s) c.args.bytes.now) (enumerate_source c.loop-j.j-iterator) (enumerate_source c.next.new.self) c.loop-j.invariant.come c.in-None.ensures.steps.0 (length-take-le (r * s) c.args.bytes.now c.requires.bytes) in
    let n : j * p ≡ r * (self.count * width_of self.bits) = ap₂ (λ k v. k * v) e c.words-piece.ensures in
    all_written (j * p) c.loop-j.out _ (omega arith) c.loop-j.invariant.written ∙ ap (λ k. flat (width_of self.bits) (joined (matrices_of b self.count k c.args.bytes.now))) e
