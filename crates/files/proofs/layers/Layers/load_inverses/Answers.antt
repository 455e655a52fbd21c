use Rattle.std.proofs.Common.{◌≡◌, ◌+◌, ◌-◌, ◌*◌, [], map, length, take, drop, sym, ap, ◌∙◌, subst, ap₂, arith, rules, length-drop, length-take}
use borrow.Rule.Slice.PartMut.{put_mid}
use Rattle.std.specs.Iterator.Adapters.{enumerate_count, enumerate_source}
use Rattle.std.proofs.lemmas.List.{length-take-le, take_rest}
use Rattle.bits.specs.Gf2.{flat, inverse_of, width_of}
use Rattle.bits.proofs.Vectors.{row_ends}
use Rattle.cipher.specs.Sets.{joined}
use Rattle.files.specs.Format.{byte_rows, byte_width_of, matrices_of, record_size}
use Rattle.cipher.specs.Laws.{Invertible}
use Rattle.files.proofs.Chunks.{Come, body_at, come_end, come_turn}
use Rattle.files.proofs.Inverting.{each_at, inverses_more, inverted, length_matrices, matrix_at, matrix_at_is}
use Rattle.files.proofs.Pieces.{all_written, put_piece}
use Rattle.files.proofs.layers.Layers.load_inverses.Goals as goal

pub slice_bounds-invert-end-in-loop-j : goal.slice_bounds-invert-end-in-loop-j
slice_bounds-invert-end-in-loop-j c =
    let n = c.args.self.now.n in
    let s = byte_width_of n in
    let p = c.words-piece.result in
    let r = c.args.self.now.count in
    let bs = c.args.self.now.bytes.now in
    let t = come_turn (record_size s n) (enumerate_count c.loop-j.j-iterator) r (take (r * record_size s n) bs) (enumerate_source c.loop-j.j-iterator) (enumerate_source c.next.new.self)
    c.loop-j.invariant.come c.in-Some.record c.in-Some.ensures.steps.0 (omega arith) (length-take-le (r * record_size s n) bs c.args.self.now.whole) in
    let j : c.in-Some.j ≡ enumerate_count c.loop-j.j-iterator = c.in-Some.ensures.steps.1 in
    let is-p : p ≡ n * width_of n = c.words-piece.ensures ∙ ap₂ (λ k b. k * width_of b) c.rows-rows.ensures.0 c.rows-rows.ensures.1 in
    omega (arith, row_ends c.in-Some.j r p (omega (arith, t.0)), ap (λ k. r * k) is-p)

pub loop-j-preserved : goal.loop-j-preserved
loop-j-preserved c =
    let n = c.args.self.now.n in
    let s = byte_width_of n in
    let v = width_of n in
    let p = c.words-piece.result in
    let i = enumerate_count c.loop-j.j-iterator in
    let j = c.in-Some.j in
    let r = c.args.self.now.count in
    let bs = c.args.self.now.bytes.now in
    let out = c.loop-j.out in
    let x = c.in-Some.record.now in
    let t = come_turn (record_size s n) i r (take (r * record_size s n) bs) (enumerate_source c.loop-j.j-iterator) (enumerate_source c.next.new.self) c.loop-j.invariant.come c.in-Some.record
    c.in-Some.ensures.steps.0 (omega arith) (length-take-le (r * record_size s n) bs c.args.self.now.whole) in
    let same : j ≡ i = c.in-Some.ensures.steps.1 in
    let next : enumerate_count c.next.new.self ≡ j + 1 = omega (arith, c.in-Some.ensures.steps.2) in
    let below = t.0 in
    let read : byte_rows s n (take (length x - 3) (drop 3 x)) ≡ matrix_at s n i bs = ap (byte_rows s n) (take_rest x 3 ∙ ap (drop 3) t.1) ∙ body_at s n i r bs t.0 in
    let e = row_ends j r p (omega arith) in
    let is-p : p ≡ n * v = c.words-piece.ensures ∙ ap₂ (λ k b. k * width_of b) c.rows-rows.ensures.0 c.rows-rows.ensures.1 in
    let room : r * p ≡ r * (n * v) = ap (λ k. r * k) is-p in
    let k : j * p + p - j * p ≡ p = omega arith in
    let inv : Invertible (matrix_at s n i bs) =
    subst Invertible (matrix_at_is s n r i bs t.0) (each_at Invertible (matrices_of s n r bs) i [] (omega (arith, length_matrices s n r bs)) c.requires.invertible) in
    let is : c.invert.new.inverse ≡ flat v (inverse_of (matrix_at s n j bs)) =
    inverted v _ (matrix_at s n i bs) _ _ _ _ _ read inv c.invert.ensures ∙ ap (λ m. flat v (inverse_of (matrix_at s n m bs))) (sym same) in
    record {
      can = search rules;
      finite = search rules;
      come = subst (λ m. Come (record_size s n) m r (take (r * record_size s n) bs) (enumerate_source c.next.new.self)) (sym c.in-Some.ensures.steps.2) t.2;
      written = ap₂ (λ m y. take (m * y) (put_mid (j * p) (j * p + p - j * p) out c.invert.new.inverse)) next (sym is-p)
          ∙ put_piece p j (j * p + p - j * p) out c.invert.new.inverse _ _ (omega arith) (omega (arith, simp (length-take, length-drop) at c.invert.auto.inverse)) k
          (ap₂ (λ m y. take (m * y) out) same is-p ∙ c.loop-j.invariant.written ∙ ap (λ m. flat v (joined (map inverse_of (matrices_of s n m bs)))) (sym same)) is
          ∙ sym (inverses_more s n v j bs) ∙ ap (λ m. flat v (joined (map inverse_of (matrices_of s n m bs)))) (sym next);
    }

pub returns : goal.returns
returns c =
    let n = c.args.self.now.n in
    let s = byte_width_of n in
    let v = width_of n in
    let r = c.args.self.now.count in
    let bs = c.args.self.now.bytes.now in
    let j = enumerate_count c.loop-j.j-iterator in
    let e : j ≡ r = come_end (record_size s n) j r (take (r * record_size s n) bs) (enumerate_source c.loop-j.j-iterator) (enumerate_source c.next.new.self) c.loop-j.invariant.come
    c.in-None.ensures.steps.0 (length-take-le (r * record_size s n) bs c.args.self.now.whole) in
    let all : j * (n * v) ≡ r * (n * v) = ap (λ k. k * (n * v)) e in
    all_written (j * (n * v)) c.loop-j.out _ (omega (arith, c.requires.room)) c.loop-j.invariant.written ∙ ap (λ k. flat v (joined (map inverse_of (matrices_of s n k bs)))) e
