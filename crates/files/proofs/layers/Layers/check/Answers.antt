use Rattle.std.proofs.Common.{◌≡◌, ◌+◌, ◌-◌, ◌*◌, ◌++◌, length, take, drop, sym, ap, ◌∙◌, subst, ap₂, arith, rules}
use Rattle.std.specs.Iterator.Adapters.{enumerate_count, enumerate_source}
use Rattle.std.proofs.lemmas.List.{length-take-le, take_rest}
use Rattle.bits.specs.declared.refusal.Refusal.TheVariants.{LayerCollapses}
use Rattle.bits.specs.declared.refusal.Layer.TheVariants.{Set as SetLayer}
use Rattle.bits.specs.Refusals.{fault_at}
use Rattle.bits.specs.Gf2.{Witness}
use Rattle.cipher.specs.Sets.{Each}
use Rattle.cipher.specs.Laws.{Invertible}
use Rattle.files.specs.Format.{byte_rows, byte_width_of, matrices_of, record_size}
use Rattle.files.proofs.Chunks.{Come, body_at, come_end, come_turn}
use Rattle.files.proofs.Inverting.{each_more, matrix_at, matrix_at_is}
use Rattle.files.proofs.layers.Layers.check.Goals as goal

pub returns-in-Err : goal.returns-in-Err
returns-in-Err c =
    let n = c.args.self.now.n in
    let s = byte_width_of n in
    let r = c.args.self.now.count in
    let bs = c.args.self.now.bytes.now in
    let j = enumerate_count c.loop-j.j-iterator in
    let t = come_turn (record_size s n) j r (take (r * record_size s n) bs) (enumerate_source c.loop-j.j-iterator) (enumerate_source c.next.new.self) c.loop-j.invariant.come c.in-Some.record
    c.in-Some.ensures.steps.0 (omega arith) (length-take-le (r * record_size s n) bs c.args.self.now.whole) in
    let x = c.in-Some.record.now in
    let is : byte_rows s n (take (length x - 3) (drop 3 x)) ≡ matrix_at s n j bs = ap (byte_rows s n) (take_rest x 3 ∙ ap (drop 3) t.1) ∙ body_at s n j r bs t.0 in
    let same : c.in-Some.j ≡ j = c.in-Some.ensures.steps.1 in
    let found = c.in-Err.ensures in
    record {
      round = j;
      vector = found.vector;
      most = t.0;
      collapses = subst (λ L. Witness L found.vector) (is ∙ sym (matrix_at_is s n r j bs t.0)) found.collapses;
      refused = c.at.ensures ∙ ap (λ k. fault_at LayerCollapses SetLayer (k + 1)) same;
      written = ap₂ (λ xs ys. xs ++ drop 4 ys) (c.copy_from_slice.ensures.after ∙ found.is) c.loop-j.invariant.kept;
    }

pub loop-j-preserved : goal.loop-j-preserved
loop-j-preserved c =
    let n = c.args.self.now.n in
    let s = byte_width_of n in
    let r = c.args.self.now.count in
    let bs = c.args.self.now.bytes.now in
    let j = enumerate_count c.loop-j.j-iterator in
    let t = come_turn (record_size s n) j r (take (r * record_size s n) bs) (enumerate_source c.loop-j.j-iterator) (enumerate_source c.next.new.self) c.loop-j.invariant.come c.in-Some.record
    c.in-Some.ensures.steps.0 (omega arith) (length-take-le (r * record_size s n) bs c.args.self.now.whole) in
    let x = c.in-Some.record.now in
    let is : byte_rows s n (take (length x - 3) (drop 3 x)) ≡ matrix_at s n j bs = ap (byte_rows s n) (take_rest x 3 ∙ ap (drop 3) t.1) ∙ body_at s n j r bs t.0 in
    let next : enumerate_count c.next.new.self ≡ j + 1 = c.in-Some.ensures.steps.2 in
    record {
      can = search rules;
      finite = search rules;
      come = subst (λ k. Come (record_size s n) k r (take (r * record_size s n) bs) (enumerate_source c.next.new.self)) (sym next) t.2;
      fine = subst (λ k. Each Invertible (matrices_of s n k bs)) (sym next) (each_more s n j bs c.loop-j.invariant.fine (subst Invertible is c.in_default.ensures));
      kept = c.loop-j.invariant.kept;
    }

pub returns : goal.returns
returns c =
    let n = c.args.self.now.n in
    let s = byte_width_of n in
    let r = c.args.self.now.count in
    let bs = c.args.self.now.bytes.now in
    let j = enumerate_count c.loop-j.j-iterator in
    let e : j ≡ r = come_end (record_size s n) j r (take (r * record_size s n) bs) (enumerate_source c.loop-j.j-iterator) (enumerate_source c.next.new.self) c.loop-j.invariant.come
    c.in-None.ensures.steps.0 (length-take-le (r * record_size s n) bs c.args.self.now.whole) in
    (subst (λ k. Each Invertible (matrices_of s n k bs)) e c.loop-j.invariant.fine, c.loop-j.invariant.kept)
