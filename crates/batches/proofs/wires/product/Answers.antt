use Rattle.std.proofs.Common.{◌≡◌, ◌+◌, ◌*◌, ◌/◌, ◌%◌, ◌^◌, min, ◌++◌, map, length, get_or, drop, replicate, sym, ap, ◌∙◌, ap₂, mul-zero, arith, length-drop}
use lib.Bits.{bit_xor}
use lib.ListN.{length-map}
use Rattle.std.specs.Slice.Iter.{chunks_rest, chunks_size}
use Rattle.std.specs.Iterator.Adapters.{enumerate_count, enumerate_source}
use Rattle.bits.specs.Gf2.{comb, rows}
use Rattle.bits.specs.Gauss.{row_at}
use Rattle.cipher.specs.Instances.{times}
use Rattle.batches.specs.Lanes.{table}
use Rattle.batches.proofs.Packing.{after_part, comb_part, groups_all, groups_more, none_picked}
use Rattle.batches.proofs.wires.product.Goals as goal

pub loop-g-init : goal.loop-g-init
loop-g-init g c =
    let ms = map g.E.Engine.means c.args.from.now in
    let n = length c.clear.new.cells in
    let w = c.args.m.width in
    let b = c.group_size-b.result in
    let ws = c.args.m.words.now in
    let same = c.into_iter-g-iterator.ensures.into_iter_gives in
    let source = ap enumerate_source same ∙ c.enumerate-g-items.ensures.source in
    let none : enumerate_count c.into_iter-g-iterator.result ≡ 0 = ap enumerate_count same ∙ c.enumerate-g-items.ensures.count in
    record {
      size = ap chunks_size source ∙ c.chunks.ensures.size;
      left = ap chunks_rest source ∙ c.chunks.ensures.rest ∙ ap (λ i. drop i c.args.from.now) (sym (ap (λ i. b * i) none ∙ mul-zero b));
      added =
          c.clear.ensures ∙ ap (λ k. replicate k 0) (sym c.clear.auto.cells) ∙ none_picked n w b ws ms
          ∙ ap (λ k. table n (λ i. comb ms (row_at w ws i % 2 ^ (b * k)))) (sym none);
    }

pub loop-g-preserved : goal.loop-g-preserved
loop-g-preserved g c =
    let m = g.E.Engine.means in
    let from = c.args.from.now in
    let ms = map m from in
    let k = c.in-Some.g in
    let b = c.group_size-b.result in
    let w = c.args.m.width in
    let ws = c.args.m.words.now in
    let s = c.in-Some.ensures.steps in
    let inv = c.loop-g.invariant in
    let ys = c.in-Some.wires.now in
    let zs = chunks_rest (enumerate_source c.next.new.self) in
    let n : length c.loop-g.to ≡ length c.clear.new.cells = c.loop-g.auto.to in
    let left : chunks_rest (enumerate_source c.loop-g.g-iterator) ≡ drop (b * k) from = inv.left ∙ ap (λ i. drop (b * i) from) (sym s.1) in
    let more : enumerate_count c.next.new.self ≡ k + 1 = s.2 ∙ ap (λ i. i + 1) (sym s.1) in
    let parts : drop (b * k) from ≡ ys ++ zs = sym left ∙ s.0.1.0 in
    let few : length ys ≡ min b (length (drop (b * k) from)) = s.0.1.1 ∙ ap₂ min inv.size (ap length left) in
    record {
      size = s.0.0 ∙ inv.size;
      left = after_part b k from ys zs parts few ∙ ap (λ i. drop (b * i) from) (sym more);
      added =
          c.add_group.ensures
          ∙ ap (λ l. table l (λ i. bit_xor (get_or (map m c.loop-g.to) i 0) (get_or (map m c.sum_ways.new.sums) (row_at w ws i / 2 ^ (b * k) % 2 ^ b) 0))) n
          ∙ groups_more (length c.clear.new.cells) w b k ws ms (map m c.loop-g.to) (map m c.sum_ways.new.sums)
          (inv.added ∙ ap (λ j. table (length c.clear.new.cells) (λ i. comb ms (row_at w ws i % 2 ^ (b * j)))) (sym s.1))
          (λ t h. c.sum_ways.ensures t h ∙ comb_part b k from ys zs parts few m t h)
          ∙ ap (λ j. table (length c.clear.new.cells) (λ i. comb ms (row_at w ws i % 2 ^ (b * j)))) (sym more);
    }

pub returns : goal.returns
returns g c =
    let m = g.E.Engine.means in
    let xs = c.args.from.now in
    let ms = map m xs in
    let w = c.args.m.width in
    let b = c.group_size-b.result in
    let ws = c.args.m.words.now in
    let k = enumerate_count c.loop-g.g-iterator in
    let len : length ms ≡ length xs = length-map xs m in
    let none : length (drop (b * k) xs) ≡ 0 = sym (ap length c.loop-g.invariant.left) ∙ c.in-None.ensures.steps.0.1.0 in
    c.loop-g.invariant.added ∙ groups_all (length c.clear.new.cells) w (b * k) ws ms (omega (arith, len, none, length-drop (b * k) xs))
    ∙ ap (λ k. times (rows w k ws) ms) (c.clear.auto.cells ∙ c.requires.tall)
