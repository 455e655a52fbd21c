use Rattle.std.proofs.Common.{◌≡◌, ◌*◌, ◌%◌, ◌^◌, map, length, drop}
use Rattle.std.specs.Slice.Iter.{chunks_rest, chunks_size}
use Rattle.std.specs.Iterator.Adapters.{enumerate_count, enumerate_source}
use Rattle.bits.specs.Gf2.{comb}
use Rattle.bits.specs.Gauss.{row_at}
use Rattle.batches.specs.Lanes.{table}
use Rattle.batches.proofs.wires.product.Given as goal

-- the groups so far are added, and the wires past them are left
abbrev pub invariant-loop-g : goal.invariant-loop-g
invariant-loop-g g l =
    let m = g.E.Engine.means in
    let k = enumerate_count l.g-iterator in
    let parts = enumerate_source l.g-iterator in
    record {
      size : chunks_size parts ≡ l.b;
      left : chunks_rest parts ≡ drop (l.b * k) l.from;
      added : map m l.to ≡ table (length l.initial.to) (λ i. comb (map m l.from) (row_at l.fn.m.width l.fn.m.words.now i % 2 ^ (l.b * k)));
    }
