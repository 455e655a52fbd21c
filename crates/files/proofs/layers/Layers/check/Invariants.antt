use Rattle.std.proofs.Common.{◌≡◌, ◌*◌, take}
use Rattle.std.specs.Iterator.Adapters.{enumerate_count, enumerate_source}
use Rattle.cipher.specs.Sets.{Each}
use Rattle.files.specs.Format.{byte_width_of, matrices_of, record_size}
use Rattle.cipher.specs.Laws.{Invertible}
use Rattle.files.proofs.Chunks.{Come}
use Rattle.files.proofs.layers.Layers.check.Given as goal

abbrev pub invariant-loop-j : goal.invariant-loop-j
invariant-loop-j l =
    let j = enumerate_count l.j-iterator in
    let n = l.self.n in
    let c = byte_width_of n in
    record {
      can : (goal.iterator-loop-j).can_next l.j-iterator;
      finite : (goal.iterator-loop-j).is_finite l.j-iterator;
      come : Come (record_size c n) j l.self.count (take (l.self.count * record_size c n) l.self.bytes.now) (enumerate_source l.j-iterator);
      fine : Each Invertible (matrices_of c n j l.self.bytes.now);
      kept : l.witness ≡ l.initial.witness;
    }
