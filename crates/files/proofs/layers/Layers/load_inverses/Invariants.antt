use Rattle.std.proofs.Common.{◌≡◌, ◌*◌, map, take}
use Rattle.std.specs.Iterator.Adapters.{enumerate_count, enumerate_source}
use Rattle.bits.specs.Gf2.{flat, inverse_of, width_of}
use Rattle.cipher.specs.Sets.{joined}
use Rattle.files.specs.Format.{byte_width_of, matrices_of, record_size}
use Rattle.files.proofs.Chunks.{Come}
use Rattle.files.proofs.layers.Layers.load_inverses.Given as goal

abbrev pub invariant-loop-j : goal.invariant-loop-j
invariant-loop-j l =
    let j = enumerate_count l.j-iterator in
    let n = l.self.n in
    let c = byte_width_of n in
    record {
      can : (goal.iterator-loop-j).can_next l.j-iterator;
      finite : (goal.iterator-loop-j).is_finite l.j-iterator;
      come : Come (record_size c n) j l.self.count (take (l.self.count * record_size c n) l.self.bytes.now) (enumerate_source l.j-iterator);
      written : take (j * (n * width_of n)) l.out ≡ flat (width_of n) (joined (map inverse_of (matrices_of c n j l.self.bytes.now)));
    }
