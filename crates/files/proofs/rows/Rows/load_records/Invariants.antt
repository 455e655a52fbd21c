use Rattle.std.proofs.Common.{◌≡◌, ◌*◌, take}
use Rattle.std.specs.Iterator.Adapters.{enumerate_count, enumerate_source}
use Rattle.bits.specs.Gf2.{flat, width_of}
use Rattle.cipher.specs.Sets.{joined}
use Rattle.files.specs.Format.{byte_width_of, matrices_of, record_size}
use Rattle.files.proofs.Chunks.{Come}
use Rattle.files.proofs.rows.Rows.load_records.Given as goal

abbrev pub invariant-loop-j : goal.invariant-loop-j
invariant-loop-j l =
    let j = enumerate_count l.j-iterator in
    let c = byte_width_of l.fn.self.bits in
    let n = l.fn.self.count in
    record {
      can : (goal.iterator-loop-j).can_next l.j-iterator;
      finite : (goal.iterator-loop-j).is_finite l.j-iterator;
      come : Come (record_size c n) j l.fn.records (take (l.fn.records * record_size c n) l.fn.bytes) (enumerate_source l.j-iterator);
      written : take (j * l.piece) l.out ≡ flat (width_of l.fn.self.bits) (joined (matrices_of c n j l.fn.bytes));
    }
