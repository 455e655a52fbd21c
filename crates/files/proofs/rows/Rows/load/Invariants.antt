use Rattle.std.proofs.Common.{◌≡◌, ◌*◌, take}
use Rattle.std.specs.Iterator.Adapters.{enumerate_count, enumerate_source}
use Rattle.bits.specs.Gf2.{flat}
use Rattle.files.specs.Format.{byte_rows, byte_width_of}
use Rattle.files.proofs.Chunks.{Come}
use Rattle.files.proofs.rows.Rows.load.Given as goal

abbrev pub invariant-loop-i : goal.invariant-loop-i
invariant-loop-i l =
    let i = enumerate_count l.i-iterator in
    let c = byte_width_of l.fn.self.bits in
    record {
      can : (goal.iterator-loop-i).can_next l.i-iterator;
      finite : (goal.iterator-loop-i).is_finite l.i-iterator;
      come : Come c i l.fn.self.count l.body (enumerate_source l.i-iterator);
      written : take (i * l.w) l.out ≡ flat l.w (byte_rows c i l.body);
    }
