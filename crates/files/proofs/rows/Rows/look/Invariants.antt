use Rattle.std.proofs.Common.{◌≡◌, ◌+◌, ◌-◌, ◌*◌, drop}
use Rattle.std.specs.Iterator.Adapters.{enumerate_count, enumerate_source, take_count, take_source}
use Rattle.files.specs.Format.{byte_width_of}
use Rattle.files.specs.Faults.{body_slots, seen}
use Rattle.files.proofs.Chunks.{Come}
use Rattle.files.proofs.rows.Rows.look.Given as goal

abbrev pub invariant-loop-i : goal.invariant-loop-i
invariant-loop-i l =
    let s = enumerate_source l.i-iterator in
    let i = enumerate_count l.i-iterator in
    let rows = l.fn.self in
    let c = byte_width_of rows.bits in
    record {
      can : (goal.iterator-loop-i).can_next l.i-iterator;
      finite : (goal.iterator-loop-i).is_finite l.i-iterator;
      come : Come c i rows.count l.bytes (take_source s);
      left : i + take_count s ≡ rows.count;
      fine : seen (l.at + i * c) (body_slots c rows.bits (rows.count - i)) (drop (i * c) l.bytes) ≡ seen l.at (body_slots c rows.bits rows.count) l.bytes;
    }
