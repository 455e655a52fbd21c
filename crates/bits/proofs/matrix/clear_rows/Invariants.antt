use Rattle.std.proofs.Common.{◌≡◌, ◌*◌, ◌^◌, map, length, drop}
use Rattle.bits.specs.Gf2.{value, rows}
use Rattle.bits.specs.Gauss.{clear}
use Rattle.bits.proofs.matrix.clear_rows.Given as goal

abbrev pub invariant-loop-i : goal.invariant-loop-i
invariant-loop-i l =
    (rows (length l.row) l.i l.rest ≡ map (clear (2 ^ l.j) (value l.row)) (rows (length l.row) l.i l.initial.rest))
    × (drop (l.i * length l.row) l.rest ≡ drop (l.i * length l.row) l.initial.rest)
