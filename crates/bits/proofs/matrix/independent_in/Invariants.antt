use Rattle.std.proofs.Common.{◌≡◌, ◌-◌, ◌*◌, length}
use Rattle.bits.specs.Gf2.{rows, Independent}
use Rattle.bits.proofs.matrix.independent_in.Given as goal

-- the rows that are left are independent just where all are
abbrev pub invariant-loop-i : goal.invariant-loop-i
invariant-loop-i l =
    ((Independent (rows l.w (l.count - l.i) l.rest) → Independent (rows l.w l.count l.initial.rest))
    × (Independent (rows l.w l.count l.initial.rest) → Independent (rows l.w (l.count - l.i) l.rest)))
    × (length l.rest ≡ (l.count - l.i) * l.w)
