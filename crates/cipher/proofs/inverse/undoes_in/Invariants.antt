use Rattle.std.proofs.Common.{◌≡◌, ◌-◌, ◌*◌, ◌^◌, length, drop}
use Rattle.bits.specs.Gf2.{rows}
use Rattle.bits.specs.Matrices.{rows_in}
use Rattle.cipher.specs.Instances.{same, times, units}
use Rattle.cipher.proofs.inverse.undoes_in.Given as goal

-- the rows that are left decide
abbrev pub invariant-loop-j : goal.invariant-loop-j
invariant-loop-j l =
    let m = l.fn.inverse in
    let j = length l.yielded in
    same (times (rows m.width (m.height - j) (drop (j * m.width) m.words.now)) (rows_in l.fn.layer)) (units (2 ^ j) (m.height - j))
    ≡ same (times (rows_in m) (rows_in l.fn.layer)) (units 1 m.height)
