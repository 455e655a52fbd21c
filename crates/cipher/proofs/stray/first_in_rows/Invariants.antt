use Rattle.std.proofs.Common.{◌≡◌, ◌-◌, ◌*◌, length, drop}
use Rattle.cipher.specs.Instances.{first_stray_of, many_limits}
use Rattle.cipher.proofs.stray.first_in_rows.Given as goal

-- the rows that are left decide
abbrev pub invariant-loop-j : goal.invariant-loop-j
invariant-loop-j l =
    let m = l.fn.m in
    let j = length l.yielded in
    first_stray_of (j * m.width) (many_limits m.width l.bits (m.height - j)) (drop (j * m.width) m.words.now) ≡ first_stray_of 0 (many_limits m.width l.bits m.height) m.words.now
