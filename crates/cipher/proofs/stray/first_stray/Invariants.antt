use Rattle.std.proofs.Common.{◌≡◌, ◌-◌, length, drop}
use Rattle.cipher.specs.Instances.{first_stray_of, row_limits}
use Rattle.cipher.proofs.stray.first_stray.Given as goal

-- what is left to look at gives what all gives
abbrev pub invariant-loop-i : goal.invariant-loop-i
invariant-loop-i l = first_stray_of l.i (row_limits (length l.words - l.i) l.left) (drop l.i l.words) ≡ first_stray_of 0 (row_limits (length l.words) l.bits) l.words
