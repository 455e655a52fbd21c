use Rattle.std.proofs.Common.{◌≡◌, ℕ, ◌*◌, ◌/◌, ◌^◌, ◌<◌, length}
use Rattle.bits.specs.Gauss.{row_at}
use Rattle.bits.proofs.elimination.write_out.Given as goal

abbrev pub invariant-loop-i : goal.invariant-loop-i
invariant-loop-i l = (k : ℕ) → k < length l.yielded → row_at l.w l.out k ≡ row_at (2 * l.w) l.fn.work.words.now k / 2 ^ (64 * l.w)
