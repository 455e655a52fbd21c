use Rattle.std.proofs.Common.{◌≡◌, ℕ, ◌+◌, ◌*◌, ◌^◌, ◌<◌, length}
use Rattle.bits.specs.Gauss.{row_at}
use Rattle.bits.proofs.elimination.augment.Given as goal

abbrev pub invariant-loop-i : goal.invariant-loop-i
invariant-loop-i l =
    (k : ℕ) → k < length l.yielded → row_at (2 * l.fn.layer.width) l.work k ≡ row_at l.fn.layer.width l.fn.layer.words.now k + 2 ^ (64 * l.fn.layer.width) * 2 ^ k
