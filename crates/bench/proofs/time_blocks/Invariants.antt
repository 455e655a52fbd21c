use Rattle.std.proofs.Common.{◌≡◌, length}
use Rattle.bench.proofs.time_blocks.Given as goal

abbrev pub invariant-loop : goal.invariant-loop
invariant-loop l = length l.work ≡ 8
