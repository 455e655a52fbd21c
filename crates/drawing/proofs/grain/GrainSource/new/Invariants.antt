use Rattle.std.proofs.Common.{◌≡◌}
use Rattle.drawing.specs.Grain.{ones, shifted}
use Rattle.drawing.proofs.grain.GrainSource.new.Given as goal

abbrev pub invariant-loop-i : goal.invariant-loop-i
invariant-loop-i l = l.source.register ≡ shifted l._i ones
