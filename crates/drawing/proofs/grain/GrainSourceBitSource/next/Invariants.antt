use Rattle.std.proofs.Common.{◌≡◌, ◌-◌}
use Rattle.drawing.specs.Grain.{given}
use Rattle.drawing.proofs.grain.GrainSourceBitSource.next.Given as goal

abbrev pub invariant-loop-pair : goal.invariant-loop-pair
invariant-loop-pair l = (given (80 - l._pair) l.ahead.register ≡ given 80 l.initial.self.register) × (l.self ≡ l.initial.self)
