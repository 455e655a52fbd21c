use Rattle.bits.specs.Gauss.{Carried, Solved, row_at}
use Rattle.bits.proofs.elimination.eliminate.Given as goal

abbrev pub invariant-loop-c : goal.invariant-loop-c
invariant-loop-c l = Solved l.n l.c (row_at l.width l.work) × Carried l.n (row_at l.width l.initial.work) (row_at l.width l.work)
