use Rattle.bits.specs.Matrices.{rows_in}
use Rattle.drawing.proofs.Keeping.{key_judged}
use Rattle.drawing.proofs.keep.IndependenceKeep.keeps.Goals as goal

pub returns-clause-passes : goal.returns-clause-passes
returns-clause-passes c = key_judged (rows_in c.args.m) c.independent.result c.independent.ensures.sound c.independent.ensures.complete
