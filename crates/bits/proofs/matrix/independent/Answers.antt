use Rattle.std.proofs.Common.{sym, subst}
use Rattle.bits.specs.Gf2.{Independent}
use Rattle.bits.proofs.Vectors.{rows_copied}
use Rattle.bits.proofs.matrix.independent.Goals as goal

pub returns : goal.returns
returns c =
    let m = c.args.m in
    let same = rows_copied m.width m.height m.words.now c.copy_from_slice.new.self _ m.fits c.copy_from_slice.ensures.after in
    record { sound = λ t. subst Independent same (c.independent_in.ensures.sound t); complete = λ i. c.independent_in.ensures.complete (subst Independent (sym same) i) }
