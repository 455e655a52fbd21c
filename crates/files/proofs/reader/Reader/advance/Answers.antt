use Rattle.std.proofs.Common.{Err, sym, ap, ◌∙◌, subst}
use Rattle.std.proofs.lemmas.Result.{err_from_is_err_and}
use Rattle.files.specs.Steps.{state_of}
use Rattle.files.specs.Surveys.{Advanced}
use Rattle.files.proofs.Advance.{advanced, refused_by_look}
use Rattle.files.proofs.reader.Reader.advance.Goals as goal

pub returns-in_err-look-clause-moved : goal.returns-in_err-look-clause-moved
returns-in_err-look-clause-moved c =
    let r = c.args.self.now in
    let p = err_from_is_err_and c.from_residual.result c.from_residual.ensures.1 in
    subst (Advanced r.file.now (state_of r) (state_of r)) (sym p.1)
    (refused_by_look r.file.now (state_of r) c.requires p.0 (sym c.look.ensures ∙ c.in_err-look.was ∙ ap Err (sym p.2)))

pub returns-clause-moved : goal.returns-clause-moved
returns-clause-moved c =
    let r = c.args.self.now in
    advanced r.file.now (state_of r) c.requires (sym c.look.ensures ∙ c.in_ok-look.was) (state_of c.step.new.self) c.step.result c.step.ensures.step
