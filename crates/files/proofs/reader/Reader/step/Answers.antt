-- On each way to the end the step is the definition's.
use Rattle.std.proofs.Common.{◌≡◌, Err, sym, refl, ap, ◌∙◌, subst, rules}
use Rattle.std.proofs.lemmas.Result.{err_from_is_err_and}
use Rattle.files.specs.Steps.{Stepped, state_of}
use Rattle.files.proofs.reader.Reader.step.Goals as goal
use Rattle.files.proofs.reader.Reader.step.Goals.{in-Header-Ok-Header+in_ok-check-in-Header-Ok-Header, in-End-Ok-End+else-at-file, in-Layer-Ok-Layer+in_ok-number-in-Layer-Ok-Layer, in-Layer+in-Ok+in-Layer-this-2, in-Constant+in-Ok+in-Constant-this-4, in-Key+in-Ok+in-Key-this-6}

pub returns-in_err-check-in-Header-Ok-Header-clause-step : goal.returns-in_err-check-in-Header-Ok-Header-clause-step
returns-in_err-check-in-Header-Ok-Header-clause-step c =
    let r = c.args.self.now in
    let q = err_from_is_err_and c.from_residual.result c.from_residual.ensures.1 in
    let e : c.check.result ≡ Err q.0 = c.in_err-check-in-Header-Ok-Header.was ∙ ap Err (sym q.2) in
    subst (Stepped r.file.now (state_of r) (state_of r)) (sym q.1) (search rules, refl)

pub returns-clause-step : goal.returns-clause-step
returns-clause-step c = elim c.match-due.branch [
  | in-Header-Ok-Header+in_ok-check-in-Header-Ok-Header w ↦ search rules
  | in-End-Ok-End+else-at-file w ↦ search rules
  | in-Layer-Ok-Layer+in_ok-number-in-Layer-Ok-Layer w ↦ elim w.in-Layer-Ok-Layer-1.branch [
    | in-Layer+in-Ok+in-Layer-this-2 v ↦ search rules
    | in-Constant+in-Ok+in-Constant-this-4 v ↦ search rules
    | in-Key+in-Ok+in-Key-this-6 v ↦ search rules
  ]
]
