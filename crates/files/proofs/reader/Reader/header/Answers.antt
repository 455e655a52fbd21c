use Rattle.std.proofs.Common.{◌≡◌, IfOk, Ok, Err, sym, ap, ◌∙◌, subst}
use Rattle.std.proofs.lemmas.Result.{err_from_is_err_and}
use Rattle.files.specs.Steps.{Stepped, after_header, state_of, step_of}
use Rattle.files.proofs.Verdict.{header_read, header_refused}
use Rattle.files.proofs.reader.Reader.header.Goals as goal

pub returns-in_err-step : goal.returns-in_err-step
returns-in_err-step c =
    let r = c.args.self.now in
    let p = err_from_is_err_and c.from_residual.result c.from_residual.ensures.1 in
    let e = c.in_err-step.ensures in
    let h = header_refused r.file.now p.0 (ap (step_of r.file.now) (sym c.requires) ∙ e.step.0 ∙ ap Err (sym p.2)) in
    record {
      file = e.file;
      value = p.1 ∙ sym h;
      state = subst (λ a. IfOk a (λ q. state_of c.step.new.self ≡ after_header q)) (sym p.1) tt;
    }

pub returns : goal.returns
returns c =
    let r = c.args.self.now in
    let e = c.in_ok-step.ensures in
    let h = header_read r.file.now (state_of c.step.new.self) c.in_ok-step.field-0
    (subst (λ s. Stepped r.file.now s (state_of c.step.new.self) (Ok c.in_ok-step.field-0)) c.requires e.step) in
    record { file = e.file; value = sym h.0; state = h.1 }
