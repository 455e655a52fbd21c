use Rattle.std.proofs.lemmas.Result.{IfOk-weaker}
use Rattle.files.proofs.report.report.Goals as goal

pub returns : goal.returns
returns c = IfOk-weaker c.to_string.result _ _ (λ s e. record { answer = c.judge.result.0; judged = c.judge.ensures; is = e }) c.to_string.ensures.ok
