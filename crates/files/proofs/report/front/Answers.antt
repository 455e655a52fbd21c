use Rattle.std.proofs.Common.{take, ap, ◌∙◌}
use Rattle.std.proofs.lemmas.List.{take_min}
use Rattle.files.proofs.report.front.Goals as goal

pub returns : goal.returns
returns c = ap (λ k. take k c.args.file.now) c.min.ensures ∙ take_min 65536 c.args.file.now
