use Rattle.std.proofs.Common.{rules}
use Rattle.files.proofs.rows.word.Goals as goal

pub returns : goal.returns
returns c = search rules
