use Rattle.files.proofs.Walking.{whole_file}
use Rattle.files.proofs.reader.steps_stand.Goals as goal

pub returns : goal.returns
returns c = whole_file
