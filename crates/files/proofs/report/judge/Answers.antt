use Rattle.std.proofs.Common.{replicate, subst}
use Rattle.files.specs.Reading.{Read}
use Rattle.files.proofs.report.judge.Goals as goal

pub returns : goal.returns
returns c =
    record {
      words = c.read.new.words;
      witness = c.read.new.witness;
      read = subst (λ f. Read f (replicate 8192 0) (replicate 4 0) c.read.new.words c.read.new.witness c.read.result) c.front.ensures c.read.ensures.read;
    }
