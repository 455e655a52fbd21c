use Rattle.std.proofs.Common.{◌≡◌, ◌-◌, length}
use Rattle.files.specs.Steps.{state_of}
use Rattle.files.specs.Surveys.{Sound, judged_from}
use Rattle.files.proofs.reader.Reader.survey.Given as goal

abbrev pub invariant-loop : goal.invariant-loop
invariant-loop l =
    (l.self.file ≡ l.initial.self.file) × Sound l.self.file.now (state_of l.self)
    × (judged_from l.self.file.now (state_of l.self) ≡ judged_from l.initial.self.file.now (state_of l.initial.self))

abbrev pub decreases-loop : goal.decreases-loop
decreases-loop l = length l.self.file.now - l.self.at
