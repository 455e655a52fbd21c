-- Stepping through a whole file.
use Rattle.std.specs.Prelude.{◌≡◌, ℕ, List, [], ◌∷◌, ◌++◌, Some, None, Ok}
use Rattle.files.specs.declared.reader.Mark.{Mark}
use Rattle.files.specs.declared.reader.Mark.TheVariants.{Header, Layer, Constant, Key, End}
use Rattle.files.specs.Format.{first, second}
use Rattle.files.specs.Steps.{Seen, State, at_start, step_of}

-- the number's byte, where a record has one
abbrev pub number_bytes : Mark → ℕ → List ℕ
number_bytes Header i = []
number_bytes Layer i = i ∷ []
number_bytes Constant i = i ∷ []
number_bytes Key i = i ∷ []
number_bytes End i = []

-- a record as bytes: the mark's letters, the number, the body
abbrev pub written : Seen → List ℕ
written x = first x.mark ∷ second x.mark ∷ (number_bytes x.mark x.number ++ x.body)

abbrev pub all_written : List Seen → List ℕ
all_written [] = []
all_written (x ∷ xs) = written x ++ all_written xs

-- steps from a state on hand out these records, one after another, and then none is left
abbrev pub Hands : List ℕ → State → List Seen → Type 0
Hands file s [] = step_of file s ≡ Ok None
Hands file s (x ∷ xs) = (s' : State) × (step_of file s ≡ Ok (Some (x, s'))) × Hands file s' xs

-- the records of a file that was stepped through to its end are that file, without a gap and without a rest
abbrev pub WholeFile : Type 0
WholeFile = (file : List ℕ) (xs : List Seen) → Hands file at_start xs → all_written xs ≡ file
