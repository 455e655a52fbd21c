-- The report line.
use Rattle.std.specs.Prelude.{◌≡◌, ℕ, List, ◌++◌, replicate, Ok, Err, codes, decimal, Result}
use Rattle.bits.specs.declared.refusal.Fault.{Fault}
use Rattle.bits.specs.Refusals.{number_of}
use Rattle.cipher.specs.declared.params.Params.{Params}
use Rattle.cipher.specs.Parameters.{gates_of}
use Rattle.files.specs.Reading.{Read}

-- OK n k m r gates, or NO number place; then a line feed
abbrev pub line_of : Result Params Fault → List ℕ
line_of (Ok p) =
    codes "OK " ++ (decimal p.n ++ (codes " " ++ (decimal p.k ++ (codes " " ++ (decimal p.m ++ (codes " " ++ (decimal p.r ++ (codes " " ++ (decimal (gates_of p) ++ codes "\n")))))))))
line_of (Err e) = codes "NO " ++ (decimal (number_of e.refusal) ++ (codes " " ++ (decimal e.place ++ codes "\n")))

-- an answer of reading, with 8192 words for the set and 4 for a witness
pub record Judged (file : List ℕ) (answer : Result Params Fault) : Type 0 where
  pub words : List ℕ
  pub witness : List ℕ
  pub read : Read file (replicate 8192 0) (replicate 4 0) words witness answer

-- the line of such an answer
pub record Reported (file line : List ℕ) : Type 0 where
  pub answer : Result Params Fault
  pub judged : Judged file answer
  pub is : line ≡ line_of answer
