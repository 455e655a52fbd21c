-- The published parameter sets, and the rule that they keep.
use Rattle.std.specs.Prelude.{◌≡◌, ℕ, ◌-◌, Bool, true, cond, ◌&&◌, List, [], ◌∷◌, map, Some, None, Option, ◌==◌}
use Rattle.cipher.specs.declared.row.Published.{Published}
use Rattle.cipher.specs.Parameters.{Lawful, gates_of, lawful, params}

-- block bits, triples, key bits, rounds, AND gates
abbrev pub Numbers : Type 0
Numbers = ℕ × ℕ × ℕ × ℕ × ℕ

abbrev pub table : List Numbers
table =
    (256, 49, 80, 12, 1764)
    ∷ (128, 31, 80, 12, 1116)
    ∷ (64, 1, 80, 164, 492)
    ∷ (256, 63, 128, 14, 2646)
    ∷ (196, 63, 128, 14, 2646)
    ∷ (128, 3, 128, 88, 792)
    ∷ (128, 2, 128, 128, 768)
    ∷ (128, 1, 128, 252, 756)
    ∷ (256, 10, 256, 52, 1560)
    ∷ []

abbrev pub entry : Numbers → Published
entry t = record { params = params t.0 t.2 t.1 t.3; gates = t.4 }

abbrev pub entries : List Published
entries = map entry table

abbrev pub nth_of : List Published → ℕ → Option Published
nth_of [] i = None
nth_of (e ∷ es) i = cond (i == 0) (Some e) (nth_of es (i - 1))

-- the entry of that number, from 0
abbrev pub row_of : ℕ → Option Published
row_of i = nth_of entries i

-- the rule as a test: the gates are three for each triple of each round, and the parameters are within the limits
abbrev pub keeps : Published → Bool
keeps e = e.gates == gates_of e.params && lawful e.params

abbrev pub all_published_keep : List Published → Bool
all_published_keep [] = true
all_published_keep (e ∷ es) = keeps e && all_published_keep es

-- the rule as facts
pub record Rule (e : Published) : Type 0 where
  pub counted : e.gates ≡ gates_of e.params
  pub within : Lawful e.params

abbrev pub Ruled : Option Published → Type 0
Ruled None = Unit {0}
Ruled (Some e) = Rule e
