-- What an instance promises: what it holds passed the checks of opening, so every layer has the true inverse that stands in its words.
use Rattle.std.specs.Prelude.{◌≡◌, ℕ, ◌≤◌, Bool, true, List, map, length, is_ok, Some, None, Ok, Err, Option, Result}
use Rattle.bits.specs.declared.refusal.Fault.{Fault}
use Rattle.bits.specs.Gf2.{inverse_of}
use Rattle.cipher.specs.declared.params.Params.{Params}
use Rattle.cipher.specs.Parameters.{prepared_words_of}
use Rattle.cipher.specs.Sets.{Each, LawfulSet}
use Rattle.cipher.specs.Laws.{Invertible}
use Rattle.cipher.specs.Instances.{inverses_in, opening, set_in}
use Rattle.cipher.specs.Blocks.{Held}

-- what is held passed the checks
abbrev pub passes : Held → Bool
passes None = true
passes (Some (p, ws)) = is_ok (opening p ws)

-- the parameters of what is held
abbrev pub params_in : Held → Option Params
params_in None = None
params_in (Some (p, ws)) = Some p

-- after opening: the new set where it was accepted, else what was held before
abbrev pub held_after : Result Unit Fault → Held → Params → List ℕ → Held
held_after (Ok u) before p ws = Some (p, ws)
held_after (Err e) before p ws = before

-- a prepared set whose layers have the inverses that stand in its words, on both sides
pub record TrueInverses (p : Params) (ws : List ℕ) : Type 0 where
  pub room : prepared_words_of p ≤ length ws
  pub lawful : LawfulSet (set_in p ws)
  pub inverses : inverses_in p ws ≡ map inverse_of (set_in p ws).layers
  pub invertible : Each Invertible (set_in p ws).layers

abbrev pub Sound : Held → Type 0
Sound None = Unit {0}
Sound (Some (p, ws)) = TrueInverses p ws
