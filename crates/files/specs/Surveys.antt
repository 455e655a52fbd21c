-- Looking at the record due as far as it is there, and what is still due where a reader stands.
use Rattle.std.specs.Prelude.{◌≡◌, ℕ, ◌+◌, ◌-◌, ◌<◌, ◌≤◌, List, [], length, drop, Some, None, Ok, Err, Option, Result}
use Rattle.bits.specs.declared.refusal.Fault.{Fault}
use Rattle.cipher.specs.Parameters.{Lawful}
use Rattle.files.specs.declared.reader.Mark.{Mark}
use Rattle.files.specs.declared.reader.Record.{Record}
use Rattle.files.specs.declared.reader.Mark.TheVariants.{Header, Layer, Constant, Key, End}
use Rattle.files.specs.Faults.{Slot, constants_due, end_slots, judged, keys_due, layers_due, record_slots, seen}
use Rattle.files.specs.Steps.{State}

-- the slots of the record due, if it is one of a series
abbrev pub slots_at : State → Option Mark → List Slot
slots_at s None = []
slots_at s (Some Header) = []
slots_at s (Some Layer) = record_slots Layer s.params.n s.params.n s.round
slots_at s (Some Constant) = record_slots Constant s.params.n 1 s.round
slots_at s (Some Key) = record_slots Key s.params.k s.params.n s.round
slots_at s (Some End) = []

abbrev pub look_of : List ℕ → State → Result Unit Fault
look_of file s = seen s.at (slots_at s s.due) (drop s.at file)

-- all that is still due
abbrev pub due_after : State → Option Mark → List Slot
due_after s None = []
due_after s (Some Header) = []
due_after s (Some Layer) = layers_due s.params s.round (s.params.r + 1 - s.round)
due_after s (Some Constant) = constants_due s.params s.round (s.params.r + 1 - s.round)
due_after s (Some Key) = keys_due s.params s.round (s.params.r + 1 - s.round)
due_after s (Some End) = end_slots

abbrev pub judged_from : List ℕ → State → Result Unit Fault
judged_from file s = judged file s.at (due_after s s.due)

-- a reader after the header: it has come no further than it may
abbrev pub SoundAt : List ℕ → State → Option Mark → Type 0
SoundAt file s None = s.at ≡ length file
SoundAt file s (Some Header) = ⊥
SoundAt file s (Some Layer) = s.round ≤ s.params.r
SoundAt file s (Some Constant) = s.round ≤ s.params.r
SoundAt file s (Some Key) = s.round ≤ s.params.r
SoundAt file s (Some End) = Unit {0}

pub record Sound (file : List ℕ) (s : State) : Type 0 where
  pub limits : Lawful s.params
  pub inside : s.at ≤ length file
  pub due : SoundAt file s s.due

-- one record further: refused as the rest is judged, or on to a rest that is judged alike, or at the end
abbrev pub Advanced : List ℕ → State → State → Result (Option Record) Fault → Type 0
Advanced file s s' (Err e) = judged_from file s ≡ Err e
Advanced file s s' (Ok None) = judged_from file s ≡ Ok tt
Advanced file s s' (Ok (Some r)) = (judged_from file s ≡ judged_from file s') × Sound file s' × (s.at < s'.at)
