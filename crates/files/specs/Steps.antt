-- One step of the reader: what it hands out, and where it stands then.
use Rattle.std.specs.Prelude.{◌≡◌, ℕ, ◌+◌, ◌-◌, ◌*◌, cond, ◌&&◌, List, length, take, drop, Some, None, Ok, Err, Option, Result, ◌==◌, ◌≢◌, nat_lt, slice_index}
use Rattle.std.specs.Option.{ok_or}
use Rattle.bits.specs.declared.refusal.Refusal.{Refusal}
use Rattle.bits.specs.declared.refusal.Refusal.TheVariants.{Truncated, WrongMark, WrongNumber}
use Rattle.bits.specs.declared.refusal.Layer.TheVariants.{File}
use Rattle.bits.specs.declared.refusal.Fault.{Fault}
use Rattle.bits.specs.Refusals.{fault_at, then}
use Rattle.cipher.specs.declared.params.Params.{Params}
use Rattle.cipher.specs.Parameters.{limits, params}
use Rattle.files.specs.declared.reader.Mark.{Mark}
use Rattle.files.specs.declared.reader.Mark.TheVariants.{Header, Layer, Constant, Key, End}
use Rattle.files.specs.declared.reader.Reader.{Reader}
use Rattle.files.specs.declared.reader.Record.{Record}
use Rattle.files.specs.Format.{byte_width_of, first, second}

-- the mark that two bytes are
abbrev pub mark_of : ℕ → ℕ → Option Mark
mark_of a b =
    cond (a == 80 && b == 82) (Some Header)
    (cond (a == 76 && b == 77) (Some Layer)
    (cond (a == 82 && b == 67) (Some Constant) (cond (a == 75 && b == 77) (Some Key) (cond (a == 69 && b == 78) (Some End) None))))

-- the same, where other letters are refused
abbrev pub mark_or_wrong : List ℕ → Result Mark Refusal
mark_or_wrong letters = ok_or (mark_of (slice_index letters 0) (slice_index letters 1)) WrongMark

-- what is due after the last record of a mark, and the number that it has
abbrev pub next_of : Mark → Option Mark × ℕ
next_of Header = (Some Layer, 1)
next_of Layer = (Some Constant, 1)
next_of Constant = (Some Key, 0)
next_of Key = (Some End, 0)
next_of End = (None, 0)

-- where a reader stands: the place of the record due, its mark, its number, and the parameters once the header is read
pub record State : Type 0 where
  pub at : ℕ
  pub due : Option Mark
  pub round : ℕ
  pub params : Params

abbrev pub state_of : Reader → State
state_of r = record { at = r.at; due = r.due; round = r.round; params = r.params }

-- before the header
abbrev pub at_start : State
at_start = record { at = 0; due = Some Header; round = 0; params = params 0 0 0 0 }

-- before the first layer
abbrev pub after_header : Params → State
after_header p = record { at = 8; due = Some Layer; round = 1; params = p }

-- a record, with its body as the bytes that it holds
pub record Seen : Type 0 where
  pub mark : Mark
  pub number : ℕ
  pub offset : ℕ
  pub body : List ℕ

abbrev pub seen_of : Record → Seen
seen_of r = record { mark = r.mark; number = r.number; offset = r.offset; body = r.body.now }

-- bytes before the body, and bytes of the body
abbrev pub head_size_of : Mark → ℕ
head_size_of Header = 2
head_size_of Layer = 3
head_size_of Constant = 3
head_size_of Key = 3
head_size_of End = 2

abbrev pub body_size_of : Params → Mark → ℕ
body_size_of p Header = 6
body_size_of p Layer = p.n * byte_width_of p.n
body_size_of p Constant = byte_width_of p.n
body_size_of p Key = p.n * byte_width_of p.k
body_size_of p End = 0

abbrev pub whole_size : Params → Mark → ℕ
whole_size p k = head_size_of k + body_size_of p k

-- the parameters in a header whose body is at o
abbrev pub params_at : List ℕ → ℕ → Params
params_at file o = params (slice_index file o * 256 + slice_index file (o + 1)) (slice_index file (o + 2) * 256 + slice_index file (o + 3)) (slice_index file (o + 4)) (slice_index file (o + 5))

-- the record that stands at the reader's place
abbrev pub record_at : List ℕ → State → Mark → ℕ → Seen
record_at file s k i = record {
  mark = k;
  number = i;
  offset = s.at + head_size_of k;
  body = take (body_size_of s.params k) (drop (s.at + head_size_of k) file);
}

-- past a record of mark k, where another is due
abbrev pub past : State → Mark → Option Mark → ℕ → Params → State
past s k due i p = record { at = s.at + whole_size s.params k; due = due; round = i; params = p }

-- the next of a series up to the last round, or else the first of the next series
abbrev pub series : State → Mark → Mark → ℕ → State
series s k k' i = cond (nat_lt s.round s.params.r) (past s k (Some k) (s.round + 1) s.params) (past s k (Some k') i s.params)

abbrev pub Answer : Type 0
Answer = Result (Option (Seen × State)) Fault

-- the checks after the mark
abbrev pub numbered : List ℕ → State → Mark → State → Answer
numbered file s k s' =
    cond (slice_index file (s.at + 2) == s.round) (Ok (Some (record_at file s k s.round, s'))) (Err (fault_at WrongNumber File (s.at + 2)))

abbrev pub marked : List ℕ → State → Mark → Answer
marked file s Header =
    then (limits (params_at file (s.at + 2))) (λ _. Ok (Some (record_at file s Header 0, past s Header (Some Layer) 1 (params_at file (s.at + 2)))))
marked file s Layer = numbered file s Layer (series s Layer Constant 1)
marked file s Constant = numbered file s Constant (series s Constant Key 0)
marked file s Key = numbered file s Key (series s Key End 0)
marked file s End =
    cond (nat_lt (s.at + 2) (length file)) (Err (fault_at WrongMark File (s.at + 2))) (Ok (Some (record_at file s End 0, past s End None 0 s.params)))

-- a record that is due: whole, then its mark, then the rest
abbrev pub due_at : List ℕ → State → Mark → Answer
due_at file s k =
    cond (nat_lt (length file - s.at) (whole_size s.params k)) (Err (fault_at Truncated File (length file)))
    (cond (slice_index file s.at == first k && slice_index file (s.at + 1) == second k) (marked file s k) (Err (fault_at WrongMark File s.at)))

abbrev pub step_from : List ℕ → State → Option Mark → Answer
step_from file s None = Ok None
step_from file s (Some k) = due_at file s k

abbrev pub step_of : List ℕ → State → Answer
step_of file s = step_from file s s.due

-- a step's answer and the reader after it; a reader that is refused, or has nothing left, stands where it stood
abbrev pub Stepped : List ℕ → State → State → Result (Option Record) Fault → Type 0
Stepped file s s' (Err e) = (step_of file s ≡ Err e) × (s' ≡ s)
Stepped file s s' (Ok None) = (step_of file s ≡ Ok None) × (s' ≡ s)
Stepped file s s' (Ok (Some r)) = step_of file s ≡ Ok (Some (seen_of r, s'))

-- the check of a number, and what is due after it, the reader's place left as it is
abbrev pub Numbered : State → ℕ → Mark → Mark → ℕ → State → Result ℕ Fault → Type 0
Numbered s x k k' i s' (Ok y) =
    (x ≡ s.round) × (y ≡ x)
    × (s' ≡ cond (nat_lt s.round s.params.r) (record { at = s.at; due = Some k; round = s.round + 1; params = s.params }) (record { at = s.at; due = Some k'; round = i; params = s.params }))
Numbered s x k k' i s' (Err e) = (x ≢ s.round) × (e ≡ fault_at WrongNumber File (s.at + 2)) × (s' ≡ s)

-- the same for a mark by which the reader stands
abbrev pub NumberedTo : State → ℕ → Mark → State → Result ℕ Fault → Type 0
NumberedTo s x k s' r = (k' : Mark) → (next_of k).0 ≡ Some k' → Numbered s x k k' (next_of k).1 s' r
