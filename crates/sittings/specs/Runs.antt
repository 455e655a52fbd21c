-- A run of calls: the entries and the account, before and after.
use Rattle.std.specs.Prelude.{◌≡◌, ℕ, List, [], ◌∷◌, Some, None, Ok, Err, vec_items, vec_len, Option, Result}
use Rattle.bits.specs.declared.refusal.Fault.{Fault}
use Rattle.cipher.specs.declared.direction.Direction.{Direction}
use Rattle.cipher.specs.declared.direction.Direction.TheVariants.{Encrypt as Forth, Decrypt as Back}
use Rattle.cipher.specs.Directions.{along}
use Rattle.cipher.specs.Holds.{held_by}
use Rattle.engines.specs.declared.engine.Account.{Account}
use Rattle.engines.specs.Accounts.{Full, Granted}
use Rattle.batches.specs.Batches.{Leaves, batch_checks, blocks_after}
use Rattle.sittings.specs.declared.entry.Batch.{Batch}
use Rattle.sittings.specs.declared.entry.Call.{Call}
use Rattle.sittings.specs.declared.entry.Call.TheVariants.{Grant, Encrypt, Decrypt}
use Rattle.sittings.specs.declared.entry.Entry.{Entry}

-- a grant of g gates, answered r: from the account a to b
abbrev pub Granting : Account → ℕ → Result Unit Fault → Account → Type 0
Granting a g (Ok u) b = Granted a g b
Granting a g (Err e) b = (b ≡ a) × Full a g e

-- what no batch changes of its entry
pub record Kept {W : Type 0} (x y : Batch W) : Type 0 where
  pub held : y.held ≡ x.held
  pub count : y.count ≡ x.count
  pub keys : y.keys ≡ x.keys
  pub masks : y.masks ≡ x.masks

-- `means` and `lanes` are the engine's
module _ {W : Type 0} (means : W → ℕ) (lanes : ℕ) where
  -- the batch x, answered r, became y: the checks give the answer, the cipher's direction the blocks
  pub record Coded (way : Direction) (a : Account) (x y : Batch W) (r : Result Unit Fault) (b : Account) : Type 0 where
    pub answer : r ≡ batch_checks lanes a (held_by x.held) x.count (vec_items x.blocks) (vec_items x.keys) (vec_len x.masks) (vec_len x.cells)
    pub blocks : vec_items y.blocks ≡ blocks_after (along way) (held_by x.held) r x.count (vec_items x.keys) (vec_items x.blocks)
    pub leaves : Leaves means (held_by x.held) r a b (vec_items x.cells) (vec_items y.cells)
    pub kept : Kept x y

  -- a call, answered r: it stays the call that it was
  abbrev pub Step : Account → Call W → Call W → Result Unit Fault → Account → Type 0
  Step a (Grant g) (Grant h) r b = (h ≡ g) × Granting a g r b
  Step a (Grant g) (Encrypt y) r b = ⊥
  Step a (Grant g) (Decrypt y) r b = ⊥
  Step a (Encrypt x) (Grant h) r b = ⊥
  Step a (Encrypt x) (Encrypt y) r b = Coded Forth a x y r b
  Step a (Encrypt x) (Decrypt y) r b = ⊥
  Step a (Decrypt x) (Grant h) r b = ⊥
  Step a (Decrypt x) (Encrypt y) r b = ⊥
  Step a (Decrypt x) (Decrypt y) r b = Coded Back a x y r b

  -- every call is answered
  abbrev pub AnsweredBy : Account → Call W → Call W → Option (Result Unit Fault) → Account → Type 0
  AnsweredBy a x y None b = ⊥
  AnsweredBy a x y (Some r) b = Step a x y r b

  -- the entry x became y
  abbrev pub Answered : Account → Entry W → Entry W → Account → Type 0
  Answered a x y b = AnsweredBy a x.call y.call y.answer b

  -- the entries in order, each in its place, from the account a to the last
  abbrev pub Run : Account → List (Entry W) → List (Entry W) → Account → Type 0
  Run a [] [] c = a ≡ c
  Run a [] (y ∷ ys) c = ⊥
  Run a (x ∷ xs) [] c = ⊥
  Run a (x ∷ xs) (y ∷ ys) c = (b : Account) × Answered a x y b × Run b xs ys c
