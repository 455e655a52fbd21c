-- What holds of two lists of calls, each run on an engine of its own, and of a set file.
use Rattle.std.specs.Prelude.{◌≡◌, ℕ, ◌+◌, ◌<◌, ◌⊎◌, List, [], ◌∷◌, Some, None, Ok, Err, vec_items, Option, Result, slice_index}
use Rattle.bits.specs.declared.refusal.Fault.{Fault}
use Rattle.bits.specs.Gf2.{rows}
use Rattle.cipher.specs.declared.params.Params.{Params}
use Rattle.cipher.specs.declared.direction.Direction.{Direction}
use Rattle.cipher.specs.declared.direction.Direction.TheVariants.{Encrypt as Forth, Decrypt as Back}
use Rattle.cipher.specs.Parameters.{block_words_of, gates_of, key_words_of}
use Rattle.cipher.specs.Sets.{Set}
use Rattle.cipher.specs.Directions.{along}
use Rattle.cipher.specs.Instances.{set_in}
use Rattle.cipher.specs.Blocks.{Held}
use Rattle.cipher.specs.Holds.{held_by}
use Rattle.engines.specs.declared.engine.Account.{Account}
use Rattle.engines.specs.Accounts.{left, new_account}
use Rattle.files.specs.Reading.{Clashing, Exact, Read}
use Rattle.sittings.specs.declared.entry.Batch.{Batch}
use Rattle.sittings.specs.declared.entry.Call.{Call}
use Rattle.sittings.specs.declared.entry.Call.TheVariants.{Grant, Encrypt, Decrypt}
use Rattle.sittings.specs.declared.entry.Entry.{Entry}
use Rattle.sittings.specs.Runs.{Run}

-- ---- gates

-- n where the answer accepts, else 0
abbrev pub if_accepted : Option (Result Unit Fault) → ℕ → ℕ
if_accepted None n = 0
if_accepted (Some (Ok u)) n = n
if_accepted (Some (Err e)) n = 0

-- the gates of one block, 3 m r, under the set that is held
abbrev pub gates_held : Held → ℕ
gates_held None = 0
gates_held (Some (p, ws)) = gates_of p

module _ {W : Type 0} where
  -- the gates that a call brings
  abbrev pub amount_of : Call W → ℕ
  amount_of (Grant g) = g
  amount_of (Encrypt x) = 0
  amount_of (Decrypt x) = 0

  -- the gates that a call costs, whatever its count
  abbrev pub cost_of : Call W → ℕ
  cost_of (Grant g) = 0
  cost_of (Encrypt x) = gates_held (held_by x.held)
  cost_of (Decrypt x) = gates_held (held_by x.held)

  -- the sum over the accepted calls
  abbrev pub total : (Call W → ℕ) → List (Entry W) → ℕ
  total f [] = 0
  total f (y ∷ ys) = if_accepted y.answer (f y.call) + total f ys

  -- no gate is lost or made: what was left and what was granted is what is left and what was spent
  pub record Balanced (a : Account) (ys : List (Entry W)) (b : Account) : Type 0 where
    pub gates : total amount_of ys + left a ≡ left b + total cost_of ys
    pub from_new : (capacity : ℕ) → a ≡ new_account capacity → total amount_of ys ≡ left b + total cost_of ys

-- ---- lanes

-- the set that is held
abbrev pub set_held : Held → Option Set
set_held None = None
set_held (Some (p, ws)) = Some (set_in p ws)

module _ {W : Type 0} where
  -- the set s is what the batch's instance holds; sets with equal parts are one set
  abbrev pub Under : Set → Batch W → Type 0
  Under s x = set_held (held_by x.held) ≡ Some s

  -- the block in lane j
  abbrev pub block_at : Set → Batch W → ℕ → ℕ
  block_at s x j = slice_index (rows (block_words_of s.params) x.count (vec_items x.blocks)) j

  -- the key in lane j
  abbrev pub key_at : Set → Batch W → ℕ → ℕ
  key_at s x j = slice_index (rows (key_words_of s.params) x.count (vec_items x.keys)) j

  -- a batch as a call, by its direction
  abbrev pub asked : Direction → Batch W → Call W
  asked Forth x = Encrypt x
  asked Back x = Decrypt x

  -- at some place of the list the batch x was accepted and became y
  abbrev pub Accepted : Direction → (x y : Batch W) → (xs ys : List (Entry W)) → Type 0
  Accepted way x y [] vs = ⊥
  Accepted way x y (u ∷ us) [] = ⊥
  Accepted way x y (u ∷ us) (v ∷ vs) = ((u.call ≡ asked way x) × (v.call ≡ asked way y) × (v.answer ≡ Some (Ok tt))) ⊎ Accepted way x y us vs

  -- in each lane stands what the cipher gives of its own block and key as they were
  pub record LaneByLane (way : Direction) (x y : Batch W) : Type 0 where
    pub set : Set
    pub under : Under set x
    pub lanes : (j : ℕ) → j < x.count → block_at set y j ≡ along way set (key_at set x j) (block_at set x j)

  -- so for every batch that was accepted
  abbrev pub AllLanes : (xs ys : List (Entry W)) → Type 0
  AllLanes xs ys = (way : Direction) (x y : Batch W) → Accepted way x y xs ys → LaneByLane way x y

-- ---- two encryptions

-- each holds where the other does
pub record Exactly (A B : Type 0) : Type 0 where
  pub to : A → B
  pub from : B → A

module _ {V W : Type 0} where
  -- x became x', and y became y': under one set and one key, ciphertexts are equal exactly when the blocks are
  abbrev pub Apart : (x x' : Batch V) (y y' : Batch W) → Type 0
  Apart x x' y y' = (s : Set) → Under s x → Under s y → (i j : ℕ) → i < x.count → j < y.count → key_at s x i ≡ key_at s y j
      → Exactly (block_at s x' i ≡ block_at s y' j) (block_at s x i ≡ block_at s y j)

  -- so for every two encryptions that were accepted, one of each list
  abbrev pub AllApart : (xs xs' : List (Entry V)) (ys ys' : List (Entry W)) → Type 0
  AllApart xs xs' ys ys' = (x x' : Batch V) (y y' : Batch W) → Accepted Forth x x' xs xs' → Accepted Forth y y' ys ys' → Apart x x' y y'

-- ---- the law

-- the lists xs and ys became xs' and ys' on engines whose accounts a and c became b and d; reading the file, answered so, left words' and wit'
pub record Sitting {V W : Type 0}
    (means : V → ℕ) (lanes : ℕ) (a b : Account) (xs xs' : List (Entry V))
    (means' : W → ℕ) (lanes' : ℕ) (c d : Account) (ys ys' : List (Entry W))
    (file words wit words' wit' : List ℕ) (answer : Result Params Fault) : Type 0 where
  -- each call is refused exactly where a check refuses it, and leaves all memory as its answer says
  pub first : Run means lanes a xs xs' b
  pub second : Run means' lanes' c ys ys' d
  -- no gate is lost or made
  pub first_balance : Balanced a xs' b
  pub second_balance : Balanced c ys' d
  -- every accepted batch is so many one-block calls
  pub first_lanes : AllLanes xs xs'
  pub second_lanes : AllLanes ys ys'
  -- of any two accepted encryptions under one set and one key, ciphertexts are equal exactly when the blocks are
  pub first_apart : AllApart xs xs' xs xs'
  pub second_apart : AllApart ys ys' ys ys'
  pub across : AllApart xs xs' ys ys'
  -- the file is accepted or refused as its checks say: as collapsing exactly when some key gives two different blocks one ciphertext
  pub read : Read file words wit words' wit' answer
  pub clashing : Clashing file words wit answer
  pub exact : Exact file words wit words' wit' answer
