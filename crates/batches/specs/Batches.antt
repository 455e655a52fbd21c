-- A batch: its checks in their order, and what it leaves in memory.
use Rattle.std.specs.Prelude.{◌≡◌, ℕ, ◌≤◌, ◌+◌, ◌*◌, not, ◌||◌, List, [], ◌∷◌, map, length, take, drop, replicate, Some, None, Ok, Err, Result, ◌==◌, nat_lt}
use Rattle.bits.specs.declared.refusal.Refusal.TheVariants.{NoInstance, OutOfGates, TooFewWords, WrongCount, WrongLength}
use Rattle.bits.specs.declared.refusal.Layer.TheVariants.{Batch, Engine, Set as SetLayer}
use Rattle.bits.specs.declared.refusal.Fault.{Fault}
use Rattle.bits.specs.Refusals.{fault_at, first_of, then}
use Rattle.bits.specs.Gf2.{flat, rows}
use Rattle.cipher.specs.declared.params.Params.{Params}
use Rattle.cipher.specs.Parameters.{block_words_of, gates_of, key_words_of}
use Rattle.cipher.specs.Sets.{Set}
use Rattle.cipher.specs.Instances.{first_stray_of, many_limits, set_in, stray_at}
use Rattle.cipher.specs.Blocks.{Held}
use Rattle.engines.specs.declared.engine.Account.{Account}
use Rattle.engines.specs.Accounts.{Spent, left}

-- a mask for each bit of a block and of a key
abbrev pub masks_of : Params → ℕ
masks_of p = p.n + p.k

-- cells for the wires of three states and of a key
abbrev pub cells_of : Params → ℕ
cells_of p = 3 * p.n + p.k

-- so many gates are left
abbrev pub GatesLeft : Account → ℕ → Type 0
GatesLeft a n = a.done + n ≤ a.granted

-- wires for the rounds: a state, a spare one, a key, and room for the sums of one wire at a time
abbrev pub WiresFor : {W : Type 0} → Params → (state spare key sums : List W) → Type 0
WiresFor p state spare key sums = (length state ≡ p.n) × (length spare ≡ p.n) × (length key ≡ p.k) × (2 ≤ length sums)

-- an instance; the count; words of blocks and of keys; stray bits in blocks and in keys; masks, cells, gates
abbrev pub batch_checks : (lanes : ℕ) → Account → Held → (count : ℕ) → (blocks keys : List ℕ) → (masks cells : ℕ) → Result Unit Fault
batch_checks lanes a None count blocks keys masks cells = Err (fault_at NoInstance Batch 0)
batch_checks lanes a (Some (p, ws)) count blocks keys masks cells =
    then (first_of (
    (count == 0 || nat_lt lanes count, fault_at WrongCount Batch count)
    ∷ (not (length blocks == count * block_words_of p), fault_at WrongLength Batch (count * block_words_of p))
    ∷ (not (length keys == count * key_words_of p), fault_at WrongLength Batch (count * key_words_of p))
    ∷ [])) (λ _.
    then (stray_at Batch (first_stray_of 0 (many_limits (block_words_of p) p.n count) blocks)) (λ _.
    then (stray_at Batch (first_stray_of 0 (many_limits (key_words_of p) p.k count) keys)) (λ _.
    first_of (
    (nat_lt masks (masks_of p), fault_at TooFewWords SetLayer (masks_of p))
    ∷ (nat_lt cells (cells_of p), fault_at TooFewWords SetLayer (cells_of p))
    ∷ (nat_lt (left a) (gates_of p), fault_at OutOfGates Engine (left a))
    ∷ []))))

-- each block under its own key
abbrev pub one_by_one_of : (ℕ → ℕ → ℕ) → (keys blocks : List ℕ) → List ℕ
one_by_one_of f [] bs = []
one_by_one_of f (k ∷ ks) [] = []
one_by_one_of f (k ∷ ks) (b ∷ bs) = f k b ∷ one_by_one_of f ks bs

-- the blocks after a batch, where `f` is the cipher's direction: what one-block calls leave, each block under its own key
abbrev pub blocks_after : (Set → ℕ → ℕ → ℕ) → Held → Result Unit Fault → (count : ℕ) → (keys blocks : List ℕ) → List ℕ
blocks_after f None answer count keys blocks = blocks
blocks_after f (Some (p, ws)) (Ok u) count keys blocks =
    flat (block_words_of p) (one_by_one_of (f (set_in p ws)) (rows (key_words_of p) count keys) (rows (block_words_of p) count blocks))
blocks_after f (Some (p, ws)) (Err e) count keys blocks = blocks

-- so many cells carry 0 in every lane, and those after them are as before
pub record Cleared {X : Type 0} (means : X → ℕ) (used : ℕ) (cells cells' : List X) : Type 0 where
  pub zero : map means (take used cells') ≡ replicate used 0
  pub later : drop used cells' ≡ drop used cells

-- what a batch leaves of the account and the cells: the gates of one block are spent, whatever the count; refused, nothing is
abbrev pub Leaves : {X : Type 0} → (X → ℕ) → Held → Result Unit Fault → (a a' : Account) → (cells cells' : List X) → Type 0
Leaves means None answer a a' cells cells' = (a' ≡ a) × (cells' ≡ cells)
Leaves means (Some (p, ws)) (Ok u) a a' cells cells' = Spent a (gates_of p) a' × Cleared means (cells_of p) cells cells'
Leaves means (Some (p, ws)) (Err e) a a' cells cells' = (a' ≡ a) × (cells' ≡ cells)
