-- All worked examples, from the definitions of every part.
use Rattle.std.specs.Prelude.{◌≡◌, ℕ, ◌+◌, ◌*◌, List, [], ◌∷◌, map, Some, Ok, Err, Result}
use Rattle.bits.specs.declared.refusal.Refusal.TheVariants.{OutOfGates}
use Rattle.bits.specs.declared.refusal.Layer.TheVariants.{Engine}
use Rattle.bits.specs.declared.refusal.Fault.{Fault}
use Rattle.bits.specs.Refusals.{fault_at}
use Rattle.bits.specs.Gf2.{Witness, inverse_of}
use Rattle.cipher.specs.Parameters.{gates_of, params}
use Rattle.cipher.specs.Instances.{opening, set_in}
use Rattle.cipher.specs.Blocks.{Held}
use Rattle.cipher.specs.LowMC.{decrypt, encrypt, substitution}
use Rattle.cipher.specs.Laws.{box_table, collapsing, sample}
use Rattle.engines.specs.declared.engine.Account.{Account}
use Rattle.engines.specs.declared.share.Triple.{Triple}
use Rattle.engines.specs.Accounts.{Granted, Spent, left, new_account}
use Rattle.engines.specs.Triples.{IsTrueTriple, shares_of}
use Rattle.batches.specs.Batches.{batch_checks, blocks_after}
use Rattle.drawing.specs.Grain.{new_bits, ones}

-- ---- gates: capacity 7, a grant of 7, three batches under the sample set

abbrev pub account : (capacity granted done : ℕ) → Account
account c g d = record { capacity = c; granted = g; done = d }

-- the words of the sample set: layer, constant, key matrices, inverse
abbrev pub sample_words : List ℕ
sample_words = 2 ∷ 4 ∷ 1 ∷ 1 ∷ 1 ∷ 2 ∷ 4 ∷ 1 ∷ 2 ∷ 4 ∷ 4 ∷ 1 ∷ 2 ∷ []

-- an instance that holds them
abbrev pub sample_held : Held
sample_held = Some (params 3 3 1 1, sample_words)

-- a batch of the blocks 1 and 0 under the keys 0 and 7, on 64 lanes, with masks and cells enough
abbrev pub answered : Account → Result Unit Fault
answered a = batch_checks 64 a sample_held 2 (1 ∷ 0 ∷ []) (0 ∷ 7 ∷ []) 6 12

pub record GatesExample : Type 0 where
  pub opens : opening (params 3 3 1 1) sample_words ≡ Ok tt
  pub holds : set_in (params 3 3 1 1) sample_words ≡ sample
  pub granted : Granted (new_account 7) 7 (account 7 7 0)
  pub first : answered (account 7 7 0) ≡ Ok tt
  pub lanes : blocks_after encrypt sample_held (Ok tt) 2 (0 ∷ 7 ∷ []) (1 ∷ 0 ∷ []) ≡ 6 ∷ 7 ∷ []
  pub costs : Spent (account 7 7 0) (gates_of (params 3 3 1 1)) (account 7 7 3)
  pub second : answered (account 7 7 3) ≡ Ok tt
  pub costs_again : Spent (account 7 7 3) (gates_of (params 3 3 1 1)) (account 7 7 6)
  pub third : answered (account 7 7 6) ≡ Err (fault_at OutOfGates Engine 1)
  pub sum : 7 ≡ left (account 7 7 6) + 3 * 2

-- ---- shares: 1 as (1, 0) times 1 as (0, 1), with a true triple

abbrev pub worked_triple : Triple
worked_triple = record { a0 = 1; b0 = 0; c0 = 0; a1 = 0; b1 = 1; c1 = 1 }

-- ---- all of them

pub record WorkedExamples : Type 0 where
  -- the S-box on the numbers 4a + 2b + c, and beside bits that stay
  pub box : map box_table (0 ∷ 1 ∷ 2 ∷ 3 ∷ 4 ∷ 5 ∷ 6 ∷ 7 ∷ []) ≡ 0 ∷ 1 ∷ 3 ∷ 6 ∷ 7 ∷ 4 ∷ 5 ∷ 2 ∷ []
  pub rest_stays : substitution 1 9 ≡ 15
  -- the sample set: the inverse of its layer, there and back
  pub inverse : inverse_of (2 ∷ 4 ∷ 1 ∷ []) ≡ 4 ∷ 1 ∷ 2 ∷ []
  pub one : encrypt sample 0 1 ≡ 6
  pub none : encrypt sample 0 0 ≡ 1
  pub keyed : encrypt sample 7 0 ≡ 7
  pub back : decrypt sample 0 6 ≡ 1
  -- a layer that collapses, and two blocks with one ciphertext
  pub witness : Witness (1 ∷ 1 ∷ 4 ∷ []) 2
  pub lost_none : encrypt collapsing 0 0 ≡ 1
  pub lost_seven : encrypt collapsing 0 7 ≡ 1
  -- gates and lanes
  pub gates : GatesExample
  -- shares
  pub triple : IsTrueTriple worked_triple
  pub shares : shares_of (1, 0) (0, 1) worked_triple ≡ (0, 1)
  -- of Grain's new bits, counted from the very start, the first eighteen are 0 and the nineteenth is 1
  pub grain : new_bits 19 ones ≡ 0 ∷ 0 ∷ 0 ∷ 0 ∷ 0 ∷ 0 ∷ 0 ∷ 0 ∷ 0 ∷ 0 ∷ 0 ∷ 0 ∷ 0 ∷ 0 ∷ 0 ∷ 0 ∷ 0 ∷ 0 ∷ 1 ∷ []
