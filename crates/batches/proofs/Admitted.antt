-- What a batch that passes its checks brings, and what it leaves.
use Rattle.std.proofs.Common.{◌≡◌, ℕ, zero, suc, ◌*◌, ◌<◌, ◌≤◌, Bool, true, false, ◌||◌, List, [], ◌∷◌, length, get_or, Some, Ok, Result, sym, refl, ap, ◌∙◌, ap₂, arith}
use Rattle.std.proofs.lemmas.Bool.{eqb-true, ltb-false, not-false}
use Rattle.bits.specs.declared.refusal.Fault.{Fault}
use Rattle.bits.specs.Refusals.{first_of}
use Rattle.bits.specs.Gf2.{Below, rows}
use Rattle.cipher.specs.declared.params.Params.{Params}
use Rattle.cipher.specs.Parameters.{block_words_of, gates_of, key_words_of}
use Rattle.cipher.specs.Blocks.{Held}
use Rattle.cipher.proofs.Calls.{then_is}
use Rattle.cipher.proofs.SoundSets.{no_stray}
use Rattle.cipher.proofs.Strays.{rows_none}
use Rattle.engines.specs.declared.engine.Account.{Account}
use Rattle.engines.specs.Accounts.{left}
use Rattle.batches.specs.Lanes.{columns, lane, table}
use Rattle.batches.specs.Batches.{batch_checks, cells_of, masks_of, one_by_one_of}
use Rattle.batches.proofs.Packing.{lane_columns, table_cons, table_same}

-- ---- the checks

pub record Admitted (lanes count : ℕ) (p : Params) (a : Account) (blocks keys : List ℕ) (masks cells : ℕ) : Type 0 where
  pub few : count ≤ lanes
  pub sized : length blocks ≡ count * block_words_of p
  pub keyed : length keys ≡ count * key_words_of p
  pub narrow : Below p.n (rows (block_words_of p) count blocks)
  pub key_narrow : Below p.k (rows (key_words_of p) count keys)
  pub masked : masks_of p ≤ masks
  pub roomy : cells_of p ≤ cells
  pub gated : gates_of p ≤ left a

three_checks : (a b c : Bool) (x y z : Fault) → first_of ((a, x) ∷ (b, y) ∷ (c, z) ∷ []) ≡ Ok tt → (a ≡ false) × (b ≡ false) × (c ≡ false)
three_checks true b c x y z e = absurd cc
three_checks false true c x y z e = absurd cc
three_checks false false true x y z e = absurd cc
three_checks false false false x y z e = (refl, refl, refl)

neither : (a b : Bool) → a || b ≡ false → b ≡ false
neither true b e = absurd cc
neither false b e = e

pub admitted : (lanes count : ℕ) (p : Params) (ws : List ℕ) (a : Account) (blocks keys : List ℕ) (masks cells : ℕ)
    → Ok tt ≡ batch_checks lanes a (Some (p, ws)) count blocks keys masks cells → Admitted lanes count p a blocks keys masks cells
admitted lanes count p ws a blocks keys masks cells e =
    let one = then_is _ _ tt (sym e) in
    let sizes = three_checks _ _ _ _ _ _ one.1 in
    let sized : length blocks ≡ count * block_words_of p = eqb-true (length blocks) (count * block_words_of p) (not-false _ sizes.1) in
    let keyed : length keys ≡ count * key_words_of p = eqb-true (length keys) (count * key_words_of p) (not-false _ sizes.2) in
    let two = then_is _ _ tt one.2 in
    let three = then_is _ _ tt two.2 in
    let room = three_checks _ _ _ _ _ _ three.2 in
    record {
      few = ltb-false lanes count (neither _ _ sizes.0);
      sized = sized;
      keyed = keyed;
      narrow = rows_none 0 (block_words_of p) p.n count blocks (omega arith) (omega arith) (no_stray _ _ two.1);
      key_narrow = rows_none 0 (key_words_of p) p.k count keys (omega arith) (omega arith) (no_stray _ _ three.1);
      masked = ltb-false masks (masks_of p) room.0;
      roomy = ltb-false cells (cells_of p) room.1;
      gated = ltb-false (left a) (gates_of p) room.2;
    }

-- ---- lanes

-- what was loaded stands in its lane
pub loaded : (w n count u l j : ℕ) (ws ms : List ℕ) → u ≡ w → l ≡ n → ms ≡ columns l (rows u count ws) → Below n (rows w count ws)
    → lane j ms ≡ get_or (rows w count ws) j 0
loaded w n count u l j ws ms eu el e b =
    ap (lane j) (e ∙ ap₂ (λ (x y : ℕ). columns y (rows x count ws)) eu el) ∙ lane_columns n j (rows w count ws) b

one_by_one : (f : ℕ → ℕ → ℕ) (n : ℕ) (ks bs : List ℕ) → length ks ≡ n → length bs ≡ n → table n (λ j. f (get_or ks j 0) (get_or bs j 0)) ≡ one_by_one_of f ks bs
one_by_one f zero [] bs ek eb = refl
one_by_one f zero (k ∷ ks) bs ek eb = absurd (omega arith)
one_by_one f (suc n) [] bs ek eb = absurd (omega arith)
one_by_one f (suc n) (k ∷ ks) [] ek eb = absurd (omega arith)
one_by_one f (suc n) (k ∷ ks) (b ∷ bs) ek eb =
    table_cons n (λ j. f (get_or (k ∷ ks) j 0) (get_or (b ∷ bs) j 0)) ∙ ap (λ (l : List ℕ). f k b ∷ l) (one_by_one f n ks bs (omega arith) (omega arith))

-- each lane has its own block's result
pub all_lanes : (f : ℕ → ℕ → ℕ) (count : ℕ) (ks bs ms : List ℕ) → length ks ≡ count → length bs ≡ count
    → ((j : ℕ) → j < count → lane j ms ≡ f (get_or ks j 0) (get_or bs j 0)) → columns count ms ≡ one_by_one_of f ks bs
all_lanes f count ks bs ms ek eb h = table_same count (λ j. lane j ms) (λ j. f (get_or ks j 0) (get_or bs j 0)) h ∙ one_by_one f count ks bs ek eb

-- ---- by what the instance holds

module _ (h : Held) (p : Params) (ws : List ℕ) (is : h ≡ Some (p, ws)) where
  pub answer_held : (l lanes count : ℕ) (b a : Account) (blocks keys : List ℕ) (masks cells : ℕ) (r : Result Unit Fault) → l ≡ lanes → b ≡ a
      → r ≡ batch_checks l b (Some (p, ws)) count blocks keys masks cells → r ≡ batch_checks lanes a h count blocks keys masks cells
  answer_held l lanes count b a blocks keys masks cells r el ea e =
      e ∙ ap₂ (λ (x : ℕ) (y : Account). batch_checks x y (Some (p, ws)) count blocks keys masks cells) el ea
      ∙ sym (ap (λ (x : Held). batch_checks lanes a x count blocks keys masks cells) is)
