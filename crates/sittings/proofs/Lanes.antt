-- What an accepted batch leaves in its lanes.
use Rattle.std.proofs.Common.{◌≡◌, ℕ, zero, suc, ◌*◌, ◌^◌, ◌<◌, ◌≤◌, List, [], ◌∷◌, length, get_or, Some, None, Ok, vec_items, Option, Result, sym, refl, ap, ◌∙◌, subst, ap₂, inl, inr, arith, pow_mono}
use Rattle.bits.specs.declared.refusal.Fault.{Fault}
use Rattle.bits.specs.Gf2.{Below, flat, rows}
use Rattle.bits.proofs.Vectors.{length_rows, rows_flat}
use Rattle.cipher.specs.declared.params.Params.{Params}
use Rattle.cipher.specs.declared.direction.Direction.{Direction}
use Rattle.cipher.specs.declared.direction.Direction.TheVariants.{Encrypt as Forth, Decrypt as Back}
use Rattle.cipher.specs.Parameters.{block_words_of, key_words_of}
use Rattle.cipher.specs.Sets.{Each, LawfulSet, Set}
use Rattle.cipher.specs.LowMC.{encrypt}
use Rattle.cipher.specs.Laws.{Invertible}
use Rattle.cipher.specs.Directions.{along}
use Rattle.cipher.specs.Instances.{set_in}
use Rattle.cipher.specs.Blocks.{Held}
use Rattle.cipher.specs.Sound.{Sound, TrueInverses}
use Rattle.cipher.specs.Holds.{held_by}
use Rattle.cipher.proofs.Calls.{along_below}
use Rattle.cipher.proofs.SoundSets.{sound_held}
use Rattle.cipher.proofs.Rounds.{encrypt_injective}
use Rattle.engines.specs.declared.engine.Account.{Account}
use Rattle.batches.specs.Batches.{batch_checks, blocks_after, one_by_one_of}
use Rattle.batches.proofs.Admitted.{admitted}
use Rattle.batches.proofs.Packing.{below_at}
use Rattle.sittings.specs.declared.entry.Batch.{Batch}
use Rattle.sittings.specs.declared.entry.Call.{Call}
use Rattle.sittings.specs.declared.entry.Entry.{Entry}
use Rattle.sittings.specs.Runs.{AnsweredBy, Coded, Run, Step}
use Rattle.sittings.specs.Laws.{Accepted, AllApart, AllLanes, Under, asked, block_at, key_at, set_held}

-- ---- numbers below a power of two

below_wide : (m n : ℕ) (xs : List ℕ) → m ≤ n → Below m xs → Below n xs
below_wide m n [] h b = tt
below_wide m n (x ∷ xs) h b = (omega (arith, b.0, pow_mono h), below_wide m n xs h b.1)

-- ---- each block under its own key

module _ (f : ℕ → ℕ → ℕ) where
  one_length : (ks bs : List ℕ) → length ks ≡ length bs → length (one_by_one_of f ks bs) ≡ length bs
  one_length [] [] e = refl
  one_length [] (b ∷ bs) e = absurd (omega arith)
  one_length (k ∷ ks) [] e = absurd (omega arith)
  one_length (k ∷ ks) (b ∷ bs) e = ap suc (one_length ks bs (omega arith))

  one_get : (ks bs : List ℕ) (j : ℕ) → length ks ≡ length bs → j < length bs → get_or (one_by_one_of f ks bs) j 0 ≡ f (get_or ks j 0) (get_or bs j 0)
  one_get [] [] j e h = absurd (omega arith)
  one_get [] (b ∷ bs) j e h = absurd (omega arith)
  one_get (k ∷ ks) [] j e h = absurd (omega arith)
  one_get (k ∷ ks) (b ∷ bs) zero e h = refl
  one_get (k ∷ ks) (b ∷ bs) (suc j) e h = one_get ks bs j (omega arith) (omega arith)

  one_below : (n : ℕ) → ((k x : ℕ) → x < 2 ^ n → f k x < 2 ^ n) → (ks bs : List ℕ) → Below n bs → Below n (one_by_one_of f ks bs)
  one_below n g [] bs b = tt
  one_below n g (k ∷ ks) [] b = tt
  one_below n g (k ∷ ks) (x ∷ bs) b = (g k x b.0, one_below n g ks bs b.1)

  -- read back from its words
  one_lane : (n w v count : ℕ) → n ≤ 64 * w → ((k x : ℕ) → x < 2 ^ n → f k x < 2 ^ n) → (ks bs : List ℕ) → Below n (rows w count bs)
      → (j : ℕ) → j < count → get_or (rows w count (flat w (one_by_one_of f (rows v count ks) (rows w count bs)))) j 0 ≡ f (get_or (rows v count ks) j 0) (get_or (rows w count bs) j 0)
  one_lane n w v count wide g ks bs b j h =
      let xs = rows v count ks in
      let ys = rows w count bs in
      let lx : length xs ≡ count = length_rows v count ks in
      let ly : length ys ≡ count = length_rows w count bs in
      let e : length xs ≡ length ys = lx ∙ sym ly in
      let l : length (one_by_one_of f xs ys) ≡ count = one_length xs ys e ∙ ly in
      let back = rows_flat w (one_by_one_of f xs ys) (below_wide n (64 * w) (one_by_one_of f xs ys) wide (one_below n g xs ys b)) in
      ap (λ (c : ℕ). get_or (rows w c (flat w (one_by_one_of f xs ys))) j 0) (sym l) ∙ ap (λ (zs : List ℕ). get_or zs j 0) back
      ∙ one_get xs ys j e (omega (arith, ly, h))

-- ---- what the checks tell

-- a set is held, and the blocks are its blocks
record Fits (h : Held) (count : ℕ) (bs : List ℕ) : Type 0 where
  pub params : Params
  pub words : List ℕ
  pub is : h ≡ Some (params, words)
  pub small : Below params.n (rows (block_words_of params) count bs)

fits : (lanes : ℕ) (a : Account) (h : Held) (count : ℕ) (bs ks : List ℕ) (m c : ℕ) → Ok tt ≡ batch_checks lanes a h count bs ks m c → Fits h count bs
fits lanes a None count bs ks m c e = absurd cc
fits lanes a (Some (p, ws)) count bs ks m c e = record { params = p; words = ws; is = refl; small = (admitted lanes count p ws a bs ks m c e).narrow }

-- ---- an accepted batch

-- the set that it was under, and what holds of it
record Told {W : Type 0} (way : Direction) (x y : Batch W) (s : Set) : Type 0 where
  pub under : Under s x
  pub lanes : (j : ℕ) → j < x.count → block_at s y j ≡ along way s (key_at s x j) (block_at s x j)
  pub lawful : LawfulSet s
  pub invertible : Each Invertible s.layers
  pub small : (j : ℕ) → block_at s x j < 2 ^ s.params.n

module _ {W : Type 0} (means : W → ℕ) (lanes : ℕ) where
  told : (way : Direction) (a b : Account) (x y : Batch W) → Coded means lanes way a x y (Ok tt) b → (s : Set) × Told way x y s
  told way a b x y c =
      let f = fits lanes a (held_by x.held) x.count (vec_items x.blocks) (vec_items x.keys) _ _ c.answer in
      let p = f.params in
      let ws = f.words in
      let t : TrueInverses p ws = subst Sound f.is (sound_held x.held.opened) in
      let wide : p.n ≤ 64 * block_words_of p = omega arith in
      let after : vec_items y.blocks ≡ blocks_after (along way) (Some (p, ws)) (Ok tt) x.count (vec_items x.keys) (vec_items x.blocks) =
      c.blocks ∙ ap (λ (h : Held). blocks_after (along way) h (Ok tt) x.count (vec_items x.keys) (vec_items x.blocks)) f.is in (
        set_in p ws,
        record {
          under = ap set_held f.is;
          lanes = λ j h.
              ap₂ (λ (n : ℕ) (ds : List ℕ). get_or (rows (block_words_of p) n ds) j 0) c.kept.count after
              ∙ one_lane (along way (set_in p ws)) p.n (block_words_of p) (key_words_of p) x.count wide (along_below way p ws t) (vec_items x.keys) (vec_items x.blocks) f.small j h;
          lawful = t.lawful;
          invertible = t.invertible;
          small = λ j. below_at p.n (rows (block_words_of p) x.count (vec_items x.blocks)) j f.small;
        },
      )

  asked_coded : (way : Direction) (a b : Account) (x y : Batch W) (r : Result Unit Fault) → Step means lanes a (asked way x) (asked way y) r b → Coded means lanes way a x y r b
  asked_coded Forth a b x y r s = s
  asked_coded Back a b x y r s = s

  module _ (way : Direction) (x y : Batch W) where
    accepted : (a b : Account) (xs ys : List (Entry W)) → Run means lanes a xs ys b → Accepted way x y xs ys → (s : Set) × Told way x y s
    accepted a b [] ys r w = absurd w
    accepted a b (u ∷ us) [] r w = absurd w
    accepted a b (u ∷ us) (v ∷ vs) r (inl w) =
        told way a r.0 x y (asked_coded way a r.0 x y (Ok tt)
        (subst (λ (o : Option (Result Unit Fault)). AnsweredBy means lanes a (asked way x) (asked way y) o r.0) w.2
        (subst (λ (c : Call W). AnsweredBy means lanes a (asked way x) c v.answer r.0) w.1
        (subst (λ (c : Call W). AnsweredBy means lanes a c v.call v.answer r.0) w.0 r.1))))
    accepted a b (u ∷ us) (v ∷ vs) r (inr w) = accepted r.0 b us vs r.2 w

  pub all_lanes : (a b : Account) (xs ys : List (Entry W)) → Run means lanes a xs ys b → AllLanes xs ys
  all_lanes a b xs ys r way x y w = let t = accepted way x y a b xs ys r w in record { set = t.0; under = t.1.under; lanes = t.1.lanes }

-- ---- two encryptions

-- what is under a set is told of that set
told_of : {W : Type 0} (way : Direction) (x y : Batch W) (s : Set) → (t : Set) × Told way x y t → Under s x → Told way x y s
told_of way x y s t u = let o = t.1.under in let e : t.0 ≡ s = cc in subst (Told way x y) e t.1

module _ {V W : Type 0} (means : V → ℕ) (lanes : ℕ) (a b : Account) (xs xs' : List (Entry V)) (r : Run means lanes a xs xs' b)
    (means' : W → ℕ) (lanes' : ℕ) (c d : Account) (ys ys' : List (Entry W)) (r' : Run means' lanes' c ys ys' d) where
  pub all_apart : AllApart xs xs' ys ys'
  all_apart x x' y y' w w' s u u' i j h h' k =
      let t = told_of Forth x x' s (accepted means lanes Forth x x' a b xs xs' r w) u in
      let t' = told_of Forth y y' s (accepted means' lanes' Forth y y' c d ys ys' r' w') u' in
      let l = t.lanes i h in
      let l' : block_at s y' j ≡ encrypt s (key_at s x i) (block_at s y j) = t'.lanes j h' ∙ ap (λ (z : ℕ). encrypt s z (block_at s y j)) (sym k) in
      record {
        to = λ e. encrypt_injective s t.lawful t.invertible (key_at s x i) (block_at s x i) (block_at s y j) (t.small i) (t'.small j) (sym l ∙ e ∙ l');
        from = λ e. l ∙ ap (encrypt s (key_at s x i)) e ∙ sym l';
      }
