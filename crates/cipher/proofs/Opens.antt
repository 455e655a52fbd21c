-- The words of a lawful set whose layers have inverses pass the checks of opening, and hold that set.
use Rattle.std.proofs.Common.{◌≡◌, ℕ, zero, suc, ◌+◌, ◌-◌, ◌*◌, ◌/◌, ◌%◌, ◌^◌, ◌<◌, ◌≤◌, min, Bool, true, false, cond, eqb, ltb, List, [], ◌∷◌, ◌++◌, map, length, drop, Some, None, Ok, Option, Result, sym, refl, ap, ◌∙◌, subst, ap₂, mul_assoc, suc-mul, add_comm, zero-mul, arith, length-append, pow_mono, pow-add}
use native.Mathlib.Decide.{dec_le}
use native.Mathlib.Nat.{min-eq_left, min-eq_right}
use lib.Pow.{pow-lt}
use Rattle.std.proofs.lemmas.List.{append_assoc, drop_at, drop-drop, take_at}
use Rattle.std.proofs.lemmas.Bool.{and_from, eq-eqb, le-ltb, lt-ltb}
use Rattle.bits.specs.declared.refusal.Refusal.TheVariants.{TooFewWords}
use Rattle.bits.specs.declared.refusal.Layer.TheVariants.{Set as SetLayer}
use Rattle.bits.specs.declared.refusal.Fault.{Fault}
use Rattle.bits.specs.Refusals.{fault_at, first_of, then}
use Rattle.bits.specs.Gf2.{Below, Inverse, flat, inverse_of, mul, rows, value, words_of}
use Rattle.bits.proofs.Ends.{one_inverse}
use Rattle.bits.proofs.Products.{pow_step}
use Rattle.bits.proofs.Rank.{comb_below, mul_mul}
use Rattle.bits.proofs.Vectors.{length_flat, length_words_of, value_words_of}
use Rattle.cipher.specs.declared.params.Params.{Params}
use Rattle.cipher.specs.Parameters.{block_words_of, key_words_of, layer_words, prepared_words_of}
use Rattle.cipher.specs.Sets.{Each, LawfulSet, Matrix, Set, joined, prepared}
use Rattle.cipher.specs.Laws.{Invertible}
use Rattle.cipher.specs.Instances.{constants_place, first_stray_of, first_wrong_of, inverses_place, inverses_in, keys_place, many_limits, matrices_in, opening, row_limits, same, set_in, stray_at, times, units, word_limits, wrong_at}
use Rattle.cipher.proofs.Bounds.{key_wide, wide}
use Rattle.cipher.proofs.Limits.{facts_limits}
use Rattle.cipher.proofs.SoundSets.{units_mul}
use Rattle.cipher.proofs.Strays.{length_many_limits, length_row_limits}

-- ---- no stray bits

-- each word that has a limit is below it
abbrev Within : List ℕ → List ℕ → Type 0
Within [] ws = Unit {0}
Within (l ∷ ls) [] = Unit {0}
Within (l ∷ ls) (x ∷ ws) = (x < l) × Within ls ws

within_none : (i : ℕ) (ls ws : List ℕ) → Within ls ws → first_stray_of i ls ws ≡ None
within_none i [] ws h = refl
within_none i (l ∷ ls) [] h = refl
within_none i (l ∷ ls) (x ∷ ws) h =
    ap (λ (b : Bool). cond b (first_stray_of (suc i) ls ws) (Some i)) (lt-ltb x l h.0) ∙ within_none (suc i) ls ws h.1

within_append : (A B X Y : List ℕ) → length A ≡ length X → Within A X → Within B Y → Within (A ++ B) (X ++ Y)
within_append [] B [] Y e a b = b
within_append [] B (x ∷ X) Y e a b = absurd (omega arith)
within_append (l ∷ A) B [] Y e a b = absurd (omega arith)
within_append (l ∷ A) B (x ∷ X) Y e a b = (a.0, within_append A B X Y (omega arith) a.1 b)

-- words that have no limit do not matter
within_front : (A X Y : List ℕ) → length A ≡ length X → Within A X → Within A (X ++ Y)
within_front [] X Y e a = tt
within_front (l ∷ A) [] Y e a = absurd (omega arith)
within_front (l ∷ A) (x ∷ X) Y e a = (a.0, within_front A X Y (omega arith) a.1)

row_within : (w bits x : ℕ) → x < 2 ^ bits → Within (row_limits w bits) (words_of w x)
row_within zero bits x h = tt
row_within (suc w) bits x h =
    elim (dec_le bits 64) [
      | yes s ↦
          let m : min 64 bits ≡ bits = min-eq_right s in
          let z : bits - 64 ≡ 0 = omega arith in
          let p : 2 ^ bits ≤ 2 ^ 64 = pow_mono s in
          let low : x % 2 ^ 64 < 2 ^ min 64 bits = subst (λ (k : ℕ). x % 2 ^ 64 < 2 ^ k) (sym m) (omega arith) in
          let high : x / 2 ^ 64 < 2 ^ (bits - 64) = subst (λ (k : ℕ). x / 2 ^ 64 < 2 ^ k) (sym z) (omega arith) in
          (low, row_within w (bits - 64) (x / 2 ^ 64) high)
      | no s ↦
          let m : min 64 bits ≡ 64 = min-eq_left (omega arith) in
          let q : 64 + (bits - 64) ≡ bits = omega arith in
          let p : 2 ^ bits ≡ 2 ^ 64 * 2 ^ (bits - 64) = ap (λ (k : ℕ). 2 ^ k) (sym q) ∙ pow-add 2 64 (bits - 64) in
          let low : x % 2 ^ 64 < 2 ^ min 64 bits = subst (λ (k : ℕ). x % 2 ^ 64 < 2 ^ k) (sym m) (omega arith) in
          let high : x / 2 ^ 64 < 2 ^ (bits - 64) = omega arith in
          (low, row_within w (bits - 64) (x / 2 ^ 64) high)
    ]

rows_within : (w bits count : ℕ) (xs : List ℕ) → length xs ≡ count → Below bits xs → Within (many_limits w bits count) (flat w xs)
rows_within w bits zero [] e b = tt
rows_within w bits zero (x ∷ xs) e b = absurd (omega arith)
rows_within w bits (suc count) [] e b = absurd (omega arith)
rows_within w bits (suc count) (x ∷ xs) e b =
    within_append (row_limits w bits) (many_limits w bits count) (words_of w x) (flat w xs) (length_row_limits w bits ∙ sym (length_words_of w x)) (row_within w bits x b.0)
    (rows_within w bits count xs (omega arith) b.1)

-- as many limits as words
limits_words : (w bits count : ℕ) (xs : List ℕ) → length xs ≡ count → length (many_limits w bits count) ≡ length (flat w xs)
limits_words w bits count xs e = length_many_limits w bits count ∙ ap (λ (k : ℕ). k * w) (sym e) ∙ sym (length_flat w xs)

-- ---- rows and matrices are read back

rows_back : (w k count : ℕ) (xs rest : List ℕ) → k ≤ 64 * w → length xs ≡ count → Below k xs → rows w count (flat w xs ++ rest) ≡ xs
rows_back w k zero [] rest h e b = refl
rows_back w k zero (x ∷ xs) rest h e b = absurd (omega arith)
rows_back w k (suc count) [] rest h e b = absurd (omega arith)
rows_back w k (suc count) (x ∷ xs) rest h e b =
    let l : length (words_of w x) ≡ w = length_words_of w x in
    let small : x < 2 ^ (64 * w) = omega (arith, b.0, pow_mono h) in
    ap (rows w (suc count)) (append_assoc (words_of w x) (flat w xs) rest)
    ∙ ap₂ (λ (p q : List ℕ). value p ∷ rows w count q) (take_at (words_of w x) (flat w xs ++ rest) w l) (drop_at (words_of w x) (flat w xs ++ rest) w l)
    ∙ ap₂ (λ (p : ℕ) (q : List ℕ). p ∷ q) (value_words_of w x small) (rows_back w k count xs rest h (omega arith) b.1)

pub flat_append : (w : ℕ) (xs ys : List ℕ) → flat w (xs ++ ys) ≡ flat w xs ++ flat w ys
flat_append w [] ys = refl
flat_append w (x ∷ xs) ys = ap (λ (zs : List ℕ). words_of w x ++ zs) (flat_append w xs ys) ∙ sym (append_assoc (words_of w x) (flat w xs) (flat w ys))

length_matrix : (w n k : ℕ) (M : List ℕ) → Matrix n k M → length (flat w M) ≡ n * w
length_matrix w n k M m = length_flat w M ∙ ap (λ (i : ℕ). i * w) m.size

matrices_back : (w n k count : ℕ) (Ms : List (List ℕ)) (rest : List ℕ) → k ≤ 64 * w → length Ms ≡ count → Each (Matrix n k) Ms
    → matrices_in w n count (flat w (joined Ms) ++ rest) ≡ Ms
matrices_back w n k zero [] rest h e m = refl
matrices_back w n k zero (M ∷ Ms) rest h e m = absurd (omega arith)
matrices_back w n k (suc count) [] rest h e m = absurd (omega arith)
matrices_back w n k (suc count) (M ∷ Ms) rest h e m =
    let tail : List ℕ = flat w (joined Ms) ++ rest in
    let split : flat w (M ++ joined Ms) ++ rest ≡ flat w M ++ tail =
    ap (λ (xs : List ℕ). xs ++ rest) (flat_append w M (joined Ms)) ∙ append_assoc (flat w M) (flat w (joined Ms)) rest in
    ap (matrices_in w n (suc count)) split
    ∙ ap₂ (λ (A : List ℕ) (B : List (List ℕ)). A ∷ B) (rows_back w k n M tail h m.0.size m.0.narrow)
    (ap (matrices_in w n count) (drop_at (flat w M) tail (n * w) (length_matrix w n k M m.0)) ∙ matrices_back w n k count Ms rest h (omega arith) m.1)

pub length_joined : (n k count : ℕ) (Ms : List (List ℕ)) → length Ms ≡ count → Each (Matrix n k) Ms → length (joined Ms) ≡ count * n
length_joined n k zero [] e m = sym (zero-mul n)
length_joined n k zero (M ∷ Ms) e m = absurd (omega arith)
length_joined n k (suc count) [] e m = absurd (omega arith)
length_joined n k (suc count) (M ∷ Ms) e m =
    length-append M (joined Ms) ∙ ap₂ ◌+◌ m.0.size (length_joined n k count Ms (omega arith) m.1) ∙ add_comm n (count * n) ∙ sym (suc-mul count n)

below_append : (k : ℕ) (xs ys : List ℕ) → Below k xs → Below k ys → Below k (xs ++ ys)
below_append k [] ys a b = b
below_append k (x ∷ xs) ys a b = (a.0, below_append k xs ys a.1 b)

below_joined : (n k : ℕ) (Ms : List (List ℕ)) → Each (Matrix n k) Ms → Below k (joined Ms)
below_joined n k [] m = tt
below_joined n k (M ∷ Ms) m = below_append k M (joined Ms) m.0.narrow (below_joined n k Ms m.1)

-- ---- inverses

inverses_square : (n : ℕ) (Ls : List (List ℕ)) → Each (Matrix n n) Ls → Each Invertible Ls → Each (Matrix n n) (map inverse_of Ls)
inverses_square n [] m v = tt
inverses_square n (L ∷ Ls) m v = (
  record { size = v.0.size ∙ m.0.size; narrow = subst (λ (k : ℕ). Below k (inverse_of L)) m.0.size v.0.small },
  inverses_square n Ls m.1 v.1,
)

length_map : (Ls : List (List ℕ)) → length (map inverse_of Ls) ≡ length Ls
length_map [] = refl
length_map (L ∷ Ls) = ap suc (length_map Ls)

length_times : (M L : List ℕ) → length (times M L) ≡ length M
length_times [] L = refl
length_times (x ∷ M) L = ap suc (length_times M L)

times_below : (n : ℕ) (M L : List ℕ) → Below n L → Below n (times M L)
times_below n [] L b = tt
times_below n (x ∷ M) L b = (comb_below n L b x, times_below n M L b)

length_units : (p n : ℕ) → length (units p n) ≡ n
length_units p zero = refl
length_units p (suc n) = ap suc (length_units (2 * p) n)

-- the rows from 2^i on, of which the last is below 2^(i + n)
units_below : (i n m : ℕ) → i + n ≤ m → Below m (units (2 ^ i) n)
units_below i zero m h = tt
units_below i (suc n) m h =
    let e : 2 * 2 ^ i ≡ 2 ^ suc i = sym (pow_step i) in
    (pow-lt (omega arith), subst (λ (p : ℕ). Below m (units p n)) (sym e) (units_below (suc i) n m (omega arith)))

same_self : (xs ys : List ℕ) → xs ≡ ys → same xs ys ≡ true
same_self xs ys e = ap (same xs) (sym e) ∙ go xs
  where
    go : (xs : List ℕ) → same xs xs ≡ true
    go [] = refl
    go (x ∷ xs) = and_from (eqb x x) (same xs xs) (eq-eqb x x refl) (go xs)

-- the inverse times the matrix is the identity
product_units : (n : ℕ) (L : List ℕ) → Matrix n n L → Invertible L → times (inverse_of L) L ≡ units 1 n
product_units n L m v =
    let I : List ℕ = units 1 n in
    let T : List ℕ = times (inverse_of L) L in
    let size : length I ≡ n = length_units 1 n in
    let both : length T ≡ n = length_times (inverse_of L) L ∙ v.size ∙ m.size in
    let to : (x : ℕ) → x < 2 ^ n → x < 2 ^ length L = λ x h. subst (λ (k : ℕ). x < 2 ^ k) (sym m.size) h in
    let from : (x : ℕ) → x < 2 ^ length I → x < 2 ^ n = λ x h. subst (λ (k : ℕ). x < 2 ^ k) size h in
    let undo : (x : ℕ) → x < 2 ^ n → mul T x ≡ x = λ x h. mul_mul (inverse_of L) L x ∙ v.left x (to x h) in
    let narrow : Below n L = m.narrow in
    let one : Inverse I T =
    record {
      size = both ∙ sym size;
      small = subst (λ (k : ℕ). Below k T) (sym size) (times_below n (inverse_of L) L narrow);
      left = λ x h. ap (mul T) (units_mul n x (from x h)) ∙ undo x (from x h);
      right = λ x h. ap (mul I) (undo x (from x h)) ∙ units_mul n x (from x h);
    } in
    let other : Inverse I I =
    record {
      size = refl;
      small = subst (λ (k : ℕ). Below k I) (sym size) (units_below 0 n n (omega arith));
      left = λ x h. ap (mul I) (units_mul n x (from x h)) ∙ units_mul n x (from x h);
      right = λ x h. ap (mul I) (units_mul n x (from x h)) ∙ units_mul n x (from x h);
    } in
    one_inverse I T I one other

none_wrong : (n i : ℕ) (Ls : List (List ℕ)) → Each (Matrix n n) Ls → Each Invertible Ls → first_wrong_of n i (map inverse_of Ls) Ls ≡ None
none_wrong n i [] m v = refl
none_wrong n i (L ∷ Ls) m v =
    ap (λ (b : Bool). cond b (first_wrong_of n (suc i) (map inverse_of Ls) Ls) (Some i)) (same_self (times (inverse_of L) L) (units 1 n) (product_units n L m.0 v.0))
    ∙ none_wrong n (suc i) Ls m.1 v.1

-- ---- a whole set

abbrev set_of_parts : Params → List (List ℕ) → List ℕ → List (List ℕ) → Set
set_of_parts p L C K = record { params = p; layers = L; constants = C; keys = K }

-- the checks one by one
abbrev checked : Params → Result Unit Fault → Bool → Option ℕ → Option ℕ → Result Unit Fault
checked p l short stray wrong =
    then l (λ _. then (first_of ((short, fault_at TooFewWords SetLayer (prepared_words_of p)) ∷ [])) (λ _. then (stray_at SetLayer stray) (λ _. wrong_at wrong)))

module _ (s : Set) (h : LawfulSet s) (v : Each Invertible s.layers) (rest : List ℕ) where
  abbrev p : Params
  p = s.params

  -- the four parts
  abbrev Ls : List ℕ
  Ls = flat (block_words_of p) (joined s.layers)

  abbrev Cs : List ℕ
  Cs = flat (block_words_of p) s.constants

  abbrev Ks : List ℕ
  Ks = flat (key_words_of p) (joined s.keys)

  abbrev Ms : List ℕ
  Ms = flat (block_words_of p) (joined (map inverse_of s.layers))

  abbrev ws : List ℕ
  ws = prepared s ++ rest

  parts : ws ≡ Ls ++ (Cs ++ (Ks ++ (Ms ++ rest)))
  parts =
      append_assoc Ls (Cs ++ (Ks ++ Ms)) rest
      ∙ ap (λ (xs : List ℕ). Ls ++ xs) (append_assoc Cs (Ks ++ Ms) rest ∙ ap (λ (xs : List ℕ). Cs ++ xs) (append_assoc Ks Ms rest))

  inverses : Each (Matrix p.n p.n) (map inverse_of s.layers)
  inverses = inverses_square p.n s.layers h.layers v

  inverse_rounds : length (map inverse_of s.layers) ≡ p.r
  inverse_rounds = length_map s.layers ∙ h.rounds

  -- their lengths
  long_ls : length Ls ≡ constants_place p
  long_ls = length_flat (block_words_of p) (joined s.layers) ∙ ap (λ (k : ℕ). k * block_words_of p) (length_joined p.n p.n p.r s.layers h.rounds h.layers) ∙ mul_assoc p.r p.n (block_words_of p)

  long_cs : length Cs ≡ p.r * block_words_of p
  long_cs = length_flat (block_words_of p) s.constants ∙ ap (λ (k : ℕ). k * block_words_of p) h.constants.size

  long_ks : length Ks ≡ (p.r + 1) * (p.n * key_words_of p)
  long_ks =
      length_flat (key_words_of p) (joined s.keys) ∙ ap (λ (k : ℕ). k * key_words_of p) (length_joined p.n p.k (p.r + 1) s.keys h.key_rounds h.keys)
      ∙ mul_assoc (p.r + 1) p.n (key_words_of p)

  long_ms : length Ms ≡ layer_words p
  long_ms =
      length_flat (block_words_of p) (joined (map inverse_of s.layers))
      ∙ ap (λ (k : ℕ). k * block_words_of p) (length_joined p.n p.n p.r (map inverse_of s.layers) inverse_rounds inverses) ∙ mul_assoc p.r p.n (block_words_of p)

  pub prepared_long : length (prepared s) ≡ prepared_words_of p
  prepared_long = simp length-append (omega (arith, long_ls, long_cs, long_ks, long_ms))

  -- what stands from their places on
  from_cs : drop (constants_place p) ws ≡ Cs ++ (Ks ++ (Ms ++ rest))
  from_cs = ap (drop (constants_place p)) parts ∙ drop_at Ls (Cs ++ (Ks ++ (Ms ++ rest))) (constants_place p) long_ls

  from_ks : drop (keys_place p) ws ≡ Ks ++ (Ms ++ rest)
  from_ks = sym (drop-drop (p.r * block_words_of p) (constants_place p) ws) ∙ ap (drop (p.r * block_words_of p)) from_cs ∙ drop_at Cs (Ks ++ (Ms ++ rest)) (p.r * block_words_of p) long_cs

  from_ms : drop (inverses_place p) ws ≡ Ms ++ rest
  from_ms =
      let size : ℕ = (p.r + 1) * (p.n * key_words_of p) in
      sym (drop-drop size (keys_place p) ws) ∙ ap (drop size) from_ks ∙ drop_at Ks (Ms ++ rest) size long_ks

  -- the words hold the set
  back_layers : (set_in p ws).layers ≡ s.layers
  back_layers =
      ap (matrices_in (block_words_of p) p.n p.r) parts
      ∙ matrices_back (block_words_of p) p.n p.n p.r s.layers (Cs ++ (Ks ++ (Ms ++ rest))) (wide p) h.rounds h.layers

  back_constants : (set_in p ws).constants ≡ s.constants
  back_constants =
      ap (rows (block_words_of p) p.r) from_cs
      ∙ rows_back (block_words_of p) p.n p.r s.constants (Ks ++ (Ms ++ rest)) (wide p) h.constants.size h.constants.narrow

  back_keys : (set_in p ws).keys ≡ s.keys
  back_keys =
      ap (matrices_in (key_words_of p) p.n (p.r + 1)) from_ks
      ∙ matrices_back (key_words_of p) p.n p.k (p.r + 1) s.keys (Ms ++ rest) (key_wide p) h.key_rounds h.keys

  back_inverses : inverses_in p ws ≡ map inverse_of s.layers
  back_inverses =
      ap (matrices_in (block_words_of p) p.n p.r) from_ms
      ∙ matrices_back (block_words_of p) p.n p.n p.r (map inverse_of s.layers) rest (wide p) inverse_rounds inverses

  pub prepared_holds : set_in p ws ≡ s
  prepared_holds =
      ap₂ (λ (L : List (List ℕ)) (C : List ℕ). set_of_parts p L C (set_in p ws).keys) back_layers back_constants
      ∙ ap (λ (K : List (List ℕ)). set_of_parts p s.layers s.constants K) back_keys

  -- no word has a stray bit
  clean : first_stray_of 0 (word_limits p) ws ≡ None
  clean =
      let blocks : List ℕ = joined s.layers ++ s.constants in
      let count : length blocks ≡ p.r * p.n + p.r =
      length-append (joined s.layers) s.constants ∙ ap₂ ◌+◌ (length_joined p.n p.n p.r s.layers h.rounds h.layers) h.constants.size in
      let keys : length (joined s.keys) ≡ (p.r + 1) * p.n = length_joined p.n p.k (p.r + 1) s.keys h.key_rounds h.keys in
      let count-Ms : length (joined (map inverse_of s.layers)) ≡ p.r * p.n = length_joined p.n p.n p.r (map inverse_of s.layers) inverse_rounds inverses in
      let is : ws ≡ flat (block_words_of p) blocks ++ (Ks ++ (Ms ++ rest)) =
      parts ∙ sym (append_assoc Ls Cs (Ks ++ (Ms ++ rest))) ∙ ap (λ (xs : List ℕ). xs ++ (Ks ++ (Ms ++ rest))) (sym (flat_append (block_words_of p) (joined s.layers) s.constants)) in
      ap (first_stray_of 0 (word_limits p)) is
      ∙ within_none 0 (word_limits p) (flat (block_words_of p) blocks ++ (Ks ++ (Ms ++ rest)))
      (within_append _ _ (flat (block_words_of p) blocks) (Ks ++ (Ms ++ rest)) (limits_words (block_words_of p) p.n (p.r * p.n + p.r) blocks count)
      (rows_within (block_words_of p) p.n (p.r * p.n + p.r) blocks count
      (below_append p.n (joined s.layers) s.constants (below_joined p.n p.n s.layers h.layers) h.constants.narrow))
      (within_append _ _ Ks (Ms ++ rest) (limits_words (key_words_of p) p.k ((p.r + 1) * p.n) (joined s.keys) keys)
      (rows_within (key_words_of p) p.k ((p.r + 1) * p.n) (joined s.keys) keys (below_joined p.n p.k s.keys h.keys))
      (within_front _ Ms rest (limits_words (block_words_of p) p.n (p.r * p.n) (joined (map inverse_of s.layers)) count-Ms)
      (rows_within (block_words_of p) p.n (p.r * p.n) (joined (map inverse_of s.layers)) count-Ms (below_joined p.n p.n (map inverse_of s.layers) inverses)))))

  right : first_wrong_of p.n 1 (inverses_in p ws) (set_in p ws).layers ≡ None
  right = ap₂ (first_wrong_of p.n 1) back_inverses back_layers ∙ none_wrong p.n 1 s.layers h.layers v

  pub prepared_opens : opening p ws ≡ Ok tt
  prepared_opens =
      let room : ltb (length ws) (prepared_words_of p) ≡ false = le-ltb (length ws) (prepared_words_of p) (omega (arith, length-append (prepared s) rest, prepared_long)) in
      ap₂ (λ (l : Result Unit Fault) (b : Bool). checked p l b (first_stray_of 0 (word_limits p) ws) (first_wrong_of p.n 1 (inverses_in p ws) (set_in p ws).layers)) (facts_limits p h.limits) room
      ∙ ap₂ (λ (a b : Option ℕ). checked p (Ok tt) false a b) clean right
