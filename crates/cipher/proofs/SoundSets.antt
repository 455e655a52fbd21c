-- What the checks of opening tell of a set that passes them.
use Rattle.std.proofs.Common.{◌≡◌, ℕ, zero, suc, ◌+◌, ◌*◌, ◌/◌, ◌^◌, ◌<◌, ◌≤◌, Bool, true, false, cond, eqb, List, [], ◌∷◌, ◌++◌, map, length, drop, is_ok, Some, None, Ok, Err, Option, Result, sym, refl, ap, ◌∙◌, subst, ap₂, mul_assoc, suc-mul, add_comm, zero-mul, arith, length-drop}
use Rattle.std.proofs.lemmas.List.{drop-drop}
use Rattle.std.proofs.lemmas.Bool.{and_parts, eqb-true, ltb-false}
use Rattle.bits.specs.declared.refusal.Fault.{Fault}
use Rattle.bits.specs.declared.refusal.Layer.{Layer}
use Rattle.bits.specs.Refusals.{first_of, then}
use Rattle.bits.specs.Gf2.{Below, Inverse, inverse_of, mul, rows}
use Rattle.bits.proofs.Ends.{inverse_is}
use Rattle.bits.proofs.Inverse.{one_side_is_both}
use Rattle.bits.proofs.Products.{pow_step}
use Rattle.bits.proofs.Rank.{dot_double, dot_one, mul_mul}
use Rattle.bits.proofs.Vectors.{length_rows}
use Rattle.cipher.specs.declared.params.Params.{Params}
use Rattle.cipher.specs.Parameters.{Lawful, block_words_of, key_words_of, prepared_words_of}
use Rattle.cipher.specs.Sets.{Each, LawfulSet, Matrix}
use Rattle.cipher.specs.Laws.{Invertible}
use Rattle.cipher.specs.Instances.{constants_place, first_stray_of, first_wrong_of, inverses_place, inverses_in, keys_place, matrices_in, opening, same, set_in, stray_at, times, units, word_limits, wrong_at}
use Rattle.cipher.specs.declared.opened.Opened.{Opened}
use Rattle.cipher.specs.Held.{held_in}
use Rattle.cipher.specs.Sound.{Sound, TrueInverses}
use Rattle.cipher.proofs.Bounds.{key_wide, wide}
use Rattle.cipher.proofs.Limits.{limits_facts}
use Rattle.cipher.proofs.Passes.{length_matrices}
use Rattle.cipher.proofs.Strays.{before_inverses, before_keys, rows_none, set_none, to_the_end}

-- ---- rows and matrices within their bits

rows_split : (w a b : ℕ) (ws : List ℕ) → rows w (a + b) ws ≡ rows w a ws ++ rows w b (drop (a * w) ws)
rows_split w zero b ws =
    let e : 0 + b ≡ b = omega arith in
    ap (λ (k : ℕ). rows w k ws) e ∙ ap (λ (k : ℕ). rows w b (drop k ws)) (sym (zero-mul w))
rows_split w (suc a) b ws =
    let e : suc a + b ≡ suc (a + b) = omega arith in
    ap (λ (k : ℕ). rows w k ws) e
    ∙ ap (λ (xs : List ℕ). rows w 1 ws ++ xs)
    (rows_split w a b (drop w ws)
    ∙ ap (λ (xs : List ℕ). rows w a (drop w ws) ++ rows w b xs) (drop-drop (a * w) w ws ∙ ap (λ (k : ℕ). drop k ws) (add_comm w (a * w) ∙ sym (suc-mul a w))))

below_split : (k : ℕ) (xs ys : List ℕ) → Below k (xs ++ ys) → Below k xs × Below k ys
below_split k [] ys b = (tt, b)
below_split k (x ∷ xs) ys b = let p = below_split k xs ys b.1 in ((b.0, p.0), p.1)

below_parts : (k w a b : ℕ) (ws : List ℕ) → Below k (rows w (a + b) ws) → Below k (rows w a ws) × Below k (rows w b (drop (a * w) ws))
below_parts k w a b ws h = below_split k (rows w a ws) (rows w b (drop (a * w) ws)) (subst (Below k) (rows_split w a b ws) h)

pub each_matrices : (k w n r : ℕ) (ws : List ℕ) → Below k (rows w (r * n) ws) → Each (Matrix n k) (matrices_in w n r ws)
each_matrices k w n zero ws h = tt
each_matrices k w n (suc r) ws h =
    let p = below_parts k w n (r * n) ws (subst (λ (c : ℕ). Below k (rows w c ws)) (suc-mul r n ∙ add_comm (r * n) n) h) in
    (record { size = length_rows w n ws; narrow = p.0 }, each_matrices k w n r (drop (n * w) ws) p.1)

-- ---- a product that is the identity

units_double : (n p x : ℕ) → mul (units (2 * p) n) x ≡ mul (units p n) (x / 2)
units_double zero p x = refl
units_double (suc n) p x = ap₂ (λ (a b : ℕ). a + 2 * b) (dot_double p x) (units_double n (2 * p) x)

pub units_mul : (n x : ℕ) → x < 2 ^ n → mul (units 1 n) x ≡ x
units_mul zero x h = omega arith
units_mul (suc n) x h = omega (arith, dot_one x, units_double n 1 x, units_mul n (x / 2) (omega (arith, pow_step n)))

pub same_is : (xs ys : List ℕ) → same xs ys ≡ true → xs ≡ ys
same_is [] [] e = refl
same_is [] (y ∷ ys) e = absurd (let z : ◌≡◌ {A = ℕ} 0 1 = cc in omega arith)
same_is (x ∷ xs) [] e = absurd (let z : ◌≡◌ {A = ℕ} 0 1 = cc in omega arith)
same_is (x ∷ xs) (y ∷ ys) e =
    let p = and_parts (eqb x y) (same xs ys) e in
    ap₂ (λ (a : ℕ) (b : List ℕ). a ∷ b) (eqb-true x y p.0) (same_is xs ys p.1)

-- so M undoes L on both sides
pub undone_by : (n : ℕ) (M L : List ℕ) → Matrix n n M → Matrix n n L → same (times M L) (units 1 n) ≡ true → Inverse L M
undone_by n M L m l e =
    let size : length M ≡ length L = m.size ∙ sym l.size in
    let left : (x : ℕ) → x < 2 ^ length L → mul M (mul L x) ≡ x =
    λ x h. sym (mul_mul M L x) ∙ ap (λ (N : List ℕ). mul N x) (same_is (times M L) (units 1 n) e) ∙ units_mul n x (subst (λ (k : ℕ). x < 2 ^ k) l.size h) in
    record { size = size; small = subst (λ (k : ℕ). Below k M) (sym l.size) m.narrow; left = left; right = one_side_is_both L M size left }

right_first : (b : Bool) (r : Option ℕ) (i : ℕ) → cond b r (Some i) ≡ None → (b ≡ true) × (r ≡ None)
right_first true r i e = (refl, e)
right_first false r i e = absurd (let z : ◌≡◌ {A = ℕ} 0 1 = cc in omega arith)

pub all_right : (n i : ℕ) (Ms Ls : List (List ℕ)) → length Ms ≡ length Ls → Each (Matrix n n) Ms → Each (Matrix n n) Ls → first_wrong_of n i Ms Ls ≡ None
    → (Ms ≡ map inverse_of Ls) × Each Invertible Ls
all_right n i [] [] e m l w = (refl, tt)
all_right n i [] (L ∷ Ls) e m l w = absurd (omega arith)
all_right n i (M ∷ Ms) [] e m l w = absurd (omega arith)
all_right n i (M ∷ Ms) (L ∷ Ls) e m l w =
    let p = right_first (same (times M L) (units 1 n)) (first_wrong_of n (suc i) Ms Ls) i w in
    let v : Inverse L M = undone_by n M L m.0 l.0 p.0 in
    let q : M ≡ inverse_of L = inverse_is L M v in
    let rest = all_right n (suc i) Ms Ls (omega arith) m.1 l.1 p.1 in
    (ap₂ (λ (a : List ℕ) (b : List (List ℕ)). a ∷ b) q rest.0, (subst (Inverse L) q v, rest.1))

-- ---- the checks

pub then_ok : {A B : Type 0} (r : Result A Fault) (f : A → Result B Fault) → is_ok (then r f) ≡ true → (a : A) × (r ≡ Ok a) × (is_ok (f a) ≡ true)
then_ok (Ok a) f e = (a, refl, e)
then_ok (Err x) f e = absurd (let z : ◌≡◌ {A = ℕ} 0 1 = cc in omega arith)

pub one_check : (b : Bool) (x : Fault) → first_of ((b, x) ∷ []) ≡ Ok tt → b ≡ false
one_check true x e = absurd (let z : ◌≡◌ {A = ℕ} 0 1 = cc in omega arith)
one_check false x e = refl

pub no_stray : (layer : Layer) (o : Option ℕ) → stray_at layer o ≡ Ok tt → o ≡ None
no_stray layer None e = refl
no_stray layer (Some i) e = absurd (let z : ◌≡◌ {A = ℕ} 0 1 = cc in omega arith)

none_wrong : (o : Option ℕ) → is_ok (wrong_at o) ≡ true → o ≡ None
none_wrong None e = refl
none_wrong (Some i) e = absurd (let z : ◌≡◌ {A = ℕ} 0 1 = cc in omega arith)

module _ (p : Params) (ws : List ℕ) (limits : Lawful p) (room : prepared_words_of p ≤ length ws) (clean : first_stray_of 0 (word_limits p) ws ≡ None) where
  blocks : Below p.n (rows (block_words_of p) (p.r * p.n + p.r) ws)
  blocks = rows_none 0 (block_words_of p) p.n (p.r * p.n + p.r) ws (omega (arith, before_keys p, before_inverses p, to_the_end p)) (wide p) (set_none p ws room clean).0

  keys : Below p.k (rows (key_words_of p) ((p.r + 1) * p.n) (drop (keys_place p) ws))
  keys = rows_none (keys_place p) (key_words_of p) p.k ((p.r + 1) * p.n) (drop (keys_place p) ws)
      (simp length-drop (omega (arith, before_inverses p, to_the_end p))) (key_wide p) (set_none p ws room clean).1

  inverses : Below p.n (rows (block_words_of p) (p.r * p.n) (drop (inverses_place p) ws))
  inverses = rows_none (inverses_place p) (block_words_of p) p.n (p.r * p.n) (drop (inverses_place p) ws)
      (simp length-drop (omega (arith, to_the_end p))) (wide p) (set_none p ws room clean).2

  pub lawful_set : LawfulSet (set_in p ws)
  lawful_set =
      let b = below_parts p.n (block_words_of p) (p.r * p.n) p.r ws blocks in
      record {
        limits = limits;
        rounds = length_matrices (block_words_of p) p.n p.r ws;
        layers = each_matrices p.n (block_words_of p) p.n p.r ws b.0;
        constants = record {
          size = length_rows (block_words_of p) p.r (drop (constants_place p) ws);
          narrow = subst (λ (k : ℕ). Below p.n (rows (block_words_of p) p.r (drop k ws))) (mul_assoc p.r p.n (block_words_of p)) b.1;
        };
        key_rounds = length_matrices (key_words_of p) p.n (p.r + 1) (drop (keys_place p) ws);
        keys = each_matrices p.k (key_words_of p) p.n (p.r + 1) (drop (keys_place p) ws) keys;
      }

  pub true_inverses : first_wrong_of p.n 1 (inverses_in p ws) (set_in p ws).layers ≡ None → TrueInverses p ws
  true_inverses right =
      let same_length : length (inverses_in p ws) ≡ length (set_in p ws).layers =
      length_matrices (block_words_of p) p.n p.r (drop (inverses_place p) ws) ∙ sym (length_matrices (block_words_of p) p.n p.r ws) in
      let e = all_right p.n 1 (inverses_in p ws) (set_in p ws).layers same_length
      (each_matrices p.n (block_words_of p) p.n p.r (drop (inverses_place p) ws) inverses) lawful_set.layers right in
      record { room = room; lawful = lawful_set; inverses = e.0; invertible = e.1 }

-- a set that passes has the true inverses of its layers
pub opening_sound : (p : Params) (ws : List ℕ) → is_ok (opening p ws) ≡ true → TrueInverses p ws
opening_sound p ws e =
    let a = then_ok _ _ e in
    let b = then_ok _ _ a.2 in
    let c = then_ok _ _ b.2 in
    true_inverses p ws (limits_facts p a.1) (ltb-false (length ws) (prepared_words_of p) (one_check _ _ b.1)) (no_stray _ _ c.1) (none_wrong _ c.2)

-- ---- an instance

pub sound_held : (o : Option Opened) → Sound (held_in o)
sound_held None = tt
sound_held (Some x) = opening_sound x.set.params x.set.words.now x.passed
