-- A call on one block: what its checks tell, and that the other direction leads back.
use Rattle.std.proofs.Common.{◌≡◌, ℕ, ◌^◌, ◌<◌, ◌≤◌, Bool, true, false, List, [], ◌∷◌, length, Some, Ok, Err, Result, sym, refl, ap, ◌∙◌, subst, arith, pow_mono}
use Rattle.std.proofs.lemmas.List.{take_all}
use Rattle.std.proofs.lemmas.Bool.{eqb-true, ltb-false, not-false}
use Rattle.bits.specs.declared.refusal.Fault.{Fault}
use Rattle.bits.specs.Refusals.{first_of, then}
use Rattle.bits.specs.Gf2.{value, words_of}
use Rattle.bits.proofs.Vectors.{value_words_of}
use Rattle.cipher.specs.declared.params.Params.{Params}
use Rattle.cipher.specs.declared.direction.Direction.{Direction}
use Rattle.cipher.specs.declared.direction.Direction.TheVariants.{Encrypt, Decrypt}
use Rattle.cipher.specs.Parameters.{block_words_of, key_words_of}
use Rattle.cipher.specs.Instances.{set_in}
use Rattle.cipher.specs.Blocks.{Held, LeadsBack, block_checks}
use Rattle.cipher.specs.Sound.{TrueInverses}
use Rattle.cipher.specs.Directions.{against, along}
use Rattle.cipher.proofs.Bounds.{key_wide, wide}
use Rattle.cipher.proofs.SoundSets.{no_stray, one_check}
use Rattle.cipher.proofs.Rounds.{decrypt_below, decrypt_encrypt, encrypt_below, encrypt_decrypt}
use Rattle.cipher.proofs.Strays.{row_none}

-- what a call that was accepted was given
pub record Accepted (p : Params) (key block : List ℕ) (work : ℕ) : Type 0 where
  pub keyed : length key ≡ key_words_of p
  pub size : length block ≡ block_words_of p
  pub key_small : value key < 2 ^ p.k
  pub small : value block < 2 ^ p.n
  pub room : 8 ≤ work

two_checks : (a b : Bool) (x y : Fault) → first_of ((a, x) ∷ (b, y) ∷ []) ≡ Ok tt → (a ≡ false) × (b ≡ false)
two_checks true b x y e = absurd (let z : ◌≡◌ {A = ℕ} 0 1 = cc in omega arith)
two_checks false true x y e = absurd (let z : ◌≡◌ {A = ℕ} 0 1 = cc in omega arith)
two_checks false false x y e = (refl, refl)

pub then_is : {A B : Type 0} (r : Result A Fault) (f : A → Result B Fault) (y : B) → then r f ≡ Ok y → (a : A) × (r ≡ Ok a) × (f a ≡ Ok y)
then_is (Ok a) f y e = (a, refl, e)
then_is (Err x) f y e = absurd (let z : ◌≡◌ {A = ℕ} 0 1 = cc in omega arith)

pub accepted : (p : Params) (ws key block : List ℕ) (work : ℕ) → Ok tt ≡ block_checks (Some (p, ws)) key block work → Accepted p key block work
accepted p ws key block work e =
    let a = then_is _ _ tt (sym e) in
    let sizes = two_checks _ _ _ _ a.1 in
    let keyed : length key ≡ key_words_of p = eqb-true (length key) (key_words_of p) (not-false _ sizes.0) in
    let size : length block ≡ block_words_of p = eqb-true (length block) (block_words_of p) (not-false _ sizes.1) in
    let key_fits : key_words_of p ≤ length key = omega arith in
    let fits : block_words_of p ≤ length block = omega arith in
    let key-all = take_all (key_words_of p) key (omega arith) in
    let all = take_all (block_words_of p) block (omega arith) in
    let b = then_is _ _ tt a.2 in
    let c = then_is _ _ tt b.2 in
    record {
      keyed = keyed;
      size = size;
      key_small = subst (λ (xs : List ℕ). value xs < 2 ^ p.k) key-all (row_none 0 (key_words_of p) p.k key key_fits (key_wide p) (no_stray _ _ b.1));
      small = subst (λ (xs : List ℕ). value xs < 2 ^ p.n) all (row_none 0 (block_words_of p) p.n block fits (wide p) (no_stray _ _ c.1));
      room = ltb-false work 8 (one_check _ _ c.2);
    }

-- ---- the other way leads back

pub along_below : (way : Direction) (p : Params) (ws : List ℕ) → TrueInverses p ws → (key x : ℕ) → x < 2 ^ p.n → along way (set_in p ws) key x < 2 ^ p.n
along_below Encrypt p ws t key x h = encrypt_below (set_in p ws) t.lawful key x h
along_below Decrypt p ws t key x h = decrypt_below (set_in p ws) t.lawful key x h

pub against_along : (way : Direction) (p : Params) (ws : List ℕ) → TrueInverses p ws → (key x : ℕ) → x < 2 ^ p.n
    → against way (set_in p ws) key (along way (set_in p ws) key x) ≡ x
against_along Encrypt p ws t key x h = decrypt_encrypt (set_in p ws) t.lawful t.invertible key x h
against_along Decrypt p ws t key x h = encrypt_decrypt (set_in p ws) t.lawful t.invertible key x h

-- the number of the words that a call leaves
pub left_value : (way : Direction) (p : Params) (ws : List ℕ) → TrueInverses p ws → (key x : ℕ) → x < 2 ^ p.n
    → value (words_of (block_words_of p) (along way (set_in p ws) key x)) ≡ along way (set_in p ws) key x
left_value way p ws t key x h =
    let b = along_below way p ws t key x h in
    value_words_of (block_words_of p) (along way (set_in p ws) key x) (omega (arith, b, pow_mono (wide p)))

-- ---- by what the instance holds

module _ (h : Held) (p : Params) (ws : List ℕ) (is : h ≡ Some (p, ws)) where
  pub answer_held : (r : Result Unit Fault) (key block : List ℕ) (work : ℕ) → r ≡ block_checks (Some (p, ws)) key block work → r ≡ block_checks h key block work
  answer_held r key block work e = e ∙ sym (ap (λ (h : Held). block_checks h key block work) is)

  pub refusal_held : (r : Result Unit Fault) (x e : Fault) (key block : List ℕ) (work : ℕ) → r ≡ Err x → x ≡ e → Err e ≡ block_checks (Some (p, ws)) key block work
      → r ≡ block_checks h key block work
  refusal_held r x e key block work a b at = answer_held r key block work (a ∙ ap Err b ∙ at)

  pub back_held : (way : Direction) (key block after : List ℕ) → TrueInverses p ws → value block < 2 ^ p.n
      → after ≡ words_of (block_words_of p) (along way (set_in p ws) (value key) (value block)) → LeadsBack (against way) h (Ok tt) key block after
  back_held way key block after t b e =
      subst (λ (x : Held). LeadsBack (against way) x (Ok tt) key block after) (sym is)
      (ap (against way (set_in p ws) (value key)) (ap value e ∙ left_value way p ws t (value key) (value block) b) ∙ against_along way p ws t (value key) (value block) b)
