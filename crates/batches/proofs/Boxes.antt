-- The S-box on the wires of a triple, lane by lane.
use Rattle.std.proofs.Common.{◌≡◌, ℕ, ◌+◌, ◌*◌, ◌/◌, ◌%◌, ◌^◌, ◌<◌, ◌≢◌, List, map, length, get_or, set, sym, refl, ap, ◌∙◌, ap₂, arith, length-set, get_or-set_other}
use lib.Bits.{bit_and, bit_xor, and_mod, and_shr, xor_assoc, xor_comm, xor_mod, xor_shr}
use Rattle.std.proofs.lemmas.List.{map-set}
use Rattle.bits.specs.Gf2.{dot}
use Rattle.bits.proofs.Products.{dot_comm}
use Rattle.bits.proofs.Rank.{dot_power}
use Rattle.cipher.specs.declared.direction.Direction.{Direction}
use Rattle.cipher.specs.declared.direction.Direction.TheVariants.{Encrypt, Decrypt}
use Rattle.cipher.proofs.Triples.{substitution_more, substitution_none, unsubstitution_more, unsubstitution_none}
use Rattle.cipher.specs.Boxes.{boxes}
use Rattle.batches.specs.Lanes.{box_along, box_at, lane, unbox_at}
use Rattle.batches.proofs.Packing.{bit_of_mul, map_mul_set}

-- ---- one bit of a sum and of a product

bit_is : (j x : ℕ) → dot x (2 ^ j) ≡ x / 2 ^ j % 2
bit_is j x = dot_comm x (2 ^ j) ∙ dot_power j x

pub and_of_bits : (j a b : ℕ) → dot (bit_and a b) (2 ^ j) ≡ bit_and (dot a (2 ^ j)) (dot b (2 ^ j))
and_of_bits j a b =
    bit_is j (bit_and a b) ∙ ap (λ (y : ℕ). y % 2) (and_shr a b j) ∙ and_mod (a / 2 ^ j) (b / 2 ^ j) 1
    ∙ ap₂ bit_and (sym (bit_is j a)) (sym (bit_is j b))

pub xor_of_bits : (j a b : ℕ) → dot (bit_xor a b) (2 ^ j) ≡ bit_xor (dot a (2 ^ j)) (dot b (2 ^ j))
xor_of_bits j a b =
    bit_is j (bit_xor a b) ∙ ap (λ (y : ℕ). y % 2) (xor_shr a b j) ∙ xor_mod (a / 2 ^ j) (b / 2 ^ j) 1
    ∙ ap₂ bit_xor (sym (bit_is j a)) (sym (bit_is j b))

-- ---- three wires change

-- what is added to a state, bit by bit
added : (k s p q r p' q' r' : ℕ) → p ≡ p' → q ≡ q' → r ≡ r'
    → bit_xor (bit_xor (bit_xor s (p * 2 ^ k)) (q * 2 ^ (k + 1))) (r * 2 ^ (k + 2)) ≡ bit_xor (bit_xor (bit_xor s (p' * 2 ^ k)) (q' * 2 ^ (k + 1))) (r' * 2 ^ (k + 2))
added k s p q r p' q' r' ep eq er = cc

module _ {X : Type 0} (f : X → ℕ) (xs : List X) (k : ℕ) (h : k + 2 < length xs) where
  abbrev pub wire : ℕ → ℕ
  wire i = get_or (map f xs) i 0

  get_or_other : (ys : List X) (i l : ℕ) (x : X) → l ≢ i → get_or (map f (set ys i x)) l 0 ≡ get_or (map f ys) l 0
  get_or_other ys i l x ne = ap (λ (m : List ℕ). get_or m l 0) (map-set f ys i x) ∙ rw get_or-set_other

  -- p, q and r are added to the wires at k, k + 1 and k + 2
  changed : (x y z : X) (p q r j : ℕ) → f x ≡ bit_xor (wire k) p → f y ≡ bit_xor (wire (k + 1)) q → f z ≡ bit_xor (wire (k + 2)) r
      → lane j (map f (set (set (set xs k x) (k + 1) y) (k + 2) z))
      ≡ bit_xor (bit_xor (bit_xor (lane j (map f xs)) (dot p (2 ^ j) * 2 ^ k)) (dot q (2 ^ j) * 2 ^ (k + 1))) (dot r (2 ^ j) * 2 ^ (k + 2))
  changed x y z p q r j ex ey ez =
      let one : List X = set xs k x in
      let two : List X = set one (k + 1) y in
      let n : length one ≡ length xs = simp length-set in
      let l : length two ≡ length xs = simp length-set in
      let a : k + 1 ≢ k = omega arith in
      let b : k + 2 ≢ k = omega arith in
      let c : k + 2 ≢ k + 1 = omega arith in
      map_mul_set f two (k + 2) z r (2 ^ j) (omega arith) (ez ∙ ap (λ (t : ℕ). bit_xor t r) (sym (get_or_other one (k + 1) (k + 2) y c ∙ get_or_other xs k (k + 2) x b)))
      ∙ ap (λ (t : ℕ). bit_xor t (dot r (2 ^ j) * 2 ^ (k + 2)))
      (map_mul_set f one (k + 1) y q (2 ^ j) (omega arith) (ey ∙ ap (λ (t : ℕ). bit_xor t q) (sym (get_or_other xs k (k + 1) x a)))
      ∙ ap (λ (t : ℕ). bit_xor t (dot q (2 ^ j) * 2 ^ (k + 1))) (map_mul_set f xs k x p (2 ^ j) (omega arith) ex))

  -- what the wires of the triple carry in lane j are its bits
  bit : (j i : ℕ) → dot (wire i) (2 ^ j) ≡ dot (2 ^ i) (lane j (map f xs))
  bit j i = sym (bit_of_mul (map f xs) i (2 ^ j))

  module _ (a b c : ℕ) (ea : a ≡ wire k) (eb : b ≡ wire (k + 1)) (ec : c ≡ wire (k + 2)) (j : ℕ) where
    -- the state in lane j, and the bits of the triple
    abbrev s : ℕ
    s = lane j (map f xs)

    abbrev A : ℕ
    A = dot (2 ^ k) s

    abbrev B : ℕ
    B = dot (2 ^ (k + 1)) s

    abbrev C : ℕ
    C = dot (2 ^ (k + 2)) s

    is_a : dot a (2 ^ j) ≡ A
    is_a = ap (λ (t : ℕ). dot t (2 ^ j)) ea ∙ bit j k

    is_b : dot b (2 ^ j) ≡ B
    is_b = ap (λ (t : ℕ). dot t (2 ^ j)) eb ∙ bit j (k + 1)

    is_c : dot c (2 ^ j) ≡ C
    is_c = ap (λ (t : ℕ). dot t (2 ^ j)) ec ∙ bit j (k + 2)

    third : dot (bit_xor (bit_xor a b) (bit_and a b)) (2 ^ j) ≡ bit_xor (bit_xor A B) (bit_and A B)
    third = xor_of_bits j (bit_xor a b) (bit_and a b) ∙ ap₂ bit_xor (xor_of_bits j a b ∙ ap₂ bit_xor is_a is_b) (and_of_bits j a b ∙ ap₂ bit_and is_a is_b)

    last_is : (z : X) → f z ≡ bit_xor (bit_xor (bit_xor a b) c) (bit_and a b) → f z ≡ bit_xor (wire (k + 2)) (bit_xor (bit_xor a b) (bit_and a b))
    last_is z ez =
        ez ∙ ap (λ (t : ℕ). bit_xor t (bit_and a b)) (xor_comm (bit_xor a b) c) ∙ xor_assoc c (bit_xor a b) (bit_and a b) ∙ ap (λ (t : ℕ). bit_xor t (bit_xor (bit_xor a b) (bit_and a b))) ec

    pub box_lane : (x y z : X) → f x ≡ bit_xor a (bit_and b c) → f y ≡ bit_xor (bit_xor a b) (bit_and a c) → f z ≡ bit_xor (bit_xor (bit_xor a b) c) (bit_and a b)
        → lane j (map f (set (set (set xs k x) (k + 1) y) (k + 2) z)) ≡ box_at k (lane j (map f xs))
    box_lane x y z ex ey ez =
        let q : f y ≡ bit_xor (wire (k + 1)) (bit_xor a (bit_and a c)) =
        ey ∙ ap (λ (t : ℕ). bit_xor t (bit_and a c)) (xor_comm a b) ∙ xor_assoc b a (bit_and a c) ∙ ap (λ (t : ℕ). bit_xor t (bit_xor a (bit_and a c))) eb in
        let first : dot (bit_and b c) (2 ^ j) ≡ bit_and B C = and_of_bits j b c ∙ ap₂ bit_and is_b is_c in
        let second : dot (bit_xor a (bit_and a c)) (2 ^ j) ≡ bit_xor A (bit_and A C) = xor_of_bits j a (bit_and a c) ∙ ap₂ bit_xor is_a (and_of_bits j a c ∙ ap₂ bit_and is_a is_c) in
        changed x y z (bit_and b c) (bit_xor a (bit_and a c)) (bit_xor (bit_xor a b) (bit_and a b)) j (ex ∙ ap (λ (t : ℕ). bit_xor t (bit_and b c)) ea) q (last_is z ez)
        ∙ added k s _ _ _ _ _ _ first second third

    pub unbox_lane : (x y z : X) → f x ≡ bit_xor (bit_xor a b) (bit_and b c) → f y ≡ bit_xor b (bit_and a c) → f z ≡ bit_xor (bit_xor (bit_xor a b) c) (bit_and a b)
        → lane j (map f (set (set (set xs k x) (k + 1) y) (k + 2) z)) ≡ unbox_at k (lane j (map f xs))
    unbox_lane x y z ex ey ez =
        let p : f x ≡ bit_xor (wire k) (bit_xor b (bit_and b c)) = ex ∙ xor_assoc a b (bit_and b c) ∙ ap (λ (t : ℕ). bit_xor t (bit_xor b (bit_and b c))) ea in
        let first : dot (bit_xor b (bit_and b c)) (2 ^ j) ≡ bit_xor B (bit_and B C) = xor_of_bits j b (bit_and b c) ∙ ap₂ bit_xor is_b (and_of_bits j b c ∙ ap₂ bit_and is_b is_c) in
        let second : dot (bit_and a c) (2 ^ j) ≡ bit_and A C = and_of_bits j a c ∙ ap₂ bit_and is_a is_c in
        changed x y z (bit_xor b (bit_and b c)) (bit_and a c) (bit_xor (bit_xor a b) (bit_and a b)) j p (ey ∙ ap (λ (t : ℕ). bit_xor t (bit_and a c)) eb) (last_is z ez)
        ∙ added k s _ _ _ _ _ _ first second third

-- ---- in either direction, triple by triple

pub along_none : (way : Direction) (x : ℕ) → x ≡ boxes way 0 x
along_none Encrypt = substitution_none
along_none Decrypt = unsubstitution_none

pub along_more : (way : Direction) (t s v : ℕ) → v ≡ boxes way t s → box_along way (3 * t) v ≡ boxes way (t + 1) s
along_more Encrypt t s v e = substitution_more t s v _ _ _ e refl refl refl
along_more Decrypt t s v e = unsubstitution_more t s v _ _ _ e refl refl refl
