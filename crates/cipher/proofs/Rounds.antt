-- Rounds there and back.
use Rattle.std.proofs.Common.{◌≡◌, ℕ, suc, ◌*◌, ◌^◌, ◌<◌, ◌≤◌, List, [], ◌∷◌, length, sym, refl, ap, ◌∙◌, subst, arith}
use lib.Bits.{bit_xor, xor_self, xor_zero_r, xor_assoc, xor_lt}
use Rattle.bits.specs.Gf2.{Below, inverse_of, mul, solve}
use Rattle.bits.proofs.Products.{mul_below}
use Rattle.bits.proofs.Inverse.{mat_length}
use Rattle.cipher.specs.Sets.{Each, LawfulSet, Matrix, Set}
use Rattle.cipher.specs.LowMC.{decrypt, decrypt_with, encrypt, encrypt_with, round, rounds, substitution, unround, unrounds, unsubstitution}
use Rattle.cipher.specs.Laws.{Decryption, Invertible}
use Rattle.cipher.proofs.Substitution.{substitution_below, substitution_unsubstitution, unsubstitution_below, unsubstitution_substitution}

-- what is added twice is gone
pub xor_off : (x c : ℕ) → bit_xor (bit_xor x c) c ≡ x
xor_off x c = xor_assoc x c c ∙ ap (bit_xor x) (xor_self c) ∙ xor_zero_r x

pub product_below : (n : ℕ) (M : List ℕ) (x : ℕ) → length M ≡ n → mul M x < 2 ^ n
product_below n M x e = subst (λ (k : ℕ). mul M x < 2 ^ k) e (mul_below M x)

-- whether or not L collapses
pub inverse_length : (L : List ℕ) → length (inverse_of L) ≡ length L
unfolding inverse_of
inverse_length L = mat_length (length L) (length L) (solve L)

-- ---- one round

-- the sizes that keep the states of a round within n bits
pub record Fits (n : ℕ) (L : List ℕ) (C : ℕ) (K : List ℕ) : Type 0 where
  pub square : length L ≡ n
  pub constant : C < 2 ^ n
  pub tall : length K ≡ n

module _ (n m key : ℕ) (triples : 3 * m ≤ n) (L : List ℕ) (C : ℕ) (K : List ℕ) (f : Fits n L C K) where
  keyed_below : mul K key < 2 ^ n
  keyed_below = product_below n K key f.tall

  pub round_below : (x : ℕ) → round m key L C K x < 2 ^ n
  round_below x =
      xor_lt n (bit_xor (mul L (substitution m x)) C) (mul K key)
      (xor_lt n (mul L (substitution m x)) C (product_below n L (substitution m x) f.square) f.constant) keyed_below

  -- what a round back multiplies
  stripped : ℕ → ℕ
  stripped y = bit_xor (bit_xor y (mul K key)) C

  pub unround_below : (y : ℕ) → unround m key L C K y < 2 ^ n
  unfolding stripped
  unround_below y =
      unsubstitution_below m n (mul (inverse_of L) (stripped y)) triples (product_below n (inverse_of L) (stripped y) (inverse_length L ∙ f.square))

  wide : (x : ℕ) → x < 2 ^ n → x < 2 ^ length L
  wide x h = subst (λ (k : ℕ). x < 2 ^ k) (sym f.square) h

  pub unround_round : Invertible L → (x : ℕ) → x < 2 ^ n → unround m key L C K (round m key L C K x) ≡ x
  unround_round i x h =
      ap (λ (t : ℕ). unsubstitution m (mul (inverse_of L) (bit_xor t C))) (xor_off (bit_xor (mul L (substitution m x)) C) (mul K key))
      ∙ ap (λ (t : ℕ). unsubstitution m (mul (inverse_of L) t)) (xor_off (mul L (substitution m x)) C)
      ∙ ap (unsubstitution m) (i.left (substitution m x) (wide (substitution m x) (substitution_below m n x triples h)))
      ∙ unsubstitution_substitution m x

  stripped_below : (y : ℕ) → y < 2 ^ n → stripped y < 2 ^ n
  unfolding stripped
  stripped_below y h = xor_lt n (bit_xor y (mul K key)) C (xor_lt n y (mul K key) h keyed_below) f.constant

  pub round_unround : Invertible L → (y : ℕ) → y < 2 ^ n → round m key L C K (unround m key L C K y) ≡ y
  unfolding stripped
  round_unround i y h =
      ap (λ (t : ℕ). bit_xor (bit_xor (mul L t) C) (mul K key)) (substitution_unsubstitution m (mul (inverse_of L) (stripped y)))
      ∙ ap (λ (t : ℕ). bit_xor (bit_xor t C) (mul K key)) (i.right (stripped y) (wide (stripped y) (stripped_below y h)))
      ∙ ap (λ (t : ℕ). bit_xor t (mul K key)) (xor_off (bit_xor y (mul K key)) C)
      ∙ xor_off y (mul K key)

-- ---- all rounds

-- as many constants and key matrices as layers, each of its size
abbrev pub AllFit : ℕ → List (List ℕ) → List ℕ → List (List ℕ) → Type 0
AllFit n [] Cs Ks = Unit {0}
AllFit n (L ∷ Ls) [] Ks = ⊥
AllFit n (L ∷ Ls) (C ∷ Cs) [] = ⊥
AllFit n (L ∷ Ls) (C ∷ Cs) (K ∷ Ks) = Fits n L C K × AllFit n Ls Cs Ks

pub all_fit : (n k : ℕ) (Ls : List (List ℕ)) (Cs : List ℕ) (Ks : List (List ℕ)) → length Cs ≡ length Ls → length Ks ≡ length Ls
    → Each (Matrix n n) Ls → Below n Cs → Each (Matrix n k) Ks → AllFit n Ls Cs Ks
all_fit n k [] Cs Ks ec ek l c d = tt
all_fit n k (L ∷ Ls) [] Ks ec ek l c d = absurd (omega arith)
all_fit n k (L ∷ Ls) (C ∷ Cs) [] ec ek l c d = absurd (omega arith)
all_fit n k (L ∷ Ls) (C ∷ Cs) (K ∷ Ks) ec ek l c d = (
  record { square = l.0.size; constant = c.0; tall = d.0.size },
  all_fit n k Ls Cs Ks (omega arith) (omega arith) l.1 c.1 d.1,
)

module _ (n m key : ℕ) (triples : 3 * m ≤ n) where
  pub rounds_below : (Ls : List (List ℕ)) (Cs : List ℕ) (Ks : List (List ℕ)) → AllFit n Ls Cs Ks
      → (x : ℕ) → x < 2 ^ n → rounds m key Ls Cs Ks x < 2 ^ n
  rounds_below [] Cs Ks f x h = h
  rounds_below (L ∷ Ls) [] Ks f x h = h
  rounds_below (L ∷ Ls) (C ∷ Cs) [] f x h = h
  rounds_below (L ∷ Ls) (C ∷ Cs) (K ∷ Ks) f x h =
      rounds_below Ls Cs Ks f.1 (round m key L C K x) (round_below n m key triples L C K f.0 x)

  pub unrounds_below : (Ls : List (List ℕ)) (Cs : List ℕ) (Ks : List (List ℕ)) → AllFit n Ls Cs Ks
      → (y : ℕ) → y < 2 ^ n → unrounds m key Ls Cs Ks y < 2 ^ n
  unrounds_below [] Cs Ks f y h = h
  unrounds_below (L ∷ Ls) [] Ks f y h = h
  unrounds_below (L ∷ Ls) (C ∷ Cs) [] f y h = h
  unrounds_below (L ∷ Ls) (C ∷ Cs) (K ∷ Ks) f y h = unround_below n m key triples L C K f.0 (unrounds m key Ls Cs Ks y)

  pub unrounds_rounds : (Ls : List (List ℕ)) (Cs : List ℕ) (Ks : List (List ℕ)) → AllFit n Ls Cs Ks → Each Invertible Ls
      → (x : ℕ) → x < 2 ^ n → unrounds m key Ls Cs Ks (rounds m key Ls Cs Ks x) ≡ x
  unrounds_rounds [] Cs Ks f i x h = refl
  unrounds_rounds (L ∷ Ls) [] Ks f i x h = refl
  unrounds_rounds (L ∷ Ls) (C ∷ Cs) [] f i x h = refl
  unrounds_rounds (L ∷ Ls) (C ∷ Cs) (K ∷ Ks) f i x h =
      ap (unround m key L C K) (unrounds_rounds Ls Cs Ks f.1 i.1 (round m key L C K x) (round_below n m key triples L C K f.0 x))
      ∙ unround_round n m key triples L C K f.0 i.0 x h

  pub rounds_unrounds : (Ls : List (List ℕ)) (Cs : List ℕ) (Ks : List (List ℕ)) → AllFit n Ls Cs Ks → Each Invertible Ls
      → (y : ℕ) → y < 2 ^ n → rounds m key Ls Cs Ks (unrounds m key Ls Cs Ks y) ≡ y
  rounds_unrounds [] Cs Ks f i y h = refl
  rounds_unrounds (L ∷ Ls) [] Ks f i y h = refl
  rounds_unrounds (L ∷ Ls) (C ∷ Cs) [] f i y h = refl
  rounds_unrounds (L ∷ Ls) (C ∷ Cs) (K ∷ Ks) f i y h =
      ap (rounds m key Ls Cs Ks) (round_unround n m key triples L C K f.0 i.0 (unrounds m key Ls Cs Ks y) (unrounds_below Ls Cs Ks f.1 y h))
      ∙ rounds_unrounds Ls Cs Ks f.1 i.1 y h

-- ---- a set

-- its first key matrix and those of the rounds
pub record Opened (s : Set) : Type 0 where
  pub first : List ℕ
  pub later : List (List ℕ)
  pub is : s.keys ≡ first ∷ later
  pub tall : length first ≡ s.params.n
  pub fit : AllFit s.params.n s.layers s.constants later

pub opened : (s : Set) → LawfulSet s → Opened s
opened s g = go s.keys refl
  where
    go : (Ks : List (List ℕ)) → s.keys ≡ Ks → Opened s
    go [] e = let h : length s.keys ≡ 0 = ap length e in absurd (omega (arith, h, g.key_rounds))
    go (K ∷ Ks) e =
        let each : Each (Matrix s.params.n s.params.k) (K ∷ Ks) = subst (Each (Matrix s.params.n s.params.k)) e g.keys in
        let h : length s.keys ≡ suc (length Ks) = ap length e in
        record {
          first = K;
          later = Ks;
          is = e;
          tall = each.0.size;
          fit = all_fit s.params.n s.params.k s.layers s.constants Ks
              (g.constants.size ∙ sym g.rounds) (omega (arith, h, g.key_rounds, g.rounds)) g.layers g.constants.narrow each.1;
        }

module _ (s : Set) (o : Opened s) (key : ℕ) where
  -- what the first key matrix adds
  abbrev pub whitening : ℕ
  whitening = mul o.first key

  abbrev pub there : ℕ → ℕ
  there = rounds s.params.m key s.layers s.constants o.later

  abbrev pub back : ℕ → ℕ
  back = unrounds s.params.m key s.layers s.constants o.later

  pub encrypt_is : (x : ℕ) → encrypt s key x ≡ there (bit_xor x whitening)
  encrypt_is x = ap (encrypt_with s key x) o.is

  pub decrypt_is : (y : ℕ) → decrypt s key y ≡ bit_xor (back y) whitening
  decrypt_is y = ap (decrypt_with s key y) o.is

  pub whitened : (x : ℕ) → x < 2 ^ s.params.n → bit_xor x whitening < 2 ^ s.params.n
  whitened x h = xor_lt s.params.n x whitening h (product_below s.params.n o.first key o.tall)

pub encrypt_below : (s : Set) → LawfulSet s → (key x : ℕ) → x < 2 ^ s.params.n → encrypt s key x < 2 ^ s.params.n
encrypt_below s g key x h =
    let o : Opened s = opened s g in
    let b = rounds_below s.params.n s.params.m key g.limits.m_most s.layers s.constants o.later o.fit
    (bit_xor x (whitening s o key)) (whitened s o key x h) in
    subst (λ (y : ℕ). y < 2 ^ s.params.n) (sym (encrypt_is s o key x)) b

pub decrypt_below : (s : Set) → LawfulSet s → (key y : ℕ) → y < 2 ^ s.params.n → decrypt s key y < 2 ^ s.params.n
decrypt_below s g key y h =
    let o : Opened s = opened s g in
    let b = unrounds_below s.params.n s.params.m key g.limits.m_most s.layers s.constants o.later o.fit y h in
    subst (λ (x : ℕ). x < 2 ^ s.params.n) (sym (decrypt_is s o key y)) (whitened s o key (back s o key y) b)

module _ (s : Set) (g : LawfulSet s) (i : Each Invertible s.layers) (key : ℕ) where
  pub decrypt_encrypt : (x : ℕ) → x < 2 ^ s.params.n → decrypt s key (encrypt s key x) ≡ x
  decrypt_encrypt x h =
      let o : Opened s = opened s g in
      let w : ℕ = whitening s o key in
      decrypt_is s o key (encrypt s key x)
      ∙ ap (λ (t : ℕ). bit_xor (back s o key t) w) (encrypt_is s o key x)
      ∙ ap (λ (t : ℕ). bit_xor t w) (unrounds_rounds s.params.n s.params.m key g.limits.m_most s.layers s.constants o.later o.fit i
      (bit_xor x w) (whitened s o key x h))
      ∙ xor_off x w

  pub encrypt_decrypt : (y : ℕ) → y < 2 ^ s.params.n → encrypt s key (decrypt s key y) ≡ y
  encrypt_decrypt y h =
      let o : Opened s = opened s g in
      let w : ℕ = whitening s o key in
      encrypt_is s o key (decrypt s key y)
      ∙ ap (λ (t : ℕ). there s o key (bit_xor t w)) (decrypt_is s o key y)
      ∙ ap (there s o key) (xor_off (back s o key y) w)
      ∙ rounds_unrounds s.params.n s.params.m key g.limits.m_most s.layers s.constants o.later o.fit i y h

  pub encrypt_injective : (x y : ℕ) → x < 2 ^ s.params.n → y < 2 ^ s.params.n → encrypt s key x ≡ encrypt s key y → x ≡ y
  encrypt_injective x y hx hy e = sym (decrypt_encrypt x hx) ∙ ap (decrypt s key) e ∙ decrypt_encrypt y hy

pub decryption : Decryption
decryption s g i = record {
  within = encrypt_below s g;
  within_back = decrypt_below s g;
  left = decrypt_encrypt s g i;
  right = encrypt_decrypt s g i;
}
