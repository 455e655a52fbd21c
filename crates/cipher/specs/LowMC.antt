-- The block cipher LowMC. A block, a key and a row of a matrix are numbers, whose bit i is bit i of the vector.
use Rattle.std.specs.Prelude.{ℕ, zero, suc, ◌+◌, ◌*◌, ◌/◌, ◌%◌, List, [], ◌∷◌, bit_and, bit_xor}
use Rattle.bits.specs.Gf2.{inverse_of, mul}
use Rattle.cipher.specs.Sets.{Set}

-- ---- the substitution of a triple (a, b, c), on words of any width; at one bit it is the S-box

abbrev pub s_a : ℕ → ℕ → ℕ → ℕ
s_a a b c = bit_xor a (bit_and b c)

abbrev pub s_b : ℕ → ℕ → ℕ → ℕ
s_b a b c = bit_xor (bit_xor a b) (bit_and a c)

abbrev pub s_c : ℕ → ℕ → ℕ → ℕ
s_c a b c = bit_xor (bit_xor (bit_xor a b) c) (bit_and a b)

-- its inverse, on (x, y, z)

abbrev pub i_a : ℕ → ℕ → ℕ → ℕ
i_a x y z = bit_xor (bit_xor x y) (bit_and y z)

abbrev pub i_b : ℕ → ℕ → ℕ → ℕ
i_b x y z = bit_xor y (bit_and x z)

abbrev pub i_c : ℕ → ℕ → ℕ → ℕ
i_c x y z = bit_xor (bit_xor (bit_xor x y) z) (bit_and x y)

-- a triple as a number below 8, with a as its lowest bit

unfoldable pub box : ℕ → ℕ
box t = s_a (t % 2) (t / 2 % 2) (t / 4) + 2 * s_b (t % 2) (t / 2 % 2) (t / 4) + 4 * s_c (t % 2) (t / 2 % 2) (t / 4)

unfoldable pub unbox : ℕ → ℕ
unbox t = i_a (t % 2) (t / 2 % 2) (t / 4) + 2 * i_b (t % 2) (t / 2 % 2) (t / 4) + 4 * i_c (t % 2) (t / 2 % 2) (t / 4)

-- ---- the parts of a round

-- a box on each of the m lowest triples of a state: triple t is bits 3t, 3t + 1, 3t + 2; the bits from 3m on stay
unfoldable pub each : (ℕ → ℕ) → ℕ → ℕ → ℕ
each f zero s = s
each f (suc m) s = f (s % 8) + 8 * each f m (s / 8)

unfoldable pub substitution : ℕ → ℕ → ℕ
unfolding each box
substitution m s = each box m s

unfoldable pub unsubstitution : ℕ → ℕ → ℕ
unfolding each unbox
unsubstitution m s = each unbox m s

-- substitution, linear layer, constant, round key
abbrev pub round : ℕ → ℕ → List ℕ → ℕ → List ℕ → ℕ → ℕ
round m key L C K x = bit_xor (bit_xor (mul L (substitution m x)) C) (mul K key)

abbrev pub unround : ℕ → ℕ → List ℕ → ℕ → List ℕ → ℕ → ℕ
unround m key L C K y = unsubstitution m (mul (inverse_of L) (bit_xor (bit_xor y (mul K key)) C))

-- rounds one after another, with the layers, constants and key matrices from the first of them on
abbrev pub rounds : ℕ → ℕ → List (List ℕ) → List ℕ → List (List ℕ) → ℕ → ℕ
rounds m key (L ∷ Ls) (C ∷ Cs) (K ∷ Ks) x = rounds m key Ls Cs Ks (round m key L C K x)
rounds m key [] Cs Ks x = x
rounds m key (L ∷ Ls) [] Ks x = x
rounds m key (L ∷ Ls) (C ∷ Cs) [] x = x

abbrev pub unrounds : ℕ → ℕ → List (List ℕ) → List ℕ → List (List ℕ) → ℕ → ℕ
unrounds m key (L ∷ Ls) (C ∷ Cs) (K ∷ Ks) y = unround m key L C K (unrounds m key Ls Cs Ks y)
unrounds m key [] Cs Ks y = y
unrounds m key (L ∷ Ls) [] Ks y = y
unrounds m key (L ∷ Ls) (C ∷ Cs) [] y = y

-- ---- encryption and decryption

abbrev pub encrypt_with : Set → ℕ → ℕ → List (List ℕ) → ℕ
encrypt_with s key block [] = block
encrypt_with s key block (K ∷ Ks) = rounds s.params.m key s.layers s.constants Ks (bit_xor block (mul K key))

-- the first key matrix before the rounds, then one a round
abbrev pub encrypt : Set → ℕ → ℕ → ℕ
encrypt s key block = encrypt_with s key block s.keys

abbrev pub decrypt_with : Set → ℕ → ℕ → List (List ℕ) → ℕ
decrypt_with s key block [] = block
decrypt_with s key block (K ∷ Ks) = bit_xor (unrounds s.params.m key s.layers s.constants Ks block) (mul K key)

abbrev pub decrypt : Set → ℕ → ℕ → ℕ
decrypt s key block = decrypt_with s key block s.keys
