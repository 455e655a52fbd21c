-- Blocks in lanes. The words that wires carry are the rows of a matrix with a column for each lane: bit i of the block in lane j is bit j of wire i.
use Rattle.std.specs.Prelude.{ℕ, zero, suc, ◌+◌, ◌*◌, ◌^◌, List, [], ◌∷◌, ◌++◌, bit_and, bit_xor}
use Rattle.bits.specs.Gf2.{dot, mul}
use Rattle.cipher.specs.declared.direction.Direction.{Direction}
use Rattle.cipher.specs.declared.direction.Direction.TheVariants.{Encrypt, Decrypt}

-- lane j of wires: the column j
abbrev pub lane : ℕ → List ℕ → ℕ
lane j ws = mul ws (2 ^ j)

-- g 0, g 1, .. : n of them
abbrev pub table : ℕ → (ℕ → ℕ) → List ℕ
table zero g = []
table (suc n) g = table n g ++ (g n ∷ [])

-- the first n columns of a matrix, as rows: blocks become wires, and wires blocks
abbrev pub columns : ℕ → List ℕ → List ℕ
columns n bs = table n (λ i. lane i bs)

-- the S-box on the triple of bits at k, as what it adds to the state
abbrev pub box_at : ℕ → ℕ → ℕ
box_at k v =
    let a : ℕ = dot (2 ^ k) v in
    let b : ℕ = dot (2 ^ (k + 1)) v in
    let c : ℕ = dot (2 ^ (k + 2)) v in
    bit_xor (bit_xor (bit_xor v (bit_and b c * 2 ^ k)) (bit_xor a (bit_and a c) * 2 ^ (k + 1))) (bit_xor (bit_xor a b) (bit_and a b) * 2 ^ (k + 2))

-- and its inverse
abbrev pub unbox_at : ℕ → ℕ → ℕ
unbox_at k v =
    let a : ℕ = dot (2 ^ k) v in
    let b : ℕ = dot (2 ^ (k + 1)) v in
    let c : ℕ = dot (2 ^ (k + 2)) v in
    bit_xor (bit_xor (bit_xor v (bit_xor b (bit_and b c) * 2 ^ k)) (bit_and a c * 2 ^ (k + 1))) (bit_xor (bit_xor a b) (bit_and a b) * 2 ^ (k + 2))

-- one of the two, by the direction of the cipher
abbrev pub box_along : Direction → ℕ → ℕ → ℕ
box_along Encrypt = box_at
box_along Decrypt = unbox_at
