-- Sums of shares, and why a true triple gives the shares of the product.
use Rattle.std.proofs.Common.{◌≡◌, ℕ, sym, ap, ◌∙◌, ap₂}
use lib.Bits.{bit_and, bit_xor, xor_assoc, xor_comm, and_comm, xor_self, xor_zero_r}
use Rattle.bits.proofs.Products.{and_xor}

-- a product spreads over a sum on its right
pub and_spreads : (a b c : ℕ) → bit_and a (bit_xor b c) ≡ bit_xor (bit_and a b) (bit_and a c)
and_spreads a b c = and_comm a (bit_xor b c) ∙ and_xor a b c ∙ ap₂ bit_xor (and_comm b a) (and_comm c a)

-- the sums of two pairs, the other way
pub xor_swap : (a b c d : ℕ) → bit_xor (bit_xor a b) (bit_xor c d) ≡ bit_xor (bit_xor a c) (bit_xor b d)
xor_swap a b c d =
    xor_assoc a b (bit_xor c d)
    ∙ ap (bit_xor a) (sym (xor_assoc b c d) ∙ ap (λ (x : ℕ). bit_xor x d) (xor_comm b c) ∙ xor_assoc c b d)
    ∙ sym (xor_assoc a c (bit_xor b d))

xor_right : (a b c : ℕ) → bit_xor (bit_xor a b) c ≡ bit_xor (bit_xor a c) b
xor_right a b c = xor_assoc a b c ∙ ap (bit_xor a) (xor_comm b c) ∙ sym (xor_assoc a c b)

pub xor_cancel : (a b : ℕ) → bit_xor (bit_xor a b) b ≡ a
xor_cancel a b = xor_assoc a b b ∙ ap (bit_xor a) (xor_self b) ∙ xor_zero_r a

-- with d = x + a and e = y + b: ab + db + ea + de = xy
opened : (a b x y : ℕ) → let d = bit_xor x a in let e = bit_xor y b in
    bit_xor (bit_xor (bit_xor (bit_and a b) (bit_and d b)) (bit_and e a)) (bit_and d e) ≡ bit_and x y
opened a b x y =
    let d : ℕ = bit_xor x a in
    let e : ℕ = bit_xor y b in
    let back : bit_xor a d ≡ x = xor_comm a d ∙ xor_cancel x a in
    let one : bit_xor (bit_and a b) (bit_and d b) ≡ bit_and x b =
    sym (and_xor b a d) ∙ ap (λ (n : ℕ). bit_and n b) back in
    let two : bit_xor (bit_and e a) (bit_and d e) ≡ bit_and x e =
    ap (λ (n : ℕ). bit_xor n (bit_and d e)) (and_comm e a) ∙ sym (and_xor e a d) ∙ ap (λ (n : ℕ). bit_and n e) back in
    xor_assoc (bit_xor (bit_and a b) (bit_and d b)) (bit_and e a) (bit_and d e)
    ∙ ap₂ bit_xor one two
    ∙ sym (and_spreads x b e)
    ∙ ap (bit_and x) (xor_comm b e ∙ xor_cancel y b)

-- the two shares of a product add up to it where the triple is true
pub shares_add : (x y a0 b0 c0 a1 b1 c1 d e : ℕ)
    → bit_xor c0 c1 ≡ bit_and (bit_xor a0 a1) (bit_xor b0 b1)
    → d ≡ bit_xor x (bit_xor a0 a1) → e ≡ bit_xor y (bit_xor b0 b1)
    → bit_xor (bit_xor (bit_xor (bit_xor c0 (bit_and d b0)) (bit_and e a0)) (bit_and d e)) (bit_xor (bit_xor c1 (bit_and d b1)) (bit_and e a1))
    ≡ bit_and x y
shares_add x y a0 b0 c0 a1 b1 c1 d e t da eb =
    xor_right (bit_xor (bit_xor c0 (bit_and d b0)) (bit_and e a0)) (bit_and d e) (bit_xor (bit_xor c1 (bit_and d b1)) (bit_and e a1))
    ∙ ap (λ (n : ℕ). bit_xor n (bit_and d e))
    (xor_swap (bit_xor c0 (bit_and d b0)) (bit_and e a0) (bit_xor c1 (bit_and d b1)) (bit_and e a1)
    ∙ ap₂ bit_xor (xor_swap c0 (bit_and d b0) c1 (bit_and d b1) ∙ ap₂ bit_xor t (sym (and_spreads d b0 b1))) (sym (and_spreads e a0 a1)))
    ∙ ap₂ (λ (p q : ℕ). bit_xor (bit_xor (bit_xor (bit_and (bit_xor a0 a1) (bit_xor b0 b1)) (bit_and p (bit_xor b0 b1))) (bit_and q (bit_xor a0 a1))) (bit_and p q)) da eb
    ∙ opened (bit_xor a0 a1) (bit_xor b0 b1) x y
