-- What the two ends of the elimination of [L | 1] say of L.
use Rattle.std.proofs.Common.{◌≡◌, ℕ, zero, suc, ◌+◌, ◌*◌, ◌/◌, ◌%◌, ◌^◌, ◌<◌, ◌≤◌, List, [], ◌∷◌, length, get_or, sym, refl, ap, ◌∙◌, subst, ap₂, inl, inr, mod-lt, mul_comm, arith, pow_pos, pow_mono}
use native.Mathlib.Decide.{dec_lt}
use Rattle.std.proofs.lemmas.Nat.{shr_split, shr_below, pow-add, pow_below, mul-add-lt}
use lib.Bits.{bit_xor, xor_zero_r, xor_lt, xor_block}
use Rattle.std.proofs.lemmas.List.{ext_get_or}
use Rattle.bits.specs.Gf2.{Below, Inverse, OneInverse, Witness, Words, dot, flat, inverse_of, mul, rows}
use Rattle.bits.specs.Gauss.{Carried, Inverted, Kills, Missing, Narrow, Solved, row_at}
use Rattle.bits.proofs.Products.{pow_step, dot_below, dot_comm, dot_zero_r, dot_xor_r, mul_below}
use Rattle.bits.proofs.Rank.{dot_all}
use Rattle.bits.proofs.Vectors.{flat_rows, length_rows, row_ends}
use Rattle.bits.proofs.Inverse.{collapses_or_inverse, not_both, one_side_is_both, xor_same}
use Rattle.bits.proofs.Gauss.{power_past, dot_cat, mul_bit, mul_bits, solved_dot}
use Rattle.bits.proofs.Memory.{mul_rows_below, row_below, rows_at, rows_below}

-- a digit above u
pub top : (c u : ℕ) → u < 2 ^ c → bit_xor u (2 ^ c) ≡ u + 2 ^ c
top c u h =
    let a : 0 * 2 ^ c + u ≡ u = omega arith in
    let b : 1 * 2 ^ c + 0 ≡ 2 ^ c = omega arith in
    let e = xor_block c 0 1 u 0 h (pow_pos c) in
    ap₂ bit_xor (sym a) (sym b) ∙ e ∙ omega (arith, xor_zero_r u)

-- f: the rows of [L | 1], the two parts cut at digit m; g: the rows after elimination
module _ (w n m : ℕ) (ws : List ℕ) (f g : ℕ → ℕ) (fits : n ≤ m)
    (from : (k : ℕ) → k < n → f k ≡ row_at w ws k + 2 ^ m * 2 ^ k) (thin : (k : ℕ) → k < n → row_at w ws k < 2 ^ m) (carried : Carried n f g) where
  long : length (rows w n ws) ≡ n
  long = length_rows w n ws

  wide : (x : ℕ) → x < 2 ^ n → x < 2 ^ m
  wide x h = omega (arith, pow_mono fits)

  digit : (k x : ℕ) → k < n → dot (2 ^ k) (mul (rows w n ws) x) ≡ dot (row_at w ws k) x
  digit k x h = mul_bit (rows w n ws) x k (omega (arith, long)) ∙ ap (λ (r : ℕ). dot r x) (rows_at w n k ws h)

  -- x over its image is in the kernel
  graph : (x : ℕ) → x < 2 ^ n → Kills n f (x + 2 ^ m * mul (rows w n ws) x)
  graph x h k l =
      ap (λ (r : ℕ). dot r (x + 2 ^ m * mul (rows w n ws) x)) (from k l) ∙ dot_cat m (row_at w ws k) (2 ^ k) x (mul (rows w n ws) x) (thin k l) (wide x h)
      ∙ omega (arith, digit k x l)

  -- and x alone just where L sends it to 0
  low : (k x : ℕ) → k < n → x < 2 ^ n → dot (f k) x ≡ dot (row_at w ws k) x
  low k x l h =
      let e : x + 2 ^ m * 0 ≡ x = omega arith in
      ap₂ dot (from k l) (sym e) ∙ dot_cat m (row_at w ws k) (2 ^ k) x 0 (thin k l) (wide x h)
      ∙ omega (arith, dot_zero_r (2 ^ k), dot_below (row_at w ws k) x)

  kills_sent : (x : ℕ) → x < 2 ^ n → Kills n g x → mul (rows w n ws) x ≡ 0
  kills_sent x h e = mul_bits (rows w n ws) x 0 (pow_pos (length (rows w n ws))) (λ k l.
      let i : k < n = omega (arith, long) in
      ap (λ (r : ℕ). dot r x) (rows_at w n k ws i) ∙ sym (low k x i h) ∙ (carried.kernel x).1 e k i ∙ sym (dot_zero_r (2 ^ k)))

  narrow : Narrow n (n + m) g
  narrow = carried.narrow (n + m) (λ k l.
      let b = mul-add-lt (2 ^ k) (2 ^ m) (row_at w ws k) (2 ^ n) (pow_below k n l) (thin k l) in
      omega (arith, from k l, b, mul_comm (2 ^ k) (2 ^ m), mul_comm (2 ^ m) (2 ^ n), pow-add 2 n m))

  -- the end where every column is the identity's: the second parts are the inverse's rows
  module _ (solved : Solved n n g) (out : List ℕ) (is : (k : ℕ) → k < n → row_at w out k ≡ g k / 2 ^ m) where
    undone : (k x : ℕ) → k < n → x < 2 ^ n → dot (row_at w out k) (mul (rows w n ws) x) ≡ dot (2 ^ k) x
    undone k x l h =
        let y : ℕ = mul (rows w n ws) x in
        let a : ℕ = g k % 2 ^ m in
        let b : ℕ = g k / 2 ^ m in
        let s : g k ≡ a + 2 ^ m * b = omega (arith, shr_split (g k) m, mul_comm (2 ^ m) b) in
        let small : a < 2 ^ m = mod-lt (g k) (pow_pos m) in
        let e : x + 2 ^ m * 0 ≡ x = omega arith in
        let whole : (dot a x + dot b y) % 2 ≡ 0 =
        sym (dot_cat m a b x y small (wide x h)) ∙ ap (λ (r : ℕ). dot r (x + 2 ^ m * y)) (sym s) ∙ (carried.kernel (x + 2 ^ m * y)).0 (graph x h) k l in
        let part : dot (2 ^ k) x ≡ (dot a x + dot b 0) % 2 =
        sym (solved_dot n n g solved k x l h) ∙ ap₂ dot s (sym e) ∙ dot_cat m a b x 0 small (wide x h) in
        ap (λ (r : ℕ). dot r y) (is k l) ∙ omega (arith, whole, part, dot_zero_r b, dot_below a x, dot_below b y)

    left : (x : ℕ) → x < 2 ^ length (rows w n ws) → mul (rows w n out) (mul (rows w n ws) x) ≡ x
    left x h =
        let i : x < 2 ^ n = subst (λ (k : ℕ). x < 2 ^ k) long h in
        mul_bits (rows w n out) (mul (rows w n ws) x) x (subst (λ (k : ℕ). x < 2 ^ k) (sym (length_rows w n out)) i) (λ k l.
        let j : k < n = omega (arith, length_rows w n out) in
        ap (λ (r : ℕ). dot r (mul (rows w n ws) x)) (rows_at w n k out j) ∙ undone k x j i)

    pub inverse_end : Inverse (rows w n ws) (rows w n out)
    inverse_end = record {
      size = length_rows w n out ∙ sym long;
      small = subst (λ (i : ℕ). Below i (rows w n out)) (sym long)
          (rows_below w n n out (λ k l. subst (λ (i : ℕ). i < 2 ^ n) (sym (is k l)) (shr_below (g k) n m (narrow k l))));
      left = left;
      right = one_side_is_both (rows w n ws) (rows w n out) (length_rows w n out ∙ sym long) left;
    }

  -- the end where column c has no pivot: u is column c of the rows above
  module _ (c u : ℕ) (cn : c < n) (solved : Solved n c g) (missing : Missing n c g) (ub : u < 2 ^ c)
      (column : (k : ℕ) → k < c → dot (2 ^ k) u ≡ dot (g k) (2 ^ c)) where
    killed : Kills n g (u + 2 ^ c)
    killed k l =
        ap (dot (g k)) (sym (top c u ub)) ∙ dot_xor_r (g k) u (2 ^ c) ∙ elim (dec_lt k c) [
          | yes h ↦ omega (arith, solved_dot n c g solved k u l ub, column k h)
          | no h ↦ omega (arith, solved_dot n c g solved k u l ub, power_past k u (omega (arith, pow_mono {i = c} {j = k} (omega arith))), dot_comm (g k) (2 ^ c), missing k (omega arith) l)
        ]

    up : 2 * 2 ^ c ≤ 2 ^ n
    up = omega (arith, pow_step c, pow_mono cn)

    pub collapsed_end : Witness (rows w n ws) (u + 2 ^ c)
    collapsed_end = record {
      some = omega (arith, pow_pos c);
      small = subst (λ (k : ℕ). u + 2 ^ c < 2 ^ k) (sym long) (omega (arith, up));
      sent = kills_sent (u + 2 ^ c) (omega (arith, up)) killed;
    }

-- and in memory, where `start` and `work` are [L | 1] before and after, v words a row
module _ (w n v : ℕ) (layer start work : List ℕ) (fits : n ≤ 64 * w) (words : Words layer) (size : length layer ≡ n * w) (twice : v ≡ 2 * w)
    (from : (k : ℕ) → k < n → row_at (2 * w) start k ≡ row_at w layer k + 2 ^ (64 * w) * 2 ^ k) (carried : Carried n (row_at v start) (row_at v work)) where
  thin : (k : ℕ) → k < n → row_at w layer k < 2 ^ (64 * w)
  thin k l = row_below w k layer words (omega (arith, row_ends k n w l))

  from_v : (k : ℕ) → k < n → row_at v start k ≡ row_at w layer k + 2 ^ (64 * w) * 2 ^ k
  from_v k l = ap (λ (j : ℕ). row_at j start k) twice ∙ from k l

  pub done : Solved n n (row_at v work) → (out : List ℕ) → ((k : ℕ) → k < n → row_at w out k ≡ row_at (2 * w) work k / 2 ^ (64 * w)) → Inverse (rows w n layer) (rows w n out)
  done solved out is =
      inverse_end w n (64 * w) layer (row_at v start) (row_at v work) fits from_v thin carried solved out
      (λ k l. is k l ∙ ap (λ (j : ℕ). row_at j work k / 2 ^ (64 * w)) (sym twice))

  pub collapsed : (c x : ℕ) → c < n → Solved n c (row_at v work) → Missing n c (row_at v work) → x ≡ mul (rows v c work) (2 ^ c) + 2 ^ c → Witness (rows w n layer) x
  collapsed c x cn solved missing is =
      let u : ℕ = mul (rows v c work) (2 ^ c) in
      subst (Witness (rows w n layer)) (sym is)
      (collapsed_end w n (64 * w) layer (row_at v start) (row_at v work) fits from_v thin carried c u cn solved missing
      (mul_rows_below v c (2 ^ c) work)
      (λ k l. mul_bit (rows v c work) (2 ^ c) k (omega (arith, length_rows v c work)) ∙ ap (λ (r : ℕ). dot r (2 ^ c)) (rows_at v c k work l)))

-- ---- one inverse

below_at : (m : ℕ) (rs : List ℕ) (k : ℕ) → Below m rs → k < length rs → get_or rs k 0 < 2 ^ m
below_at m [] k b h = absurd (omega arith)
below_at m (r ∷ rs) zero b h = b.0
below_at m (r ∷ rs) (suc k) b h = below_at m rs k b.1 (omega arith)

pub one_inverse : OneInverse
one_inverse L N M a b = ext_get_or 0 N M (a.size ∙ sym b.size) (λ k h.
    let j : k < length M = omega (arith, a.size, b.size) in
    xor_same (get_or N k 0) (get_or M k 0)
    (dot_all (length L) (bit_xor (get_or N k 0) (get_or M k 0))
    (xor_lt (length L) (get_or N k 0) (get_or M k 0) (below_at (length L) N k a.small h) (below_at (length L) M k b.small j))
    (λ y l.
    let same : mul N y ≡ mul M y = sym (b.left (mul N y) (subst (λ (i : ℕ). mul N y < 2 ^ i) a.size (mul_below N y))) ∙ ap (mul M) (a.right y l) in
    let e : dot (get_or N k 0) y ≡ dot (get_or M k 0) y = sym (mul_bit N y k h) ∙ ap (dot (2 ^ k)) same ∙ mul_bit M y k j in
    omega (arith, dot_xor_r y (get_or N k 0) (get_or M k 0), dot_comm y (get_or N k 0), dot_comm y (get_or M k 0), e))))

-- so an inverse is the one that `inverse_of` has
pub inverse_is : (L N : List ℕ) → Inverse L N → N ≡ inverse_of L
inverse_is L N v = elim (collapses_or_inverse L) [ inl k ↦ absurd (not_both L N v k) | inr i ↦ one_inverse L N (inverse_of L) v i ]

-- and its words are those of `inverse_of`
pub inverted : (w n : ℕ) (layer out wit : List ℕ) → length out ≡ n * w → Words out → Inverse (rows w n layer) (rows w n out) → Inverted w n layer out wit wit
inverted w n layer out wit size words v =
    let e : rows w n out ≡ inverse_of (rows w n layer) = inverse_is (rows w n layer) (rows w n out) v in
    record { is = e; inverse = v; written = sym (flat_rows w n out size words) ∙ ap (flat w) e; kept = refl }
