-- Wires as rows of a matrix: the steps of the loops that pack, multiply, add and unpack.
use Rattle.std.proofs.Common.{◌≡◌, ℕ, zero, suc, ◌+◌, ◌-◌, ◌*◌, ◌/◌, ◌%◌, ◌^◌, ◌<◌, ◌≤◌, min, ◌≢◌, ◌⊎◌, List, [], ◌∷◌, ◌++◌, map, length, get_or, take, drop, set, replicate, sym, refl, ap, ◌∙◌, subst, ap₂, mod-lt, mod-eq_of_lt, mul_assoc, mul_comm, mul-le-mul_left, one-mul, pow-suc, mul-zero, zero-mul, mul-add, mul_left_comm, add-one, arith, pow_pos, pow_mono, inl, inr, length-append}
use native.Mathlib.Decide.{dec_le, ℕ_discrete}
use native.Mathlib.Nat.{add-mul-mod_self_left, div-add-mod, mod-add-div}
use lib.Bits.{bit_or, bit_xor, or_shifted_r, xor_assoc, xor_self, xor_zero_l, xor_zero_r}
use lib.ListN.{length-map}
use borrow.Rule.Slice.PartMut.{put_mid}
use Rattle.std.proofs.lemmas.List.{append-nil, drop_at, map-append, nil_from_length, take_more, take_more_set, map_push, map-set, length_push, length-take-le, drop_more, drop_all, drop-drop, drop-map, drop-set-lt, get_or-drop, get_or-set_other, get_or-set_same, get_or-map, get_or_push, get_or_append_left, replicate_more}
use Rattle.std.proofs.lemmas.Slice.{take-put_mid_below, between-put_mid}
use Rattle.std.proofs.lemmas.Nat.{field_of, mod-pow-add, pow-add, shl_whole, shr-shr}
use Rattle.bits.specs.Gf2.{Below, Words, comb, dot, mul, rows, value}
use Rattle.bits.specs.Gauss.{row_at}
use Rattle.bits.proofs.Products.{dot_below, dot_comm, dot_xor, dot_zero_l, dot_zero_r, mul_below, pow_step, xor_cons}
use Rattle.bits.proofs.Rank.{dot_double, dot_one, dot_power}
use Rattle.bits.proofs.Vectors.{length_rows, rows_more, rows_prefix, value_bit, value_high}
use Rattle.cipher.specs.Instances.{times}
use Rattle.batches.specs.Lanes.{columns, lane, table}

-- ---- rows of a matrix

doubled : (d k : ℕ) → d * 2 ^ suc k ≡ 2 * (d * 2 ^ k)
doubled d k = ap (λ (p : ℕ). d * p) (pow-suc 2 k ∙ mul_comm (2 ^ k) 2) ∙ mul_left_comm d 2 (2 ^ k)

-- one row more
pub mul_push : (ms : List ℕ) (m v : ℕ) → mul (ms ++ m ∷ []) v ≡ mul ms v + dot m v * 2 ^ length ms
mul_push [] m v = omega arith
mul_push (a ∷ ms) m v = omega (arith, mul_push ms m v, doubled (dot m v) (length ms))

-- bit i of a product is row i's
pub bit_of_mul : (ms : List ℕ) (i v : ℕ) → dot (2 ^ i) (mul ms v) ≡ dot (get_or ms i 0) v
bit_of_mul [] i v = dot_zero_r (2 ^ i) ∙ sym (dot_zero_l v)
bit_of_mul (m ∷ ms) zero v = let b = dot_below m v in dot_one (mul (m ∷ ms) v) ∙ omega arith
bit_of_mul (m ∷ ms) (suc i) v =
    let b = dot_below m v in
    let half : mul (m ∷ ms) v / 2 ≡ mul ms v = omega arith in
    ap (λ (p : ℕ). dot p (mul (m ∷ ms) v)) (pow_step i) ∙ dot_double (2 ^ i) (mul (m ∷ ms) v) ∙ ap (dot (2 ^ i)) half ∙ bit_of_mul ms i v

-- something is added to row k
pub mul_set : (ms : List ℕ) (k x v : ℕ) → k < length ms → mul (set ms k (bit_xor (get_or ms k 0) x)) v ≡ bit_xor (mul ms v) (dot x v * 2 ^ k)
mul_set [] k x v h = absurd (omega arith)
mul_set (m ∷ ms) zero x v h =
    let e : dot x v * 2 ^ 0 ≡ dot x v + 2 * 0 = omega arith in
    sym (ap (bit_xor (dot m v + 2 * mul ms v)) e ∙ xor_cons (dot m v) (dot x v) (mul ms v) 0 (dot_below m v) (dot_below x v)
    ∙ ap₂ (λ (p q : ℕ). p + 2 * q) (sym (dot_xor v m x)) (xor_zero_r (mul ms v)))
mul_set (m ∷ ms) (suc k) x v h =
    let e : dot x v * 2 ^ suc k ≡ 0 + 2 * (dot x v * 2 ^ k) = doubled (dot x v) k ∙ omega arith in
    let b = dot_below m v in
    let low : (dot m v + 0) % 2 ≡ dot m v = omega arith in
    ap (λ (p : ℕ). dot m v + 2 * p) (mul_set ms k x v (omega arith))
    ∙ sym (ap (bit_xor (dot m v + 2 * mul ms v)) e ∙ xor_cons (dot m v) 0 (mul ms v) (dot x v * 2 ^ k) b (omega arith)
    ∙ ap (λ (p : ℕ). p + 2 * bit_xor (mul ms v) (dot x v * 2 ^ k)) low)

-- a bit above a number's own
pub xor_above : (k a b : ℕ) → a < 2 ^ k → b < 2 → bit_xor a (b * 2 ^ k) ≡ a + b * 2 ^ k
xor_above zero a b ha hb =
    let za : a ≡ 0 + 2 * 0 = omega arith in
    let zb : b * 2 ^ 0 ≡ b + 2 * 0 = omega arith in
    ap₂ bit_xor za zb ∙ xor_cons 0 b 0 0 (omega arith) hb ∙ omega (arith, xor_self 0)
xor_above (suc k) a b ha hb =
    let ea : a ≡ a % 2 + 2 * (a / 2) = omega arith in
    let eb : b * 2 ^ suc k ≡ 0 + 2 * (b * 2 ^ k) = doubled b k ∙ omega arith in
    ap₂ bit_xor ea eb ∙ xor_cons (a % 2) 0 (a / 2) (b * 2 ^ k) (omega arith) (omega arith)
    ∙ omega (arith, xor_above k (a / 2) b (omega (arith, pow_step k)) hb, doubled b k)

-- the rows up to k are those before it and row k
pub mul_take_more : (ms : List ℕ) (k v : ℕ) → k < length ms → mul (take (k + 1) ms) v ≡ bit_xor (mul (take k ms) v) (dot (get_or ms k 0) v * 2 ^ k)
mul_take_more ms k v h =
    let n : length (take k ms) ≡ k = length-take-le k ms (omega arith) in
    let low : mul (take k ms) v < 2 ^ k = subst (λ (i : ℕ). mul (take k ms) v < 2 ^ i) n (mul_below (take k ms) v) in
    ap (λ (l : List ℕ). mul l v) (take_more ms k 0 h) ∙ mul_push (take k ms) (get_or ms k 0) v
    ∙ ap (λ (i : ℕ). mul (take k ms) v + dot (get_or ms k 0) v * 2 ^ i) n
    ∙ sym (xor_above k (mul (take k ms) v) (dot (get_or ms k 0) v) low (dot_below (get_or ms k 0) v))

-- ---- tables

pub table_more : (n : ℕ) (g : ℕ → ℕ) → table (n + 1) g ≡ table n g ++ g n ∷ []
table_more n g = ap (λ (k : ℕ). table k g) (add-one n)

pub length_table : (n : ℕ) (g : ℕ → ℕ) → length (table n g) ≡ n
length_table zero g = refl
length_table (suc n) g = length_push (table n g) (g n) ∙ add-one (length (table n g)) ∙ ap suc (length_table n g)

pub table_cons : (n : ℕ) (g : ℕ → ℕ) → table (suc n) g ≡ g 0 ∷ table n (λ i. g (suc i))
table_cons zero g = refl
table_cons (suc n) g = ap (λ (l : List ℕ). l ++ g (suc n) ∷ []) (table_cons n g)

pub table_same : (n : ℕ) (g h : ℕ → ℕ) → ((i : ℕ) → i < n → g i ≡ h i) → table n g ≡ table n h
table_same zero g h e = refl
table_same (suc n) g h e = ap₂ (λ (u : List ℕ) (v : ℕ). u ++ v ∷ []) (table_same n g h (λ i k. e i (omega arith))) (e n (omega arith))

-- one bit more
mod_more : (n x : ℕ) → x % 2 ^ n + (x / 2 ^ n % 2) * 2 ^ n ≡ x % 2 ^ suc n
mod_more n x =
    let q : x % 2 ^ (1 + n) ≡ (x / 2 ^ n % 2 ^ 1) * 2 ^ n + x % 2 ^ n = mod-pow-add x 1 n in
    let e : 1 + n ≡ suc n = omega arith in
    omega (arith, sym (ap (λ (k : ℕ). x % 2 ^ k) e), q)

-- the columns of the columns: the block again, in its first n bits
lane_columns_mod : (n j : ℕ) (bs : List ℕ) → lane j (columns n bs) ≡ get_or bs j 0 % 2 ^ n
lane_columns_mod zero j bs = omega arith
lane_columns_mod (suc n) j bs =
    let x : ℕ = get_or bs j 0 in
    let one : dot (lane n bs) (2 ^ j) ≡ x / 2 ^ n % 2 = dot_comm (lane n bs) (2 ^ j) ∙ bit_of_mul bs j (2 ^ n) ∙ dot_comm x (2 ^ n) ∙ dot_power n x in
    mul_push (columns n bs) (lane n bs) (2 ^ j)
    ∙ ap₂ (λ (p k : ℕ). p + dot (lane n bs) (2 ^ j) * 2 ^ k) (lane_columns_mod n j bs) (length_table n (λ i. lane i bs))
    ∙ ap (λ (b : ℕ). x % 2 ^ n + b * 2 ^ n) one ∙ mod_more n x

pub below_at : (n : ℕ) (bs : List ℕ) (j : ℕ) → Below n bs → get_or bs j 0 < 2 ^ n
below_at n [] j b = pow_pos n
below_at n (x ∷ bs) zero b = b.0
below_at n (x ∷ bs) (suc j) b = below_at n bs j b.1

pub lane_columns : (n j : ℕ) (bs : List ℕ) → Below n bs → lane j (columns n bs) ≡ get_or bs j 0
lane_columns n j bs b = lane_columns_mod n j bs ∙ mod-eq_of_lt (below_at n bs j b)

-- ---- gather and load

pub gather_more : (w i j word b : ℕ) (ws : List ℕ) → j < 64 → word ≡ lane i (rows w j ws) → b ≡ dot (2 ^ i) (value (take w (drop (j * w) ws)))
    → bit_or word (b * 2 ^ j % 2 ^ 64) ≡ lane i (rows w (j + 1) ws)
gather_more w i j word b ws h inv e =
    let x : ℕ = value (take w (drop (j * w) ws)) in
    let is : b ≡ dot x (2 ^ i) = e ∙ dot_comm (2 ^ i) x in
    let two = dot_below x (2 ^ i) in
    let shift : b * 2 ^ j % 2 ^ 64 ≡ b * 2 ^ j = shl_whole b 1 j 64 (omega arith) (omega arith) in
    let n : length (rows w j ws) ≡ j = length_rows w j ws in
    let low : word < 2 ^ j = subst (λ (k : ℕ). word < 2 ^ k) n (omega (arith, mul_below (rows w j ws) (2 ^ i))) in
    let push : lane i (rows w (j + 1) ws) ≡ lane i (rows w j ws) + dot x (2 ^ i) * 2 ^ j =
    ap (lane i) (rows_more w j ws) ∙ mul_push (rows w j ws) x (2 ^ i) ∙ ap (λ (k : ℕ). lane i (rows w j ws) + dot x (2 ^ i) * 2 ^ k) n in
    let p : b * 2 ^ j ≡ dot x (2 ^ i) * 2 ^ j = ap (λ (d : ℕ). d * 2 ^ j) is in
    ap (bit_or word) shift ∙ or_shifted_r b j word low ∙ omega (arith, push, p)

-- a gathered word has no bit past the lanes
pub entered : (w i count lanes word r : ℕ) (ws : List ℕ) → count ≤ lanes → word ≡ lane i (rows w count ws) → r ≡ word % 2 ^ lanes → r ≡ lane i (rows w count ws)
entered w i count lanes word r ws h e is =
    let low : word < 2 ^ count = subst (λ (k : ℕ). word < 2 ^ k) (length_rows w count ws) (omega (arith, mul_below (rows w count ws) (2 ^ i))) in
    let fits : word < 2 ^ lanes = omega (arith, pow_mono h) in
    is ∙ mod-eq_of_lt fits ∙ e

module _ {X : Type 0} (f : X → ℕ) where
  pub fill_more : (xs : List X) (i : ℕ) (x : X) (g : ℕ → ℕ) → i < length xs → map f (take i xs) ≡ table i g → f x ≡ g i
      → map f (take (i + 1) (set xs i x)) ≡ table (i + 1) g
  fill_more xs i x g h inv e =
      ap (map f) (take_more_set xs i x h) ∙ map_push f (take i xs) x ∙ ap₂ (λ (u : List ℕ) (v : ℕ). u ++ v ∷ []) inv e ∙ sym (table_more i g)

  pub read_map : (xs : List X) (i : ℕ) (x : X) → i < length xs → x ≡ get_or xs i x → f x ≡ get_or (map f xs) i 0
  read_map xs i x h e = ap f e ∙ sym (get_or-map f xs i x 0 h)

  -- two lists that are the same from i on
  pub same_past : (xs ys : List X) (i : ℕ) (x : X) → i < length xs → x ≡ get_or xs i x → drop i xs ≡ drop i ys → f x ≡ get_or (map f ys) i 0
  same_past xs ys i x h e d = read_map xs i x h e ∙ at xs ∙ ap (λ (l : List X). get_or (map f l) 0 0) d ∙ sym (at ys)
    where
      at : (zs : List X) → get_or (map f zs) i 0 ≡ get_or (map f (drop i zs)) 0 0
      at zs =
          let z : i ≡ i + 0 = omega arith in
          ap (λ (k : ℕ). get_or (map f zs) k 0) z ∙ sym (get_or-drop i (map f zs) 0 0) ∙ ap (λ (l : List ℕ). get_or l 0 0) (drop-map f i zs)

  pub read_set : (xs : List X) (k s : ℕ) (x : X) → k < length xs → s ≡ k → get_or (map f (set xs k x)) s 0 ≡ f x
  read_set xs k s x h e =
      let n : length (map f xs) ≡ length xs = length-map xs f in
      let l : k < length (map f xs) = omega arith in
      ap₂ (λ (l : List ℕ) (i : ℕ). get_or l i 0) (map-set f xs k x) e ∙ rw get_or-set_same

  pub read_other : (xs : List X) (k s : ℕ) (x : X) → s ≢ k → get_or (map f (set xs k x)) s 0 ≡ get_or (map f xs) s 0
  read_other xs k s x ne = ap (λ (l : List ℕ). get_or l s 0) (map-set f xs k x) ∙ rw get_or-set_other

  -- x is what stood at k with y added
  pub map_mul_set : (xs : List X) (k : ℕ) (x : X) (y v : ℕ) → k < length xs → f x ≡ bit_xor (get_or (map f xs) k 0) y
      → mul (map f (set xs k x)) v ≡ bit_xor (mul (map f xs) v) (dot y v * 2 ^ k)
  map_mul_set xs k x y v h e =
      let n : length (map f xs) ≡ length xs = length-map xs f in
      ap (λ (l : List ℕ). mul l v) (map-set f xs k x ∙ ap (set (map f xs) k) e) ∙ mul_set (map f xs) k y v (omega arith)

-- ---- read_lane and unload

pub lane_more : (ms out : List ℕ) (i v b : ℕ) → i < length ms → i / 64 < length out → value out ≡ mul (take i ms) v → b ≡ dot (get_or ms i 0) v
    → value (set out (i / 64) (bit_or (get_or out (i / 64) 0) (b * 2 ^ (i % 64) % 2 ^ 64))) ≡ mul (take (i + 1) ms) v
lane_more ms out i v b h room inv e =
    let two = dot_below (get_or ms i 0) v in
    let shift : b * 2 ^ (i % 64) % 2 ^ 64 ≡ b * 2 ^ (i % 64) = shl_whole b 1 (i % 64) 64 (omega arith) (omega arith) in
    let n : length (take i ms) ≡ i = length-take-le i ms (omega arith) in
    let low : value out < 2 ^ i = subst (λ (k : ℕ). value out < 2 ^ k) n (omega (arith, mul_below (take i ms) v)) in
    let push : mul (take (i + 1) ms) v ≡ mul (take i ms) v + dot (get_or ms i 0) v * 2 ^ i =
    ap (λ (l : List ℕ). mul l v) (take_more ms i 0 h) ∙ mul_push (take i ms) (get_or ms i 0) v ∙ ap (λ (k : ℕ). mul (take i ms) v + dot (get_or ms i 0) v * 2 ^ k) n in
    let p : b * 2 ^ i ≡ dot (get_or ms i 0) v * 2 ^ i = ap (λ (d : ℕ). d * 2 ^ i) e in
    rw shift (omega (arith, value_bit out i b room low, push, p, inv))

-- block j is written
pub unload_more : (w j : ℕ) (xs new ms : List ℕ) → j * w + w ≤ length xs → length new ≡ w → value new ≡ lane j ms
    → rows w j xs ≡ columns j ms → rows w (j + 1) (put_mid (j * w) w xs new) ≡ columns (j + 1) ms
unload_more w j xs new ms room size is before =
    let ys : List ℕ = put_mid (j * w) w xs new in
    let a : rows w j ys ≡ rows w j xs = rows_prefix w j ys xs (take-put_mid_below (j * w) w xs new (j * w) (omega arith) (omega arith)) in
    let n : (j * w + w) - j * w ≡ w = omega arith in
    let b : take w (drop (j * w) ys) ≡ new =
    ap (λ (k : ℕ). take k (drop (j * w) ys)) (sym n) ∙ between-put_mid (j * w) w xs new (j * w + w) (omega arith) (omega arith) in
    rows_more w j ys ∙ ap₂ (λ (p q : List ℕ). p ++ value q ∷ []) a b
    ∙ ap₂ (λ (u : List ℕ) (x : ℕ). u ++ x ∷ []) before is ∙ sym (table_more j (λ i. lane i ms))

-- ---- products, a few wires at a time

pub comb_zero : (ms : List ℕ) → comb ms 0 ≡ 0
comb_zero [] = refl
comb_zero (m ∷ ms) = ap₂ bit_xor (zero-mul m) (comb_zero ms) ∙ xor_self 0

-- the k lowest bits pick among the first k wires, the others among the later ones
pub comb_split : (k lo hi : ℕ) (ms : List ℕ) → lo < 2 ^ k → comb ms (lo + 2 ^ k * hi) ≡ bit_xor (comb ms lo) (comb (drop k ms) hi)
comb_split zero lo hi ms h =
    let e : lo ≡ 0 = omega arith in
    let n : lo + 2 ^ 0 * hi ≡ hi = omega arith in
    ap (comb ms) n ∙ sym (xor_zero_l (comb ms hi)) ∙ ap (λ (x : ℕ). bit_xor x (comb ms hi)) (sym (ap (comb ms) e ∙ comb_zero ms))
comb_split (suc k) lo hi [] h = sym (xor_self 0)
comb_split (suc k) lo hi (m ∷ ms) h =
    let d : 2 ^ suc k * hi ≡ 2 * (2 ^ k * hi) = ap (λ (p : ℕ). p * hi) (pow_step k) ∙ assoc 2 (2 ^ k) hi in
    let low : (lo + 2 ^ suc k * hi) % 2 ≡ lo % 2 = omega (arith, d) in
    let high : (lo + 2 ^ suc k * hi) / 2 ≡ lo / 2 + 2 ^ k * hi = omega (arith, d) in
    ap₂ (λ (b n : ℕ). bit_xor (b * m) (comb ms n)) low high
    ∙ ap (bit_xor (lo % 2 * m)) (comb_split k (lo / 2) hi ms (omega (arith, pow_step k)))
    ∙ sym (xor_assoc (lo % 2 * m) (comb ms (lo / 2)) (comb (drop k ms) hi))
  where
    assoc : (a b c : ℕ) → a * b * c ≡ a * (b * c)
    assoc a b c = mul_assoc a b c

-- bits past the last wire pick nothing
pub comb_mod : (k v : ℕ) (ms : List ℕ) → length ms ≤ k → comb ms (v % 2 ^ k) ≡ comb ms v
comb_mod k v ms h =
    let e : v % 2 ^ k + 2 ^ k * (v / 2 ^ k) ≡ v = mod-add-div v (2 ^ k) in
    sym (ap (comb ms) (sym e) ∙ comb_split k (v % 2 ^ k) (v / 2 ^ k) ms (mod-lt v (pow_pos k))
    ∙ ap (λ (l : List ℕ). bit_xor (comb ms (v % 2 ^ k)) (comb l (v / 2 ^ k))) (drop_all k ms h) ∙ xor_zero_r (comb ms (v % 2 ^ k)))

comb_one : (b : ℕ) (ms : List ℕ) → comb (drop b ms) 1 ≡ get_or ms b 0
comb_one zero [] = refl
comb_one zero (m ∷ ms) = ap₂ bit_xor (one-mul m) (comb_zero ms) ∙ xor_zero_r m
comb_one (suc b) [] = refl
comb_one (suc b) (m ∷ ms) = comb_one b ms

-- one way more: its highest wire, and a way among those below
pub ways_more : (b t u x y : ℕ) (ms : List ℕ) → 2 ^ b ≤ t → t < 2 ^ (b + 1) → u ≡ t - 2 ^ b → x ≡ comb ms u → y ≡ get_or ms b 0 → bit_xor x y ≡ comb ms t
ways_more b t u x y ms lo hi eu ex ey =
    let p : 2 ^ (b + 1) ≡ 2 * 2 ^ b = ap (λ (k : ℕ). 2 ^ k) (add-one b) ∙ pow_step b in
    let e : u + 2 ^ b * 1 ≡ t = omega (arith, p) in
    ap₂ bit_xor ex (ey ∙ sym (comb_one b ms)) ∙ sym (comb_split b u 1 ms (omega (arith, p))) ∙ ap (comb ms) e

-- b bits more
pub group_more : (b g v : ℕ) (ms : List ℕ) → bit_xor (comb ms (v % 2 ^ (b * g))) (comb (drop (b * g) ms) (v / 2 ^ (b * g) % 2 ^ b)) ≡ comb ms (v % 2 ^ (b * (g + 1)))
group_more b g v ms =
    let k : ℕ = b * g in
    let e : b * (g + 1) ≡ b + k = mul-add b g 1 ∙ omega arith in
    let q : v % 2 ^ (b + k) ≡ (v / 2 ^ k % 2 ^ b) * 2 ^ k + v % 2 ^ k = mod-pow-add v b k in
    let s : v % 2 ^ k + 2 ^ k * (v / 2 ^ k % 2 ^ b) ≡ v % 2 ^ (b * (g + 1)) =
    omega (arith, mul_comm (2 ^ k) (v / 2 ^ k % 2 ^ b), q) ∙ ap (λ (i : ℕ). v % 2 ^ i) (sym e) in
    sym (comb_split k (v % 2 ^ k) (v / 2 ^ k % 2 ^ b) ms (mod-lt v (pow_pos k))) ∙ ap (comb ms) s

-- the b bits of a vector in words that group g is, where c groups are a word
low_field : (b x r s : ℕ) → s + b ≤ 64 → (x + 2 ^ 64 * r) / 2 ^ s % 2 ^ b ≡ x / 2 ^ s % 2 ^ b
low_field b x r s h =
    let k : ℕ = b + s in
    let j : ℕ = 64 - k in
    let e : 64 ≡ k + j = omega arith in
    let p : 2 ^ 64 * r ≡ 2 ^ k * (2 ^ j * r) = ap (λ (i : ℕ). 2 ^ i * r) e ∙ ap (λ (i : ℕ). i * r) (pow-add 2 k j) ∙ mul_assoc (2 ^ k) (2 ^ j) r in
    sym (field_of (x + 2 ^ 64 * r) b s)
    ∙ ap (λ (i : ℕ). i / 2 ^ s) (ap (λ (i : ℕ). (x + i) % 2 ^ k) p ∙ add-mul-mod_self_left x (2 ^ k) (2 ^ j * r))
    ∙ field_of x b s

-- where group g begins, and that it ends in its word
pub group_place : (b c g : ℕ) → b * c ≡ 64 → 0 < c → (64 * (g / c) + b * (g % c) ≡ b * g) × (b * (g % c) + b ≤ 64)
group_place b c g e h =
    let d : c * (g / c) + g % c ≡ g = div-add-mod g c in
    let m : g % c < c = mod-lt g h in
    let p : b * g ≡ b * c * (g / c) + b * (g % c) = ap (λ (i : ℕ). b * i) (sym d) ∙ mul-add b (c * (g / c)) (g % c) ∙ ap (λ (i : ℕ). i + b * (g % c)) (sym (mul_assoc b c (g / c))) in
    let q : b * c * (g / c) ≡ 64 * (g / c) = ap (λ (i : ℕ). i * (g / c)) e in
    let l : b * (g % c + 1) ≤ b * c = mul-le-mul_left b (omega arith) in
    let r : b * (g % c + 1) ≡ b * (g % c) + b = mul-add b (g % c) 1 ∙ omega arith in
    (omega arith, omega arith)

-- a group of bits of a row, which is read in one of its words
pub group_word : (ws : List ℕ) (b c g : ℕ) → Words ws → b * c ≡ 64 → 0 < c → g / c < length ws
    → get_or ws (g / c) 0 / 2 ^ (b * (g % c)) % 2 ^ b ≡ value ws / 2 ^ (b * g) % 2 ^ b
group_word ws b c g f whole some h =
    let q : ℕ = g / c in
    let s : ℕ = b * (g % c) in
    let p = group_place b c g whole some in
    sym (ap (λ (i : ℕ). value ws / 2 ^ i % 2 ^ b) (sym p.0)
    ∙ ap (λ (y : ℕ). y % 2 ^ b) (sym (shr-shr (value ws) (64 * q) s))
    ∙ ap (λ (y : ℕ). y / 2 ^ s % 2 ^ b) (sym (value_high q ws f (omega arith)) ∙ ap value (drop_more ws q 0 h))
    ∙ low_field b (get_or ws q 0) (value (drop (q + 1) ws)) s p.1)

-- wire i has its sum, and those after it are as before
pub group_step : {X : Type 0} (f : X → ℕ) (xs ys : List X) (i : ℕ) (x : X) (g : ℕ → ℕ) → i < length xs → map f (take i xs) ≡ table i g → drop i xs ≡ drop i ys → f x ≡ g i
    → (map f (take (i + 1) (set xs i x)) ≡ table (i + 1) g) × (drop (i + 1) (set xs i x) ≡ drop (i + 1) ys)
group_step f xs ys i x g h inv same e = (
  fill_more f xs i x g h inv e,
  drop-set-lt (i + 1) xs i x (omega arith) ∙ sym (drop-drop 1 i xs) ∙ ap (drop 1) same ∙ drop-drop 1 i ys,
)

-- ---- tables of rows

table_none : (n : ℕ) (g : ℕ → ℕ) → ((i : ℕ) → i < n → g i ≡ 0) → table n g ≡ replicate n 0
table_none zero g e = refl
table_none (suc n) g e =
    ap₂ (λ (u : List ℕ) (v : ℕ). u ++ v ∷ []) (table_none n g (λ i k. e i (omega arith))) (e n (omega arith)) ∙ replicate_more n 0 ∙ ap (λ (k : ℕ). replicate k 0) (add-one n)

pub table_rows : (n w : ℕ) (f : ℕ → ℕ) (ws : List ℕ) → table n (λ i. f (row_at w ws i)) ≡ map f (rows w n ws)
table_rows zero w f ws = refl
table_rows (suc n) w f ws =
    ap (λ (l : List ℕ). l ++ f (row_at w ws n) ∷ []) (table_rows n w f ws) ∙ sym (map_push f (rows w n ws) (row_at w ws n))
    ∙ ap (map f) (sym (rows_more w n ws) ∙ ap (λ (k : ℕ). rows w k ws) (add-one n))

pub get_or_table : (n : ℕ) (g : ℕ → ℕ) (i : ℕ) → i < n → get_or (table n g) i 0 ≡ g i
get_or_table zero g i h = absurd (omega arith)
get_or_table (suc n) g i h =
    elim (ℕ_discrete i n) [
      | yes e ↦ get_or_push (table n g) (g n) 0 i (length_table n g ∙ sym e) ∙ ap g (sym e)
      | no e ↦ get_or_append_left (table n g) (g n ∷ []) 0 i (let l = length_table n g in omega arith) ∙ get_or_table n g i (omega arith)
    ]

-- before the first group
pub none_picked : (n w b : ℕ) (ws ms : List ℕ) → replicate n 0 ≡ table n (λ i. comb ms (row_at w ws i % 2 ^ (b * 0)))
none_picked n w b ws ms =
    let z : b * 0 ≡ 0 = mul-zero b in
    sym (table_none n (λ i. comb ms (row_at w ws i % 2 ^ (b * 0))) (λ i h. ap (comb ms) (ap (λ (k : ℕ). row_at w ws i % 2 ^ k) z ∙ (let y : row_at w ws i % 2 ^ 0 ≡ 0 = omega arith in y)) ∙ comb_zero ms))

-- after one group more
pub groups_more : (n w b g : ℕ) (ws ms xs sums : List ℕ) → xs ≡ table n (λ i. comb ms (row_at w ws i % 2 ^ (b * g)))
    → ((t : ℕ) → t < 2 ^ b → get_or sums t 0 ≡ comb (drop (b * g) ms) t)
    → table n (λ i. bit_xor (get_or xs i 0) (get_or sums (row_at w ws i / 2 ^ (b * g) % 2 ^ b) 0)) ≡ table n (λ i. comb ms (row_at w ws i % 2 ^ (b * (g + 1))))
groups_more n w b g ws ms xs sums inv ways =
    table_same n (λ i. bit_xor (get_or xs i 0) (get_or sums (row_at w ws i / 2 ^ (b * g) % 2 ^ b) 0)) (λ i. comb ms (row_at w ws i % 2 ^ (b * (g + 1))))
    (λ i h. ap₂ bit_xor (ap (λ (l : List ℕ). get_or l i 0) inv ∙ get_or_table n (λ k. comb ms (row_at w ws k % 2 ^ (b * g))) i h)
    (ways (row_at w ws i / 2 ^ (b * g) % 2 ^ b) (mod-lt (row_at w ws i / 2 ^ (b * g)) (pow_pos b)))
    ∙ group_more b g (row_at w ws i) ms)

-- after all groups
pub groups_all : (n w k : ℕ) (ws ms : List ℕ) → length ms ≤ k → table n (λ i. comb ms (row_at w ws i % 2 ^ k)) ≡ times (rows w n ws) ms
groups_all n w k ws ms h =
    table_same n (λ i. comb ms (row_at w ws i % 2 ^ k)) (λ i. comb ms (row_at w ws i)) (λ i l. comb_mod k (row_at w ws i) ms h) ∙ table_rows n w (comb ms) ws

-- ---- add_wires and add_constant

module _ {X : Type 0} (f : X → ℕ) (xs : List X) (k : ℕ) (x : X) (h : k < length xs) where
  pub wires_more : (ys : List ℕ) (v t : ℕ) → k < length ys → f x ≡ bit_xor (get_or (map f xs) k 0) (get_or ys k 0)
      → mul (map f xs) v ≡ bit_xor t (mul (take k ys) v) → mul (map f (set xs k x)) v ≡ bit_xor t (mul (take (k + 1) ys) v)
  wires_more ys v t l e inv =
      map_mul_set f xs k x (get_or ys k 0) v h e ∙ ap (λ (p : ℕ). bit_xor p (dot (get_or ys k 0) v * 2 ^ k)) inv
      ∙ xor_assoc t (mul (take k ys) v) (dot (get_or ys k 0) v * 2 ^ k) ∙ ap (bit_xor t) (sym (mul_take_more ys k v l))

  -- bit k of the constant in lane j
  pub constant_more : (c y j t : ℕ) → f x ≡ bit_xor (get_or (map f xs) k 0) y → dot y (2 ^ j) ≡ dot (2 ^ k) c
      → lane j (map f xs) ≡ bit_xor t (c % 2 ^ k) → lane j (map f (set xs k x)) ≡ bit_xor t (c % 2 ^ (k + 1))
  constant_more c y j t e b inv =
      let low : c % 2 ^ k < 2 ^ k = omega (arith, mod-lt c (pow_pos k)) in
      let bit : dot (2 ^ k) c ≡ c / 2 ^ k % 2 = dot_power k c in
      map_mul_set f xs k x y (2 ^ j) h e ∙ ap₂ (λ (p d : ℕ). bit_xor p (d * 2 ^ k)) inv (b ∙ bit)
      ∙ xor_assoc t (c % 2 ^ k) ((c / 2 ^ k % 2) * 2 ^ k)
      ∙ ap (bit_xor t) (xor_above k (c % 2 ^ k) (c / 2 ^ k % 2) low (omega arith) ∙ mod_more k c ∙ ap (λ (i : ℕ). c % 2 ^ i) (sym (add-one k)))

bit_mod : (n j x : ℕ) → j < n → dot (2 ^ j) (x % 2 ^ n) ≡ dot (2 ^ j) x
bit_mod n j x h =
    let i : ℕ = n - 1 - j in
    let e : n ≡ i + 1 + j = omega arith in
    let y : ℕ = x / 2 ^ j in
    let p : x % 2 ^ n / 2 ^ j ≡ y % 2 ^ (i + 1) = ap (λ (k : ℕ). x % 2 ^ k / 2 ^ j) e ∙ field_of x (i + 1) j in
    let q : y % 2 ^ (i + 1) ≡ (y / 2 % 2 ^ i) * 2 + y % 2 = mod-pow-add y i 1 in
    dot_power j (x % 2 ^ n) ∙ omega (arith, p, q, dot_power j x)

ones_bit : (n j : ℕ) → j < n → dot (2 ^ j) (2 ^ n - 1) ≡ 1
ones_bit zero j h = absurd (omega arith)
ones_bit (suc n) zero h = dot_one (2 ^ suc n - 1) ∙ omega (arith, pow_step n, pow_pos n)
ones_bit (suc n) (suc j) h =
    let e : (2 ^ suc n - 1) / 2 ≡ 2 ^ n - 1 = omega (arith, pow_step n, pow_pos n) in
    ap (λ (p : ℕ). dot p (2 ^ suc n - 1)) (pow_step j) ∙ dot_double (2 ^ j) (2 ^ suc n - 1) ∙ ap (dot (2 ^ j)) e ∙ ones_bit n j (omega arith)

-- a bit that was spread over the lanes, in lane j
pub spread_bit : (lanes j d y : ℕ) → d < 2 → j < lanes → lanes ≤ 64 → y ≡ d * (2 ^ 64 - 1) % 2 ^ lanes → dot y (2 ^ j) ≡ d
spread_bit lanes j d y b h few e =
    dot_comm y (2 ^ j) ∙ ap (dot (2 ^ j)) e ∙ bit_mod lanes j (d * (2 ^ 64 - 1)) h ∙ go d b
  where
    go : (d : ℕ) → d < 2 → dot (2 ^ j) (d * (2 ^ 64 - 1)) ≡ d
    go zero l = dot_zero_r (2 ^ j)
    go (suc zero) l = ones_bit 64 j (omega arith)
    go (suc (suc d)) l = absurd (omega arith)

-- ---- groups of b

pub some_groups : (b c : ℕ) → b * c ≡ 64 → 0 < c
some_groups b zero e = absurd (omega (arith, e, mul-zero b))
some_groups b (suc c) e = omega arith

-- sums of the first wires do not see those after them
comb_front : (ys zs : List ℕ) (t : ℕ) → t < 2 ^ length ys → comb (ys ++ zs) t ≡ comb ys t
comb_front [] zs t h = let z : t ≡ 0 = omega arith in ap (comb zs) z ∙ comb_zero zs
comb_front (y ∷ ys) zs t h = ap (bit_xor (t % 2 * y)) (comb_front ys zs (t / 2) (omega (arith, h, pow_step (length ys))))

-- ys are the next b of the wires that are left, or all of them, and zs those after
module _ {X : Type 0} (b k : ℕ) (all ys zs : List X) (e : drop (b * k) all ≡ ys ++ zs) (n : length ys ≡ min b (length (drop (b * k) all))) where
  whole_or_last : (length ys ≡ b) ⊎ (zs ≡ [])
  whole_or_last =
      let l : length (drop (b * k) all) ≡ length ys + length zs = ap length e ∙ length-append ys zs in
      elim (dec_le b (length (drop (b * k) all))) [
        | yes h ↦ inl (omega arith)
        | no h ↦ inr (nil_from_length zs (omega arith))
      ]

  pub after_part : zs ≡ drop (b * (k + 1)) all
  after_part =
      let next : b * k + b ≡ b * (k + 1) = sym (mul-add b k 1 ∙ omega arith) in
      let past : drop b (ys ++ zs) ≡ drop (b * (k + 1)) all = ap (drop b) (sym e) ∙ drop-drop b (b * k) all ∙ ap (λ i. drop i all) next in
      elim whole_or_last [
        | inl h ↦ sym (drop_at ys zs b h) ∙ past
        | inr h ↦
            let few : length (ys ++ zs) ≤ b = omega (arith, length-append ys zs, ap length h, n) in
            h ∙ sym (drop_all b (ys ++ zs) few) ∙ past
      ]

  pub comb_part : (f : X → ℕ) (t : ℕ) → t < 2 ^ b → comb (map f ys) t ≡ comb (drop (b * k) (map f all)) t
  comb_part f t h =
      let whole : drop (b * k) (map f all) ≡ map f ys ++ map f zs = drop-map f (b * k) all ∙ ap (map f) e ∙ map-append f ys zs in
      elim whole_or_last [
        | inl l ↦
            let m : length (map f ys) ≡ b = length-map ys f ∙ l in
            sym (ap (λ l. comb l t) whole ∙ comb_front (map f ys) (map f zs) t (subst (λ i. t < 2 ^ i) (sym m) h))
        | inr l ↦ sym (ap (λ l. comb l t) (whole ∙ ap (λ l. map f ys ++ map f l) l ∙ append-nil (map f ys)))
      ]
