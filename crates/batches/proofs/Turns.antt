-- A round on wires, lane by lane: what the calls of one round compute, and the gates of several.
use Rattle.std.proofs.Common.{◌≡◌, ℕ, ◌+◌, ◌-◌, ◌*◌, ◌^◌, ◌<◌, ◌≤◌, List, map, get_or, take, drop, sym, refl, ap, ◌∙◌, subst, ap₂, mul_comm, add-mul, one-mul, zero-mul, arith}
use lib.Bits.{bit_xor, xor_assoc, xor_comm}
use Rattle.std.proofs.lemmas.List.{drop-drop}
use Rattle.bits.specs.Gf2.{inverse_of, mul, rows, value}
use Rattle.bits.specs.Matrices.{rows_in}
use Rattle.bits.proofs.Memory.{rows_at}
use Rattle.bits.proofs.Rank.{mul_mul}
use Rattle.bits.proofs.Vectors.{row_ends}
use Rattle.cipher.specs.declared.params.Params.{Params}
use Rattle.cipher.specs.declared.prepared.Round.{Round}
use Rattle.cipher.specs.Parts.{PartsOf}
use Rattle.cipher.specs.Instances.{constants_place, inverses_in, keys_place, matrices_in, set_in, times}
use Rattle.cipher.specs.LowMC.{decrypt, round, substitution, unrounds, unsubstitution}
use Rattle.cipher.specs.Parameters.{block_words_of, key_words_of}
use Rattle.cipher.specs.Places.{matrix_at, places_of, unround_by}
use Rattle.cipher.specs.Sets.{LawfulSet}
use Rattle.cipher.proofs.Passes.{constant_of, constants_left, decrypted, keys_left, layers_left, unround_at, unrounds_more}
use Rattle.engines.specs.declared.engine.Account.{Account}
use Rattle.engines.specs.Accounts.{Spent}
use Rattle.batches.proofs.Packing.{below_at}

-- the lane e of wires that were multiplied
pub product_lane : (M from to : List ℕ) (e : ℕ) → to ≡ times M from → mul to e ≡ mul M (mul from e)
product_lane M from to e et = ap (λ (l : List ℕ). mul l e) et ∙ mul_mul M from e

module _ (m e C : ℕ) (L K key : List ℕ) where
  pub forward_lane : (s y o : ℕ) (st spare st₂ : List ℕ) → mul st e ≡ substitution m s → spare ≡ times L st → st₂ ≡ times K key
      → y ≡ bit_xor (mul st₂ e) (mul spare e) → o ≡ bit_xor y C → o ≡ round m (mul key e) L C K s
  forward_lane s y o st spare st₂ es ep et ey eo =
      let A : ℕ = mul L (substitution m s) in
      let B : ℕ = mul K (mul key e) in
      eo ∙ ap (λ (x : ℕ). bit_xor x C) (ey ∙ ap₂ bit_xor (product_lane K key st₂ e et) (product_lane L st spare e ep ∙ ap (mul L) es))
      ∙ xor_assoc B A C ∙ xor_comm B (bit_xor A C)

  pub backward_lane : (s y y₂ o : ℕ) (spare st spare₂ st₂ : List ℕ) → spare ≡ times K key → y ≡ bit_xor s (mul spare e) → y₂ ≡ bit_xor y C
      → mul st e ≡ y₂ → spare₂ ≡ times L st → st₂ ≡ spare₂ → o ≡ unsubstitution m (mul st₂ e) → o ≡ unround_by m (mul key e) L C K s
  backward_lane s y y₂ o spare st spare₂ st₂ ep ey ey₂ es ep₂ et eo =
      eo ∙ ap (unsubstitution m) (ap (λ (t : List ℕ). mul t e) et ∙ product_lane L st spare₂ e ep₂
      ∙ ap (mul L) (es ∙ ey₂ ∙ ap (λ (x : ℕ). bit_xor x C) (ey ∙ ap (bit_xor s) (product_lane K key spare e ep))))

-- each constant of a lawful set is a vector of its n bits
pub constant_below : (p : Params) (ws : List ℕ) → LawfulSet (set_in p ws) → (i : ℕ) → i < p.r → (r : Round) → PartsOf p ws i r → value r.constant.now < 2 ^ p.n
constant_below p ws g i h r parts =
    let w : ℕ = block_words_of p in
    let b = below_at p.n (rows w p.r (drop (constants_place p) ws)) i g.constants.narrow in
    let is : get_or (rows w p.r (drop (constants_place p) ws)) i 0 ≡ constant_of p ws i =
    rows_at w p.r i (drop (constants_place p) ws) h ∙ ap (λ (l : List ℕ). value (take w l)) (drop-drop (i * w) (constants_place p) ws) in
    subst (λ (x : ℕ). x < 2 ^ p.n) (is ∙ sym parts.constant) b

-- ---- rounds that are undone, from the last

module _ (p : Params) (ws : List ℕ) (key u : ℕ) where
  -- those from round i on
  abbrev pub undone_from : ℕ → ℕ
  undone_from i = unrounds p.m key (layers_left p ws i) (constants_left p ws i) (keys_left p ws i) u

  pub none_undone : u ≡ undone_from p.r
  none_undone =
      let z : p.r - p.r ≡ 0 = omega arith in
      sym (ap (λ (k : ℕ). unrounds p.m key (matrices_in (block_words_of p) p.n k (drop (places_of p p.r).layer ws)) (constants_left p ws p.r) (keys_left p ws p.r) u) z)

  pub one_undone : (i s t : ℕ) → 0 < i → i ≤ p.r → inverses_in p ws ≡ map inverse_of (set_in p ws).layers → (r : Round) → PartsOf p ws (i - 1) r
      → t ≡ unround_by p.m key (rows_in r.inverse) (value r.constant.now) (rows_in r.key) s → s ≡ undone_from i → t ≡ undone_from (i - 1)
  one_undone i s t some few true r is e inv =
      unrounds_more p ws i (i - 1) p.m key s t u (omega arith) (omega arith) true (unround_at p ws (i - 1) r is p.m key s t e) inv

  pub all_undone : (i s t : ℕ) → i ≡ 0 → s ≡ undone_from i → t ≡ bit_xor s (mul (matrix_at (key_words_of p) p.n (keys_place p) ws) key) → t ≡ decrypt (set_in p ws) key u
  all_undone i s t none inv e = decrypted p ws i key s t u none inv e

-- ---- gates

-- one more round fits where i of r are behind
pub gates_left : (i r m : ℕ) (a b : Account) → i < r → a.done + 3 * m * r ≤ a.granted → Spent a (i * (3 * m)) b → b.done + 3 * m ≤ b.granted
gates_left i r m a b h room s =
    let k = row_ends i r (3 * m) h in
    let e = mul_comm (3 * m) r in
    omega (arith, k, e, room, s.done, s.granted)

pub gates_more : (i m : ℕ) (a b c : Account) → Spent a (i * (3 * m)) b → Spent b (3 * m) c → Spent a ((i + 1) * (3 * m)) c
gates_more i m a b c s t =
    let n : (i + 1) * (3 * m) ≡ i * (3 * m) + 3 * m = add-mul i 1 (3 * m) ∙ omega (arith, one-mul (3 * m)) in
    record {
      room = omega (arith, n, s.done, s.granted, t.room);
      done = omega (arith, n, s.done, t.done);
      granted = t.granted ∙ s.granted;
      capacity = t.capacity ∙ s.capacity;
    }

pub gates_none : (r m : ℕ) (a : Account) → a.done ≤ a.granted → Spent a ((r - r) * (3 * m)) a
gates_none r m a room =
    let z : r - r ≡ 0 = omega arith in
    let n : (r - r) * (3 * m) ≡ 0 = ap (λ (k : ℕ). k * (3 * m)) z ∙ zero-mul (3 * m) in
    record { room = omega (arith, n, room); done = omega (arith, n); granted = refl; capacity = refl }

-- the same back from round i
pub gates_back : (i r m : ℕ) (a b c : Account) → 0 < i → i ≤ r → Spent a ((r - i) * (3 * m)) b → Spent b (3 * m) c → Spent a ((r - (i - 1)) * (3 * m)) c
gates_back i r m a b c some few s t =
    let one : (r - i) + 1 ≡ r - (i - 1) = omega arith in
    subst (λ (n : ℕ). Spent a (n * (3 * m)) c) one (gates_more (r - i) m a b c s t)
