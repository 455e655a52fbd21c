-- Pieces of a slice that come one after another, all of one size.
use Rattle.std.proofs.Common.{◌≡◌, ℕ, ◌+◌, ◌-◌, ◌*◌, ◌<◌, ◌≤◌, List, length, take, drop, Some, None, sym, ap, ◌∙◌, suc-mul, add-one, inl, inr, arith, length-append, length-drop, Bor}
use Rattle.std.proofs.Math.Nat.{le_of_mul-le-mul_right}
use Rattle.std.proofs.lemmas.Bool.{cases_lt}
use Rattle.std.proofs.lemmas.List.{drop_at, drop-drop, drop-take, take-take, take_at}
use Rattle.std.specs.declared.slice.ChunksExact.{ChunksExact}
use Rattle.std.specs.Slice.Iter.{chunks_exact_rest, chunks_exact_size, chunks_exact_steps}
use Rattle.bits.proofs.Vectors.{row_ends}
use Rattle.files.specs.Format.{byte_rows, record_size}
use Rattle.files.proofs.Pieces.{byte_rows_take}

-- of n pieces of c elements of xs, j have come
pub record Come (c j n : ℕ) (xs : List ℕ) (s : ChunksExact ℕ) : Type 0 where
  pub size : chunks_exact_size s ≡ c
  pub rest : chunks_exact_rest s ≡ drop (j * c) xs
  pub most : j ≤ n

module _ (c j n : ℕ) (xs : List ℕ) (s t : ChunksExact ℕ) (come : Come c j n xs s) where
  -- there is room for another
  pub come_room : (x : Bor (List ℕ)) → chunks_exact_steps s (Some x) t → c ≤ length xs - j * c
  come_room x h = omega (arith, h.1.1, come.size, length-append x.now (chunks_exact_rest t), ap length (sym come.rest ∙ h.1.0), length-drop (j * c) xs)

  -- the next piece, where it is one of the n
  pub come_next : (x : Bor (List ℕ)) → chunks_exact_steps s (Some x) t → j < n → (x.now ≡ take c (drop (j * c) xs)) × Come c (j + 1) n xs t
  come_next x h below =
      let size : length x.now ≡ c = h.1.1 ∙ come.size in
      let parts = sym come.rest ∙ h.1.0 in
      let next : (j + 1) * c ≡ j * c + c = ap (λ (k : ℕ). k * c) (add-one j) ∙ suc-mul j c in
      let tail : drop ((j + 1) * c) xs ≡ chunks_exact_rest t = ap (λ (k : ℕ). drop k xs) next ∙ sym (drop-drop c (j * c) xs) ∙ ap (drop c) parts ∙ drop_at x.now (chunks_exact_rest t) c size in
      (sym (ap (take c) parts ∙ take_at x.now (chunks_exact_rest t) c size), record { size = h.0 ∙ come.size; rest = sym tail; most = omega arith })

  -- a slice of n pieces: the next is one of them
  pub come_turn : (x : Bor (List ℕ)) → chunks_exact_steps s (Some x) t → 0 < c → length xs ≡ n * c → (j < n) × (x.now ≡ take c (drop (j * c) xs)) × Come c (j + 1) n xs t
  come_turn x h some all =
      let next : (j + 1) * c ≡ j * c + c = ap (λ (k : ℕ). k * c) (add-one j) ∙ suc-mul j c in
      let room = come_room x h in
      let most : j + 1 ≤ n = le_of_mul-le-mul_right {m = j + 1} {n = n} {k = c} (omega arith) some in
      let below : j < n = omega arith in
      let m = come_next x h below in
      (below, m.0, m.1)

  -- less than a piece is left
  pub come_short : chunks_exact_steps s None t → length xs < j * c + c
  come_short h = omega (arith, h.1.0, come.size, ap length come.rest, length-drop (j * c) xs)

  -- all have come
  pub come_end : chunks_exact_steps s None t → length xs ≡ n * c → j ≡ n
  come_end h all = elim (cases_lt j n) [
    | inl l ↦ absurd (omega (arith, row_ends j n c l, come_short h))
    | inr l ↦ omega (arith, come.most)
  ]

-- the rows in record j of r
pub body_at : (c n j r : ℕ) (bs : List ℕ) → j < r
    → byte_rows c n (drop 3 (take (record_size c n) (drop (j * record_size c n) (take (r * record_size c n) bs)))) ≡ byte_rows c n (drop (j * record_size c n + 3) bs)
body_at c n j r bs h =
    let s : ℕ = record_size c n in
    let m : ℕ = r * s - j * s in
    let ends : j * s + s ≤ r * s = row_ends j r s h in
    let e : r * s ≡ j * s + m = omega arith in
    let front : take s (drop (j * s) (take (r * s) bs)) ≡ take (3 + n * c) (drop (j * s) bs) =
    ap (λ (k : ℕ). take s (drop (j * s) (take k bs))) e ∙ ap (take s) (drop-take (j * s) m bs) ∙ take-take s m (drop (j * s) bs) (omega arith) in
    ap (λ (xs : List ℕ). byte_rows c n (drop 3 xs)) front ∙ ap (byte_rows c n) (drop-take 3 (n * c) (drop (j * s) bs)) ∙ byte_rows_take c n (drop 3 (drop (j * s) bs))
    ∙ ap (byte_rows c n) (drop-drop 3 (j * s) bs)
