-- Where what is drawn stands in the stream, said without the steps: bit i of a row at its place and i, row i of a matrix i rows on, and the
-- matrix that is kept as the first of candidates that stand one after another.
use Rattle.std.specs.Prelude.{◌≡◌, ℕ, ◌+◌, ◌*◌, ◌/◌, ◌%◌, ◌^◌, ◌<◌, Bool, true, false, List, length, Some, None, Ok, Err, slice_index}
use Rattle.bits.specs.declared.refusal.Refusal.TheVariants.{NothingKept, SourceDry}
use Rattle.bits.specs.declared.refusal.Layer.TheVariants.{Draw}
use Rattle.bits.specs.Refusals.{fault_at}
use Rattle.drawing.specs.Streams.{Bits, Stream}
use Rattle.drawing.specs.Drawing.{first_kept, matrix, row, tries}

-- candidate j, of n rows of k bits, was drawn and not kept
abbrev pub Passed : Stream → (List ℕ → Bool) → ℕ → ℕ → ℕ → ℕ → Type 0
Passed f keeps n k at j = (M : List ℕ) × (matrix f n k (at + j * (n * k)) ≡ Ok (M, at + j * (n * k) + n * k)) × (keeps M ≡ false)

-- candidate j is kept, and those before it are not
abbrev pub Chosen : Stream → (List ℕ → Bool) → ℕ → ℕ → ℕ → List ℕ → ℕ → ℕ → Type 0
Chosen f keeps n k at M p j =
    (matrix f n k (at + j * (n * k)) ≡ Ok (M, p)) × (p ≡ at + j * (n * k) + n * k) × (keeps M ≡ true) × ((i : ℕ) → i < j → Passed f keeps n k at i)

pub record Places : Type 0 where
  pub rows : (f : Stream) (k at x p : ℕ) → Bits f → row f k at ≡ Ok (x, p) → (p ≡ at + k) × ((i : ℕ) → i < k → f (at + i) ≡ Some (x / 2 ^ i % 2))
  pub matrices : (f : Stream) (n k at p : ℕ) (M : List ℕ) → matrix f n k at ≡ Ok (M, p)
      → (p ≡ at + n * k) × (length M ≡ n) × ((i : ℕ) → i < n → row f k (at + i * k) ≡ Ok (slice_index M i, at + i * k + k))
  pub kept : (f : Stream) (keeps : List ℕ → Bool) (n k at p : ℕ) (M : List ℕ) → first_kept keeps (matrix f n k) tries at ≡ Ok (M, p)
      → (j : ℕ) × (j < tries) × Chosen f keeps n k at M p j
  pub nothing : (f : Stream) (keeps : List ℕ → Bool) (n k at p : ℕ) → first_kept keeps (matrix f n k) tries at ≡ Err (fault_at NothingKept Draw p)
      → (p ≡ at + tries * (n * k)) × ((i : ℕ) → i < tries → Passed f keeps n k at i)
  pub dry : (f : Stream) (keeps : List ℕ → Bool) (n k at p : ℕ) → first_kept keeps (matrix f n k) tries at ≡ Err (fault_at SourceDry Draw p) → f p ≡ None
