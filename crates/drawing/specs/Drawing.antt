-- What is drawn from a stream of bits. Each step begins at a place and either gives a value with the place after it, or stops with a refusal
-- whose place is how many bits were taken until then.
use Rattle.std.specs.Prelude.{◌≡◌, ℕ, zero, suc, ◌+◌, ◌*◌, ◌^◌, ◌<◌, Bool, true, false, cond, ◌&&◌, List, [], ◌∷◌, ◌++◌, length, drop, replicate, Some, None, Ok, Err, Option, Result, ◌==◌, nat_lt}
use Rattle.bits.specs.declared.refusal.Refusal.TheVariants.{KeyTooNarrow, NothingKept, SourceDry, TooFewWords}
use Rattle.bits.specs.declared.refusal.Layer.TheVariants.{Draw, Set as SetLayer}
use Rattle.bits.specs.declared.refusal.Fault.{Fault}
use Rattle.bits.specs.Refusals.{fault_at, first_of, then}
use Rattle.bits.specs.Gf2.{Collapses, Independent, comb, mul}
use Rattle.cipher.specs.declared.params.Params.{Params}
use Rattle.cipher.specs.Parameters.{limits, prepared_words_of}
use Rattle.cipher.specs.Sets.{Each, LawfulSet, Matrix, Set, prepared}
use Rattle.cipher.specs.Laws.{Invertible}
use Rattle.cipher.specs.Instances.{opening, set_in}
use Rattle.drawing.specs.Streams.{Sees, Stream}

-- a value and the place after it
abbrev pub Drawn : Type 0 → Type 0
Drawn A = Result (A × ℕ) Fault

-- ---- bits, rows and matrices

abbrev pub bit_of : Option ℕ → ℕ → Drawn ℕ
bit_of None at = Err (fault_at SourceDry Draw at)
bit_of (Some b) at = Ok (b, at + 1)

-- so many bits, the first of them bit 0
unfoldable pub row : Stream → ℕ → ℕ → Drawn ℕ
row f zero at = Ok (0, at)
row f (suc k) at = then (row f k at) (λ x. then (bit_of (f x.1) x.1) (λ b. Ok (x.0 + b.0 * 2 ^ k, b.1)))

-- so many things, one after another
unfoldable pub several : {A : Type 0} → (ℕ → Drawn A) → ℕ → ℕ → Drawn (List A)
several step zero at = Ok ([], at)
several step (suc n) at = then (several step n at) (λ xs. then (step xs.1) (λ x. Ok (xs.0 ++ (x.0 ∷ []), x.1)))

-- so many rows of so many bits
abbrev pub matrix : Stream → ℕ → ℕ → ℕ → Drawn (List ℕ)
matrix f count k = several (row f k) count

-- ---- the first that is kept

-- of at most so many candidates, one after another, the first that is kept
unfoldable pub first_kept : {A : Type 0} → (A → Bool) → (ℕ → Drawn A) → ℕ → ℕ → Drawn A
first_kept keeps draw zero at = Err (fault_at NothingKept Draw at)
first_kept keeps draw (suc t) at = then (draw at) (λ x. cond (keeps x.0) (Ok x) (first_kept keeps draw t x.1))

-- no number below d passes the test
unfoldable pub none : (ℕ → Bool) → ℕ → Bool
none test zero = true
none test (suc d) = cond (test d) false (none test d)

-- a layer is kept if no vector other than zero is sent to zero
unfoldable pub keeps_layer : List ℕ → Bool
unfolding none
keeps_layer L = none (λ x. nat_lt 0 x && mul L x == 0) (2 ^ length L)

-- a key matrix is kept if no sum of its rows is zero but the empty one
unfoldable pub keeps_key : List ℕ → Bool
unfolding none
keeps_key K = none (λ y. nat_lt 0 y && comb K y == 0) (2 ^ length K)

-- what the two tests say
pub record Keeping : Type 0 where
  pub layer_to : (L : List ℕ) → keeps_layer L ≡ true → Collapses L → ⊥
  pub layer_from : (L : List ℕ) → (Collapses L → ⊥) → keeps_layer L ≡ true
  pub key_to : (K : List ℕ) → keeps_key K ≡ true → Independent K
  pub key_from : (K : List ℕ) → Independent K → keeps_key K ≡ true

-- how often a matrix is drawn at most
abbrev pub tries : ℕ
tries = 255

abbrev pub kept_layer : Stream → ℕ → ℕ → Drawn (List ℕ)
kept_layer f n = first_kept keeps_layer (matrix f n n) tries

abbrev pub kept_key : Stream → ℕ → ℕ → ℕ → Drawn (List ℕ)
kept_key f n k = first_kept keeps_key (matrix f n k) tries

-- ---- a set: all layers, then all constants, then all key matrices

abbrev pub drawn_set : Stream → Params → Drawn Set
drawn_set f p =
    then (several (kept_layer f p.n) p.r 0) (λ Ls.
    then (matrix f p.r p.n Ls.1) (λ Cs.
    then (several (kept_key f p.n p.k) (p.r + 1) Cs.1) (λ Ks.
    Ok (record { params = p; layers = Ls.0; constants = Cs.0; keys = Ks.0 }, Ks.1))))

-- ---- the drawer

-- what is refused before a bit is taken, for so many words
abbrev pub ready : Params → ℕ → Result Unit Fault
ready p room =
    then (limits p) (λ _.
    first_of ((nat_lt p.k p.n, fault_at KeyTooNarrow Draw 0) ∷ (nat_lt room (prepared_words_of p), fault_at TooFewWords SetLayer (prepared_words_of p)) ∷ []))

-- the answer: the bits taken
abbrev pub counted : {A : Type 0} → Drawn A → Result ℕ Fault
counted d = then d (λ x. Ok x.1)

-- how many bits were taken
abbrev pub stop : Result ℕ Fault → ℕ
stop (Ok at) = at
stop (Err e) = e.place

-- the words after drawing
abbrev pub words_after : Params → List ℕ → Drawn Set → List ℕ
words_after p words (Ok s) = prepared s.0 ++ drop (prepared_words_of p) words
words_after p words (Err e) = replicate (prepared_words_of p) 0 ++ drop (prepared_words_of p) words

-- what is drawn is a lawful set whose layers have inverses and whose key matrices have independent rows
pub record SoundSet (s : Set) : Type 0 where
  pub lawful : LawfulSet s
  pub invertible : Each Invertible s.layers
  pub independent : Each Independent s.keys

abbrev pub Sound : Drawn Set → Type 0
Sound (Ok s) = SoundSet s.0
Sound (Err e) = Unit {0}

-- what the drawer answers and leaves: f and g are the stream before and after it
abbrev pub Draws : Params → Stream → List ℕ → Result Unit Fault → Result ℕ Fault → List ℕ → Stream → Type 0
Draws p f words (Err e) r after g = (r ≡ Err e) × (after ≡ words) × Sees f g 0
Draws p f words (Ok _) r after g =
    (r ≡ counted (drawn_set f p)) × (after ≡ words_after p words (drawn_set f p)) × Sees f g (stop (counted (drawn_set f p))) × Sound (drawn_set f p)

-- words that were drawn open as an instance, and the set that they hold is the drawn one
abbrev pub Opens : Params → Stream → Result ℕ Fault → List ℕ → Type 0
Opens p f (Ok at) after = (opening p after ≡ Ok tt) × (drawn_set f p ≡ Ok (set_in p after, at))
Opens p f (Err e) after = Unit {0}

-- ---- the parts of the drawer

-- a part that was asked for d from the stream f, answered r and left the stream g; P is what holds of the value drawn
abbrev pub Took : {A : Type 0} → Stream → Drawn A → (A → Type 0) → Result ℕ Fault → Stream → Type 0
Took {A} f d P (Ok at) g = (x : A) × (d ≡ Ok (x, at)) × P x × Sees f g at
Took f d P (Err e) g = (d ≡ Err e) × Sees f g e.place

-- one bit was asked for from g, `at` bits taken: it is 0 or 1, and h is left, `to` bits taken
abbrev pub TookBit : Stream → ℕ → Result ℕ Fault → Stream → ℕ → Type 0
TookBit g at (Ok b) h to = (g 0 ≡ Some b) × (b < 2) × Sees g h 1 × (to ≡ at + 1)
TookBit g at (Err e) h to = (g 0 ≡ None) × (e ≡ fault_at SourceDry Draw at) × Sees g h 0

-- the answer of a step, with the place where it ended
abbrev pub ending : Result Unit Fault → ℕ → Result ℕ Fault
ending (Ok _) to = Ok to
ending (Err e) to = Err e

-- a step of drawing was asked from g, `at` bits taken, answered r, and left h, `to` bits taken: of whatever stream g is what is left, it took what the
-- definition gives there
abbrev pub Drew : {A : Type 0} → (Stream → ℕ → Drawn A) → (A → Type 0) → Stream → ℕ → Result Unit Fault → Stream → ℕ → Type 0
Drew step P g at r h to = (f : Stream) → Sees f g at → Took f (step f at) P (ending r to) h

-- so many matrices of n rows of k bits, each with a property
pub record Matrices (P : List ℕ → Type 0) (n k count : ℕ) (Ms : List (List ℕ)) : Type 0 where
  pub size : length Ms ≡ count
  pub each : Each (Matrix n k) Ms
  pub have : Each P Ms

-- so many layers of n rows, each with an inverse
abbrev pub Layers : ℕ → ℕ → List (List ℕ) → Type 0
Layers n = Matrices Invertible n n

-- so many key matrices of n rows of k bits, each with independent rows
abbrev pub Keys : ℕ → ℕ → ℕ → List (List ℕ) → Type 0
Keys = Matrices Independent
