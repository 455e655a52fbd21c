-- A whole set from its parts.
use Rattle.std.proofs.Common.{◌≡◌, ℕ, ◌+◌, ◌≤◌, Bool, ltb, List, [], ◌∷◌, ◌++◌, drop, Ok, Err, Result, sym, refl, ap, ◌∙◌, subst, ap₂, zero-add, arith}
use Rattle.std.proofs.lemmas.Bool.{le-ltb}
use Rattle.bits.specs.declared.refusal.Refusal.TheVariants.{KeyTooNarrow, TooFewWords}
use Rattle.bits.specs.declared.refusal.Layer.TheVariants.{Draw, Set as SetLayer}
use Rattle.bits.specs.declared.refusal.Fault.{Fault}
use Rattle.bits.specs.Refusals.{fault_at, first_of, then}
use Rattle.cipher.specs.declared.params.Params.{Params}
use Rattle.cipher.specs.Parameters.{Lawful, limits, prepared_words_of}
use Rattle.cipher.specs.Sets.{Matrix, Set, prepared}
use Rattle.cipher.specs.Instances.{opening, set_in}
use Rattle.cipher.proofs.Opens.{prepared_holds, prepared_opens}
use Rattle.drawing.specs.Streams.{Sees, Stream}
use Rattle.drawing.specs.Drawing.{Drawn, Draws, Keys, Layers, Opens, Sound, SoundSet, Took, counted, drawn_set, kept_key, kept_layer, matrix, ready, several, stop, words_after}

-- ---- the steps of a set

made : Params → List (List ℕ) → List ℕ → List (List ℕ) → Set
made p Ls Cs Ks = record { params = p; layers = Ls; constants = Cs; keys = Ks }

module _ (f : Stream) (p : Params) where
  thirds : List (List ℕ) → Drawn (List ℕ) → Drawn Set
  thirds Ls d = then d (λ Cs. then (several (kept_key f p.n p.k) (p.r + 1) Cs.1) (λ Ks. Ok (made p Ls Cs.0 Ks.0, Ks.1)))

  seconds : Drawn (List (List ℕ)) → Drawn Set
  seconds d = then d (λ Ls. thirds Ls.0 (matrix f p.r p.n Ls.1))

  opens : drawn_set f p ≡ seconds (several (kept_layer f p.n) p.r 0)
  unfolding seconds thirds made
  opens = refl

  after_layers : (at : ℕ) (Ls : List (List ℕ)) → several (kept_layer f p.n) p.r 0 ≡ Ok (Ls, at) → drawn_set f p ≡ thirds Ls (matrix f p.r p.n at)
  unfolding seconds
  after_layers at Ls h = opens ∙ ap seconds h

  pub constants_stop : (at : ℕ) (Ls : List (List ℕ)) (e : Fault) → several (kept_layer f p.n) p.r 0 ≡ Ok (Ls, at) → matrix f p.r p.n at ≡ Err e → drawn_set f p ≡ Err e
  unfolding thirds
  constants_stop at Ls e h i = after_layers at Ls h ∙ ap (thirds Ls) i

  keyed : (at q : ℕ) (Ls : List (List ℕ)) (Cs : List ℕ) → several (kept_layer f p.n) p.r 0 ≡ Ok (Ls, at) → matrix f p.r p.n at ≡ Ok (Cs, q)
      → drawn_set f p ≡ then (several (kept_key f p.n p.k) (p.r + 1) q) (λ Ks. Ok (made p Ls Cs Ks.0, Ks.1))
  unfolding thirds
  keyed at q Ls Cs h i = after_layers at Ls h ∙ ap (thirds Ls) i

  pub keys_stop : (at q : ℕ) (Ls : List (List ℕ)) (Cs : List ℕ) (e : Fault) → several (kept_layer f p.n) p.r 0 ≡ Ok (Ls, at) → matrix f p.r p.n at ≡ Ok (Cs, q)
      → several (kept_key f p.n p.k) (p.r + 1) q ≡ Err e → drawn_set f p ≡ Err e
  keys_stop at q Ls Cs e h i k = keyed at q Ls Cs h i ∙ ap (λ (d : Drawn (List (List ℕ))). then d (λ Ks. Ok (made p Ls Cs Ks.0, Ks.1))) k

  pub keys_drawn : (at q z : ℕ) (Ls : List (List ℕ)) (Cs : List ℕ) (Ks : List (List ℕ)) → several (kept_layer f p.n) p.r 0 ≡ Ok (Ls, at) → matrix f p.r p.n at ≡ Ok (Cs, q)
      → several (kept_key f p.n p.k) (p.r + 1) q ≡ Ok (Ks, z) → drawn_set f p ≡ Ok (record { params = p; layers = Ls; constants = Cs; keys = Ks }, z)
  unfolding made
  keys_drawn at q z Ls Cs Ks h i k = keyed at q Ls Cs h i ∙ ap (λ (d : Drawn (List (List ℕ))). then d (λ Ks. Ok (made p Ls Cs Ks.0, Ks.1))) k

pub sound : (p : Params) (Ls : List (List ℕ)) (Cs : List ℕ) (Ks : List (List ℕ)) → Lawful p → Layers p.n p.r Ls → Matrix p.r p.n Cs → Keys p.n p.k (p.r + 1) Ks
    → SoundSet (record { params = p; layers = Ls; constants = Cs; keys = Ks })
sound p Ls Cs Ks l a b c =
    record {
      lawful = record { limits = l; rounds = a.size; layers = a.each; constants = b; key_rounds = c.size; keys = c.each };
      invertible = a.have;
      independent = c.have;
    }

-- ---- the checks before a bit is taken

checks : Params → ℕ → Bool → Bool → Result Unit Fault → Result Unit Fault
checks p room narrow short l = then l (λ _. first_of ((narrow, fault_at KeyTooNarrow Draw 0) ∷ (short, fault_at TooFewWords SetLayer (prepared_words_of p)) ∷ []))

module _ (p : Params) (room : ℕ) where
  pub ready_all : limits p ≡ Ok tt → p.n ≤ p.k → prepared_words_of p ≤ room → ready p room ≡ Ok tt
  unfolding checks
  ready_all h a b =
      ap (checks p room (ltb p.k p.n) (ltb room (prepared_words_of p))) h
      ∙ ap₂ (λ (x y : Bool). checks p room x y (Ok tt)) (le-ltb p.k p.n a) (le-ltb room (prepared_words_of p) b)

-- ---- the ways out of the drawer

pub sees_self : (f : Stream) → Sees f f 0
sees_self f i = ap f (sym (zero-add i))

pub draws_done : (p : Params) (f : Stream) (words part : List ℕ) (used : ℕ) (ready : Result Unit Fault) (at : ℕ) (g : Stream) → used ≡ prepared_words_of p → ready ≡ Ok tt
    → Took f (drawn_set f p) (λ s. SoundSet s × (part ≡ prepared s)) (Ok at) g → Draws p f words ready (Ok at) (part ++ drop used words) g
draws_done p f words part used ready at g u h (s, e, (o, is), sees) =
    subst (λ (x : Result Unit Fault). Draws p f words x (Ok at) (part ++ drop used words) g) (sym h)
    (subst (λ (d : Drawn Set). (Ok at ≡ counted d) × (part ++ drop used words ≡ words_after p words d) × Sees f g (stop (counted d)) × Sound d) (sym e)
    (refl, ap₂ (λ (xs : List ℕ) (i : ℕ). xs ++ drop i words) is u, sees, o))

-- ---- what was drawn opens

-- its parameters are those that it was drawn for
module _ (f : Stream) (p : Params) (s : Set) (at : ℕ) where
  params_in : Drawn Set → Params
  params_in (Ok x) = x.0.params
  params_in (Err e) = p

  third_params : (Ls : List (List ℕ)) (Cs : List ℕ) (d : Drawn (List (List ℕ))) → then {B = Set × ℕ} d (λ Ks. Ok (made p Ls Cs Ks.0, Ks.1)) ≡ Ok (s, at) → s.params ≡ p
  unfolding params_in made
  third_params Ls Cs (Ok Ks) e = sym (ap params_in e)
  third_params Ls Cs (Err x) e = absurd (let z : ◌≡◌ {A = ℕ} 0 1 = cc in omega arith)

  second_params : (Ls : List (List ℕ)) (d : Drawn (List ℕ)) → thirds f p Ls d ≡ Ok (s, at) → s.params ≡ p
  unfolding thirds
  second_params Ls (Ok Cs) e = third_params Ls Cs.0 (several (kept_key f p.n p.k) (p.r + 1) Cs.1) e
  second_params Ls (Err x) e = absurd (let z : ◌≡◌ {A = ℕ} 0 1 = cc in omega arith)

  first_params : (d : Drawn (List (List ℕ))) → seconds f p d ≡ Ok (s, at) → s.params ≡ p
  unfolding seconds
  first_params (Ok Ls) e = second_params Ls.0 (matrix f p.r p.n Ls.1) e
  first_params (Err x) e = absurd (let z : ◌≡◌ {A = ℕ} 0 1 = cc in omega arith)

  drawn_params : drawn_set f p ≡ Ok (s, at) → s.params ≡ p
  drawn_params e = first_params (several (kept_layer f p.n) p.r 0) (sym (opens f p) ∙ e)

pub opens_done : (p : Params) (f : Stream) (words part : List ℕ) (used at : ℕ) (g : Stream)
    → Took f (drawn_set f p) (λ s. SoundSet s × (part ≡ prepared s)) (Ok at) g → Opens p f (Ok at) (part ++ drop used words)
opens_done p f words part used at g (s, e, (o, is), sees) =
    let rest : List ℕ = drop used words in
    let q : p ≡ s.params = sym (drawn_params f p s at e) in
    let w : part ++ rest ≡ prepared s ++ rest = ap (λ (xs : List ℕ). xs ++ rest) is in (
      ap₂ opening q w ∙ prepared_opens s o.lawful o.invertible rest,
      e ∙ ap (λ (x : Set). Ok (x, at)) (sym (ap₂ set_in q w ∙ prepared_holds s o.lawful o.invertible rest)),
    )
