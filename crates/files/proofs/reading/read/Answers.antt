use Rattle.std.proofs.Common.{◌≡◌, ℕ, List, length, drop, Ok, Err, Result, sym, refl, ap, ◌∙◌, subst, ap₂, arith, Bor}
use Rattle.std.proofs.lemmas.Result.{err_from_is_err_and}
use Rattle.bits.specs.declared.refusal.Fault.{Fault}
use Rattle.cipher.specs.declared.params.Params.{Params}
use Rattle.cipher.specs.Sets.{Each}
use Rattle.cipher.specs.Laws.{Invertible}
use Rattle.files.specs.Format.{byte_width_of, matrices_of, set_of}
use Rattle.files.specs.Preparing.{Found}
use Rattle.files.specs.Reading.{Clashing, Exact, Opens, Prepared, Read, header, judged_all, room}
use Rattle.files.specs.Steps.{State, after_header, state_of}
use Rattle.files.specs.Surveys.{Sound, judged_from}
use Rattle.files.proofs.Exact.{header_lawful}
use Rattle.files.proofs.Pieces.{Bytes}
use Rattle.files.proofs.Verdict.{clashing_from, collapsed_from, end_is, exact_from, judged_start, opens_from, passed_judged, passed_room, read_collapsed, read_prepared, read_refused, sound_start}
use Rattle.files.proofs.reading.read.Goals as goal

-- what the reader before and after the header, and the answers of its steps, say of the file itself
known : (x y f : Bor (List ℕ)) (s : State) (p : Params) (h : Result Params Fault) (j r : Result Unit Fault) → x ≡ f → y ≡ x → h ≡ header x.now → h ≡ Ok p → s ≡ after_header p
    → j ≡ judged_from y.now s → j ≡ r → (header f.now ≡ Ok p) × (judged_all f.now p ≡ r)
known x y f s p h j r e g eh is q ej ij = (
  ap (λ z. header z.now) (sym e) ∙ sym eh ∙ is,
  sym (judged_start f.now p) ∙ ap₂ (λ z t. judged_from z.now t) (sym (g ∙ e)) (sym q) ∙ sym ej ∙ ij,
)

-- the layers that were checked are the file's
layers_are : (n n' r r' : ℕ) (xs ys : List ℕ) → n ≡ n' → r ≡ r' → xs ≡ ys → matrices_of (byte_width_of n) n r xs ≡ matrices_of (byte_width_of n') n' r' ys
layers_are n n' r r' xs ys a b e = cc

sound_here : (x : Bor (List ℕ)) (f : Bor (List ℕ)) (s : State) (p : Params) → x ≡ f → s ≡ after_header p → header f.now ≡ Ok p → Sound x.now s
sound_here x f s p e q h =
    let l = header_lawful p f.now h in
    subst (λ y. Sound y.now s) (sym e) (subst (Sound f.now) (sym q) (sound_start f.now p l.0 l.2))

-- all that is promised follows from the first
module _ (file words wit words' wit' : List ℕ) (answer : Result Params Fault) where
  abbrev Promised : Type 0
  Promised = record {
    read : Read file words wit words' wit' answer;
    clashing : Clashing file words wit answer;
    opens : Opens file words' answer;
    exact : Exact file words wit words' wit' answer;
  }

  promised : Bytes file → Read file words wit words' wit' answer → Promised
  promised bytes r =
      let exact = exact_from file words wit words' wit' answer bytes r in
      record { read = r; clashing = clashing_from file words wit words' wit' bytes answer r; opens = opens_from file words' words wit wit' answer exact; exact = exact }

pub returns-in_err-check_room : goal.returns-in_err-check_room
returns-in_err-check_room c =
    let f = c.args.file.now in
    let ws = c.args.words.now in
    let wit = c.args.witness.now in
    let p = c.in_ok-params.params in
    let a = c.from_residual-in_err-check_room.result in
    let q = err_from_is_err_and a c.from_residual-in_err-check_room.ensures.1 in
    let hd : header f ≡ Ok p = ap (λ x. header x.now) (sym c.new-reader.ensures.file) ∙ sym c.header.ensures.value ∙ c.in_ok-params.was in
    let no : room p (length ws) (length wit) ≡ Err q.0 = sym c.check_room.ensures ∙ c.in_err-check_room.was ∙ ap Err (sym q.2) in
    promised f ws wit ws wit a (λ i. omega (arith, c.type_inv.file i)) (read_refused f ws wit ws wit q.0 a (passed_room f (length ws) (length wit) p hd q.0 no) q.1 refl refl)

pub survey-requires : goal.survey-requires
survey-requires c =
    let p = c.in_ok-params.params in
    let hd : header c.args.file.now ≡ Ok p = ap (λ x. header x.now) (sym c.new-reader.ensures.file) ∙ sym c.header.ensures.value ∙ c.in_ok-params.was in
    sound_here c.header.new.self.file c.args.file (state_of c.header.new.self) p (c.header.ensures.file ∙ c.new-reader.ensures.file) c.in_ok-params.ensures.state hd

pub invariant_of-set : goal.invariant_of-set
invariant_of-set c =
    let p = c.in_ok-params.params in
    let k = known _ _ c.args.file _ p _ _ _ c.new-reader.ensures.file c.header.ensures.file c.header.ensures.value c.in_ok-params.was c.in_ok-params.ensures.state c.survey.ensures c.in_ok-survey.was in
    record { limits = (header_lawful p c.args.file.now k.0).0; whole = omega (arith, end_is c.args.file.now p k.1) }

pub returns-in_err-survey : goal.returns-in_err-survey
returns-in_err-survey c =
    let f = c.args.file.now in
    let ws = c.args.words.now in
    let wit = c.args.witness.now in
    let p = c.in_ok-params.params in
    let a = c.from_residual-in_err-survey.result in
    let q = err_from_is_err_and a c.from_residual-in_err-survey.ensures.1 in
    let k = known _ _ c.args.file _ p _ _ _ c.new-reader.ensures.file c.header.ensures.file c.header.ensures.value c.in_ok-params.was c.in_ok-params.ensures.state c.survey.ensures c.in_err-survey.was in
    let ok : room p (length ws) (length wit) ≡ Ok tt = sym c.check_room.ensures ∙ c.in_ok-check_room.was in
    promised f ws wit ws wit a (λ i. omega (arith, c.type_inv.file i))
    (read_refused f ws wit ws wit q.0 a (passed_judged f (length ws) (length wit) p k.0 ok (Err q.0) (k.1 ∙ ap Err (sym q.2))) q.1 refl refl)

pub returns-in_err-check : goal.returns-in_err-check
returns-in_err-check c =
    let f = c.args.file.now in
    let ws = c.args.words.now in
    let wit = c.args.witness.now in
    let wit' = c.check.new.witness in
    let p = c.in_ok-params.params in
    let l = c.layers.result in
    let form = c.layers.ensures.form in
    let a = c.from_residual-in_err-check.result in
    let q = err_from_is_err_and a c.from_residual-in_err-check.ensures.1 in
    let k = known _ _ c.args.file _ p _ _ _ c.new-reader.ensures.file c.header.ensures.file c.header.ensures.value c.in_ok-params.was c.in_ok-params.ensures.state c.survey.ensures c.in_ok-survey.was in
    let ok : room p (length ws) (length wit) ≡ Ok tt = sym c.check_room.ensures ∙ c.in_ok-check_room.was in
    let found : Found (matrices_of (byte_width_of p.n) p.n p.r (drop 8 f)) p.r wit wit' q.0 =
    subst (λ Ms. Found Ms p.r wit wit' q.0) (layers_are l.n p.n l.count p.r l.bytes.now (drop 8 f) form.0 form.1 c.layers.ensures.bytes)
    (subst (λ r. Found (matrices_of (byte_width_of l.n) l.n l.count l.bytes.now) r wit wit' q.0) form.1
    (subst (λ e. Found (matrices_of (byte_width_of l.n) l.n l.count l.bytes.now) l.count wit wit' e) (sym q.2) c.in_err-check.ensures)) in
    promised f ws wit ws wit' a (λ i. omega (arith, c.type_inv.file i))
    (read_collapsed f ws wit ws wit' p q.0 a (passed_judged f (length ws) (length wit) p k.0 ok (Ok tt) k.1) q.1 (collapsed_from p f ws wit wit' q.0 found))

pub returns : goal.returns
returns c =
    let f = c.args.file.now in
    let ws = c.args.words.now in
    let wit = c.args.witness.now in
    let ws' = c.prepare.new.words in
    let wit' = c.check.new.witness in
    let p = c.in_ok-params.params in
    let l = c.layers.result in
    let form = c.layers.ensures.form in
    let k = known _ _ c.args.file _ p _ _ _ c.new-reader.ensures.file c.header.ensures.file c.header.ensures.value c.in_ok-params.was c.in_ok-params.ensures.state c.survey.ensures c.in_ok-survey.was in
    let ok : room p (length ws) (length wit) ≡ Ok tt = sym c.check_room.ensures ∙ c.in_ok-check_room.was in
    let done : Prepared (set_of p f) ws wit ws' wit' = record {
      inverses = subst (Each Invertible) (layers_are l.n p.n l.count p.r l.bytes.now (drop 8 f) form.0 form.1 c.layers.ensures.bytes) c.in_ok-check.ensures.0;
      written = c.prepare.ensures;
      witness = c.in_ok-check.ensures.1;
    } in
    promised f ws wit ws' wit' (Ok p) (λ i. omega (arith, c.type_inv.file i))
    (read_prepared f ws wit ws' wit' p p (Ok p) (passed_judged f (length ws) (length wit) p k.0 ok (Ok tt) k.1) refl refl done)
