use Rattle.std.proofs.Common.{◌≡◌, ◌/◌, length, true, false, Err, Some, None, sym, ap, ◌∙◌, arith, rules}
use borrow.Author.Tests.{tests, eqb-true, eqb-false}
use Rattle.std.proofs.lemmas.Iterator.{first_from_Range}
use Rattle.bits.specs.declared.refusal.Fault.{Fault}
use Rattle.engines.specs.Triples.{triple_of, truth}
use Rattle.engines.proofs.Filling.{first_false, none_false}
use Rattle.engines.proofs.share.check_triples.Goals as goal

pub returns-in-Some : goal.returns-in-Some
returns-in-Some c =
    let t = c.args.tape.now in
    let j = c.in-Some.j in
    let found = first_from_Range _ _ _ (Some j) (λ k. truth (triple_of t k) ≡ false) (λ k. truth (triple_of t k) ≡ true) c.in-Some.ensures.ran (λ x q k. search (rules, tests)) (λ x q k. search (rules, tests)) in
    record {
      answer = ap Err c.at.ensures ∙ sym (first_false t j (length t / 6) found.1 (λ k. found.3 k (omega arith)) found.2);
      meaning = rw (ap (λ (f : Fault). f.place) c.at.ensures) (λ k l. eqb-true _ _ (found.3 k (omega arith) l), found.1, eqb-false _ _ found.2);
    }

pub returns-in-None : goal.returns-in-None
returns-in-None c =
    let t = c.args.tape.now in
    let found = first_from_Range _ _ _ None (λ k. truth (triple_of t k) ≡ false) (λ k. truth (triple_of t k) ≡ true) c.in-None.ensures.ran (λ x q k. search (rules, tests)) (λ x q k. search (rules, tests)) in
    record {
      answer = sym (none_false t (length t / 6) (λ k. found k (omega arith)));
      meaning = λ k l. eqb-true _ _ (found k (omega arith) l);
    }
