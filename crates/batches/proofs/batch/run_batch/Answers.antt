use Rattle.std.proofs.Common.{length, Err, ap, ◌∙◌, arith}
use Rattle.std.proofs.lemmas.Result.{err_from_is_err_and}
use Rattle.cipher.specs.Holds.{held_by}
use Rattle.batches.proofs.Admitted.{admitted, answer_held}
use Rattle.batches.proofs.batch.run_batch.Goals as goal

pub returns-in_err-check_batch-clause-answer : goal.returns-in_err-check_batch-clause-answer
returns-in_err-check_batch-clause-answer g c =
    let m = g.E.Engine in
    let x = err_from_is_err_and c.from_residual.result c.from_residual.ensures.1 in
    answer_held (held_by c.args.held.now) c.in-Some.opened.set.params c.in-Some.opened.set.words.now c.in-Some.ensures.value c.lanes_of.result m.lanes c.args.count c.account.result (m.acct c.args.engine.now)
    c.args.blocks.now c.args.keys.now (length c.args.masks.now) (length c.args.cells.now) _ c.lanes_of.ensures c.account.ensures
    (x.1 ∙ ap Err x.2 ∙ c.in_err-check_batch.ensures c.in-Some.opened.set.words.now)

pub run_accepted-requires : goal.run_accepted-requires
run_accepted-requires g c =
    let m = g.E.Engine in
    let p = c.in-Some.opened.set.params in
    let ws = c.in-Some.opened.set.words.now in
    let a = admitted c.lanes_of.result c.args.count p ws c.account.result c.args.blocks.now c.args.keys.now (length c.args.masks.now) (length c.args.cells.now)
    (c.in_ok-check_batch.ensures ws) in
    let done = ap (λ x. x.done) c.account.ensures in
    let granted = ap (λ x. x.granted) c.account.ensures in
    record {
      lanes = omega (arith, a.few, c.lanes_of.ensures);
      sizes = (a.sized, a.keyed);
      narrow = (a.narrow, a.key_narrow);
      masks = a.masked;
      cells = a.roomy;
      gates = omega (arith, a.gated, done, granted, (m.sound c.args.engine.now).spent);
    }

pub returns-clause-answer : goal.returns-clause-answer
returns-clause-answer g c =
    let m = g.E.Engine in
    answer_held (held_by c.args.held.now) c.in-Some.opened.set.params c.in-Some.opened.set.words.now c.in-Some.ensures.value c.lanes_of.result m.lanes c.args.count c.account.result (m.acct c.args.engine.now)
    c.args.blocks.now c.args.keys.now (length c.args.masks.now) (length c.args.cells.now) _ c.lanes_of.ensures c.account.ensures
    (c.in_ok-check_batch.ensures c.in-Some.opened.set.words.now)
