use Rattle.std.proofs.Common.{◌≡◌, length, Some, ap}
use Rattle.std.proofs.lemmas.Result.{err_from_is_err_and}
use Rattle.cipher.specs.Held.{held_in}
use Rattle.cipher.specs.Holds.{held_by}
use Rattle.cipher.proofs.SoundSets.{opening_sound}
use Rattle.cipher.proofs.Calls.{Accepted, accepted, answer_held, back_held, refusal_held}
use Rattle.cipher.proofs.block.attempt.Goals as goal
use Rattle.cipher.proofs.block.attempt.Goals.{In-Some, In_ok-check_call}

-- the set that is held
holds : (c : In-Some) → held_by c.args.held.now ≡ Some (c.in-Some.opened.set.params, c.in-Some.opened.set.words.now)
holds c = ap held_in c.in-Some.is

-- what passed the checks
taken : (c : In_ok-check_call) → Accepted c.in-Some.opened.set.params c.args.key.now c.args.block.now (length c.args.work.now)
taken c =
    let s = c.in-Some.opened.set in
    accepted s.params s.words.now c.args.key.now c.args.block.now (length c.args.work.now) (c.in_ok-check_call.ensures s.words.now)

pub returns-in_err-check_call-clause-answer : goal.returns-in_err-check_call-clause-answer
returns-in_err-check_call-clause-answer c =
    let s = c.in-Some.opened.set in
    let r = c.from_residual.result in
    let x = err_from_is_err_and r c.from_residual.ensures.1 in
    refusal_held (held_by c.args.held.now) s.params s.words.now (holds (goal.at.returns-in_err-check_call-clause-answer c).In-Some) r x.0 c.in_err-check_call.field-0.0
    c.args.key.now c.args.block.now (length c.args.work.now) x.1 x.2 (c.in_err-check_call.ensures s.words.now)

pub run_block-requires-clause-size : goal.run_block-requires-clause-size
run_block-requires-clause-size c = (taken (goal.at.run_block-requires-clause-size c).In_ok-check_call).size

pub run_block-requires-clause-room : goal.run_block-requires-clause-room
run_block-requires-clause-room c = (taken (goal.at.run_block-requires-clause-room c).In_ok-check_call).room

pub returns-clause-answer : goal.returns-clause-answer
returns-clause-answer c =
    let s = c.in-Some.opened.set in
    answer_held (held_by c.args.held.now) s.params s.words.now (holds (goal.at.returns-clause-answer c).In-Some) _ c.args.key.now c.args.block.now (length c.args.work.now)
    (c.in_ok-check_call.ensures s.words.now)

pub returns-clause-back : goal.returns-clause-back
returns-clause-back c =
    let o = c.in-Some.opened in
    let here = goal.at.returns-clause-back c in
    back_held (held_by c.args.held.now) o.set.params o.set.words.now (holds here.In-Some) c.args.way c.args.key.now c.args.block.now c.run_block.new.block
    (opening_sound o.set.params o.set.words.now o.passed) (taken here.In_ok-check_call).small c.run_block.ensures
