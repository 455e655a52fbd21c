use Rattle.std.proofs.Common.{◌≡◌, arith}
use Rattle.cipher.specs.Instances.{same, times, units}
use Rattle.cipher.proofs.Passes.{layer_at}
use Rattle.cipher.proofs.Sums.{inverse_at, same_at, wrong_here, wrong_more}
use Rattle.cipher.proofs.inverse.first_wrong.Goals as goal
use Rattle.cipher.proofs.inverse.first_wrong.Goals.{After-undoes}

-- what the call tells of the round
told : (c : After-undoes) → c.undoes.result ≡ same (times (inverse_at c.args.set.params c.args.set.words.now c.loop-i.i) (layer_at c.args.set.params c.args.set.words.now c.loop-i.i)) (units 1 c.args.set.params.n)
told c = same_at c.args.set.params c.args.set.words.now c.loop-i.i c.round-round.result c.undoes.result c.round-round.ensures c.undoes.ensures

pub returns-then-not-undoes : goal.returns-then-not-undoes
returns-then-not-undoes c =
    let p = c.args.set.params in
    let ws = c.args.set.words.now in
    wrong_here p ws c.loop-i.i c.undoes.result _ (omega arith) (told (goal.at.returns-then-not-undoes c).After-undoes)
    c.if-not-undoes.true c.loop-i.invariant

pub loop-i-preserved : goal.loop-i-preserved
loop-i-preserved c =
    let p = c.args.set.params in
    let ws = c.args.set.words.now in
    wrong_more p ws c.loop-i.i c.undoes.result _ (omega arith) (told (goal.at.loop-i-preserved c).After-undoes)
    c.if-not-undoes.false c.loop-i.invariant
