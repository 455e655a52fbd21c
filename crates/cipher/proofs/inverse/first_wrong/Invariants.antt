use Rattle.std.proofs.Common.{◌≡◌, ◌+◌}
use Rattle.cipher.specs.Instances.{first_wrong_of, inverses_in, set_in}
use Rattle.cipher.proofs.Passes.{layers_left}
use Rattle.cipher.proofs.Sums.{inverses_left}
use Rattle.cipher.proofs.inverse.first_wrong.Given as goal

-- the rounds that are left decide
abbrev pub invariant-loop-i : goal.invariant-loop-i
invariant-loop-i l =
    let p = l.fn.set.params in
    let ws = l.fn.set.words.now in
    first_wrong_of p.n (l.i + 1) (inverses_left p ws l.i) (layers_left p ws l.i) ≡ first_wrong_of p.n 1 (inverses_in p ws) (set_in p ws).layers
