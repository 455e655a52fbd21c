use Rattle.std.proofs.Common.{◌≡◌}
use Rattle.bits.specs.Gf2.{value}
use Rattle.cipher.specs.LowMC.{rounds}
use Rattle.cipher.proofs.Passes.{constants_left, keys_left, layers_left}
use Rattle.cipher.proofs.round.encrypt_state.Given as goal

-- the rounds that are left lead to what all of them lead to
abbrev pub invariant-loop-i : goal.invariant-loop-i
invariant-loop-i l =
    let p = l.fn.set.params in
    let ws = l.fn.set.words.now in
    rounds p.m (value l.key) (layers_left p ws l.i) (constants_left p ws l.i) (keys_left p ws l.i) (value l.state)
    ≡ rounds p.m (value l.key) (layers_left p ws 0) (constants_left p ws 0) (keys_left p ws 0) (value l.initial.state)
