use Rattle.std.proofs.Common.{◌≡◌}
use Rattle.bits.specs.Gf2.{value}
use Rattle.cipher.specs.LowMC.{unrounds}
use Rattle.cipher.proofs.Passes.{constants_left, keys_left, layers_left}
use Rattle.cipher.proofs.round.decrypt_state.Given as goal

-- the rounds from i on are undone
abbrev pub invariant-loop-i : goal.invariant-loop-i
invariant-loop-i l =
    let p = l.fn.set.params in
    let ws = l.fn.set.words.now in
    value l.state ≡ unrounds p.m (value l.key) (layers_left p ws l.i) (constants_left p ws l.i) (keys_left p ws l.i) (value l.initial.state)
