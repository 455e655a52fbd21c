use Rattle.std.proofs.Common.{◌≡◌, ℕ, ◌<◌, map, get_or}
use Rattle.bits.specs.Gf2.{comb}
use Rattle.batches.proofs.wires.sum_ways.Given as goal

abbrev pub invariant-loop-t : goal.invariant-loop-t
invariant-loop-t g l =
    let m = g.E.Engine.means in
    (s : ℕ) → s < l.t → get_or (map m l.sums) s 0 ≡ comb (map m l.from) s
