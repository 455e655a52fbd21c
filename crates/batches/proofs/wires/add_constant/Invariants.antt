use Rattle.std.proofs.Common.{◌≡◌, ℕ, ◌%◌, ◌^◌, ◌<◌, map}
use lib.Bits.{bit_xor}
use Rattle.bits.specs.Gf2.{value}
use Rattle.batches.specs.Lanes.{lane}
use Rattle.batches.proofs.wires.add_constant.Given as goal

-- the lowest i bits of the constant are added
abbrev pub invariant-loop-i : goal.invariant-loop-i
invariant-loop-i g l =
    let m = g.E.Engine.means in
    (j : ℕ) → j < g.E.Engine.lanes → lane j (map m l.to) ≡ bit_xor (lane j (map m l.initial.to)) (value l.constant % 2 ^ l.i)
