use Rattle.std.proofs.Common.{◌≡◌, ◌*◌, ◌/◌, ◌%◌, ◌^◌, map, get_or, take, drop}
use lib.Bits.{bit_xor}
use Rattle.bits.specs.Gauss.{row_at}
use Rattle.batches.specs.Lanes.{table}
use Rattle.batches.proofs.wires.add_group.Given as goal

-- the wires before i have their sums, those from i on are as before
abbrev pub invariant-loop-i : goal.invariant-loop-i
invariant-loop-i g l =
    let m = g.E.Engine.means in
    (map m (take l.i l.to)
    ≡ table l.i (λ i. bit_xor (get_or (map m l.initial.to) i 0) (get_or (map m l.sums) (row_at l.fn.m.width l.fn.m.words.now i / 2 ^ (l.b * l.g) % 2 ^ l.b) 0)))
    × (drop l.i l.to ≡ drop l.i l.initial.to)
