use Rattle.std.proofs.Common.{◌≡◌, ℕ, map, take}
use lib.Bits.{bit_xor}
use Rattle.bits.specs.Gf2.{mul}
use Rattle.batches.proofs.wires.add_wires.Given as goal

abbrev pub invariant-loop-i : goal.invariant-loop-i
invariant-loop-i g l =
    let m = g.E.Engine.means in
    (v : ℕ) → mul (map m l.to) v ≡ bit_xor (mul (map m l.initial.to) v) (mul (take l.i (map m l.from)) v)
