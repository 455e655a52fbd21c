use Rattle.std.proofs.Common.{◌≡◌, ◌-◌, ◌*◌, ◌/◌, ◌^◌, length, drop}
use lib.Bits.{bit_xor}
use Rattle.bits.specs.Gf2.{comb, rows, value}
use Rattle.cipher.proofs.inverse.combine.Given as goal

-- the sum so far, with what the rows that are left add, is the whole sum
abbrev pub invariant-loop-i : goal.invariant-loop-i
invariant-loop-i l =
    let m = l.fn.m in
    let i = length l.yielded in
    bit_xor (value l.sum) (comb (rows m.width (m.height - i) (drop (i * m.width) m.words.now)) (value l.pick / 2 ^ i)) ≡ comb (rows m.width m.height m.words.now) (value l.pick)
