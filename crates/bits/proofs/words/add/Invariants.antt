use Rattle.std.proofs.Common.{◌≡◌, take}
use lib.Bits.{bit_xor}
use Rattle.bits.specs.Gf2.{Words, value}
use Rattle.bits.proofs.words.add.Given as goal

abbrev pub invariant-loop-i : goal.invariant-loop-i
invariant-loop-i l = (value l.a ≡ bit_xor (value l.initial.a) (value (take l.i l.b))) × Words l.a
