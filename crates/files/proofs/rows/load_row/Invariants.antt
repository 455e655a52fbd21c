use Rattle.std.proofs.Common.{◌≡◌, take}
use Rattle.bits.specs.Gf2.{words_of}
use Rattle.files.specs.Format.{byte_value}
use Rattle.files.proofs.rows.load_row.Given as goal

abbrev pub invariant-loop-k : goal.invariant-loop-k
invariant-loop-k l = take l.k l.out ≡ words_of l.k (byte_value l.row)
