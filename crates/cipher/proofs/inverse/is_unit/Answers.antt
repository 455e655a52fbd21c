use Rattle.std.specs.Option.{is_none}
use Rattle.std.proofs.Common.{rules, ◌≡◌, ◌^◌, ◌*◌, length, ◌∙◌}
use Rattle.bits.specs.Gf2.{value}
use Rattle.cipher.proofs.Sums.{unit_is}
use Rattle.cipher.proofs.inverse.is_unit.Goals as goal

pub returns : goal.returns
returns c =
    let none : c.is_none.result ≡ is_none c.lowest_one.result = search rules in
    none ∙ unit_is (value c.args.sum.now) (2 ^ c.args.j) (value c.flip.new.s) (64 * length c.flip.new.s) c.lowest_one.result c.flip.ensures c.lowest_one.ensures.lowest
