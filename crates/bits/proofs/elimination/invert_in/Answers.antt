use Rattle.std.proofs.Common.{rules, ℕ, ◌/◌, ◌≡◌, ◌+◌, ◌*◌, ◌^◌, ◌<◌, length, refl, ap, ◌∙◌, arith}
use Rattle.bits.specs.Gf2.{mul, rows}
use Rattle.bits.specs.Gauss.{row_at}
use Rattle.bits.proofs.Ends.{collapsed, done, inverted}
use Rattle.bits.proofs.elimination.invert_in.Goals as goal

pub returns-in-None : goal.returns-in-None
returns-in-None c =
    let halves : (k : ℕ) → k < c.args.layer.height → row_at c.args.layer.width c.write_out.new.out k ≡ row_at (2 * c.args.layer.width) c.eliminate.new.work k / 2 ^ (64 * c.args.layer.width) = search rules in
    inverted (c.args.layer.width) c.args.layer.height c.args.layer.words.now c.write_out.new.out c.args.witness.now (omega arith) c.fitting.ensures
    (done (c.args.layer.width) c.args.layer.height (length c.args.row.now) c.args.layer.words.now c.augment.new.work c.eliminate.new.work
    c.requires.fits c.args.layer.typed c.requires.size c.requires.row c.augment.ensures c.in-None.ensures.carried
    c.in-None.ensures.stop c.write_out.new.out halves)

pub returns-in-Some : goal.returns-in-Some
returns-in-Some c =
    let s = c.in-Some.ensures.stop in
    let e : length c.eliminate.new.row ≡ length c.args.row.now = omega arith in
    record {
      witness = collapsed (c.args.layer.width) c.args.layer.height (length c.args.row.now) c.args.layer.words.now c.augment.new.work c.eliminate.new.work
          c.requires.fits c.args.layer.typed c.requires.size c.requires.row c.augment.ensures c.in-Some.ensures.carried
          c.in-Some.c _ s.0 s.1 s.2 (c.column_above.ensures ∙ ap (λ k. mul (rows k c.in-Some.c c.eliminate.new.work) (2 ^ c.in-Some.c) + 2 ^ c.in-Some.c) e);
      kept = refl;
    }
