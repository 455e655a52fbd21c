use Rattle.std.proofs.Common.{◌≡◌, ◌^◌, rules}
use borrow.Author.Tests.{tests}
use Rattle.std.proofs.lemmas.Iterator.{first_from_Range}
use Rattle.bits.specs.Gf2.{dot}
use Rattle.bits.specs.Gauss.{row_at}
use Rattle.bits.proofs.Gauss.{found_row}
use Rattle.bits.proofs.elimination.find_row.Goals as goal

pub returns : goal.returns
returns c =
    let row = row_at c.args.work.width c.args.work.words.now in
    let first = first_from_Range _ _ _ c.find.result (λ k. dot (2 ^ c.args.c) (row k) ≡ 1) (λ k. dot (2 ^ c.args.c) (row k) ≡ 1 → ⊥) c.find.ensures.ran (λ x q k. search (rules, tests)) (λ x q k. search (rules, tests)) in
    found_row c.find.result c.args.c c.args.work.height row first
