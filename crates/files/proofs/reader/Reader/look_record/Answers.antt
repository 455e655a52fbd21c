use Rattle.std.proofs.Common.{◌≡◌, ◌-◌, length, take, drop, Err, sym, ap, ◌∙◌, arith}
use Rattle.std.proofs.lemmas.List.{take_rest}
use Rattle.files.proofs.Looks.{record_on, record_other}
use Rattle.files.proofs.Marks.{is_mark, no_mark}
use Rattle.files.proofs.reader.Reader.look_record.Goals as goal

pub returns-then-ne : goal.returns-then-ne
returns-then-ne c =
    let r = c.args.self.now in
    let bs = drop r.at r.file.now in
    let all : take (length r.file.now - r.at) bs ≡ bs = take_rest r.file.now r.at in
    let parts = c.in-Some.ensures.cases in
    let other = no_mark _ c.in-Some.letters.now c.try_from.result c.args.mark c.try_from.ensures (sym c.ne.ensures ∙ c.if-ne.true) in
    ap Err c.at.ensures
    ∙ sym (record_other r.at c.args.rows.bits c.args.rows.count r.round c.args.mark bs c.in-Some.letters.now (parts.0 ∙ ap (take 2) all) (omega (arith, parts.2, ap length all)) other)

pub returns : goal.returns
returns c =
    let r = c.args.self.now in
    let bs = drop r.at r.file.now in
    let all : take (length r.file.now - r.at) bs ≡ bs = take_rest r.file.now r.at in
    let parts = c.in-Some.ensures.cases in
    let more = c.in-Some-split_first.ensures.cases in
    let m = is_mark _ c.in-Some.letters.now c.try_from.result c.args.mark c.try_from.ensures (sym c.ne.ensures ∙ c.if-ne.false) in
    c.look.ensures
    ∙ sym (record_on r.at c.args.rows.bits c.args.rows.count r.round c.args.mark bs c.in-Some.letters.now c.in-Some.rest.now c.in-Some-split_first.body.now
    c.in-Some-split_first.field-0-0.now (parts.0 ∙ ap (take 2) all) (parts.1 ∙ ap (drop 2) all) (omega (arith, parts.2, ap length all)) m.0 m.1 more.0 (omega arith))
