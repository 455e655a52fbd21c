use Rattle.std.proofs.Common.{rules, ◌≡◌, ◌^◌, length, ap, ◌∙◌, subst, arith}
use Rattle.std.proofs.lemmas.List.{length_push}
use Rattle.bits.specs.Gf2.{dot, rows, value}
use Rattle.bits.proofs.RowLoops.{length_row_words, numbered_end, numbered_turn}
use Rattle.batches.specs.Lanes.{lane}
use Rattle.batches.proofs.Packing.{gather_more}
use Rattle.batches.proofs.lanes.gather.Goals as goal

pub loop-j-init-derived : goal.loop-j-init-derived
loop-j-init-derived c = let n = length_row_words c.rows.result.width c.rows.result.left c.rows.result.words.now in search (rules, n)

pub overflow_shl-word : goal.overflow_shl-word
overflow_shl-word c =
    let m = c.args.blocks in
    let t = numbered_turn m.width m.height m.words.now c.into_iter-j-iterator.result c.loop-j.j-iterator c.next.new.self c.loop-j.yielded _ (cc) (cc) c.loop-j.yielded_by c.next.ensures.steps (c.in-Some.j, c.in-Some.block) c.in-Some.is in
    omega (arith, t.0, t.1, c.requires)

pub loop-j-preserved : goal.loop-j-preserved
loop-j-preserved c =
    let m = c.args.blocks in
    let t = numbered_turn m.width m.height m.words.now c.into_iter-j-iterator.result c.loop-j.j-iterator c.next.new.self c.loop-j.yielded _ (cc) (cc) c.loop-j.yielded_by c.next.ensures.steps (c.in-Some.j, c.in-Some.block) c.in-Some.is in
    let k = length c.loop-j.yielded in
    rw (length_push c.loop-j.yielded (c.in-Some.j, c.in-Some.block), t.1)
    (gather_more m.width c.args.i k c.loop-j.word c.bit.result m.words.now (omega (arith, t.0, c.requires)) c.loop-j.invariant
    (c.bit.ensures ∙ ap (λ xs. dot (2 ^ c.args.i) (value xs)) t.2))

pub returns : goal.returns
returns c =
    let m = c.args.blocks in
    let e = numbered_end m.width m.height m.words.now c.into_iter-j-iterator.result c.loop-j.j-iterator c.next.new.self c.loop-j.yielded _ (cc) (cc) c.loop-j.yielded_by c.next.ensures.steps c.in-None.is in
    subst (λ n. c.loop-j.word ≡ lane c.args.i (rows m.width n m.words.now)) e c.loop-j.invariant
