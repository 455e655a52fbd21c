use Rattle.std.proofs.Common.{◌≡◌, length, sym, ◌∙◌, arith}
use Rattle.drawing.proofs.Sets.{draws_done, opens_done, ready_all, sees_self}
use Rattle.drawing.proofs.drawer.draw.Goals as goal

pub returns-in-Ok : goal.returns-in-Ok
returns-in-Ok g c =
    let p = c.args.params in
    let used : c.prepared_words-used.result ≡ _ = c.prepared_words-used.ensures in
    let f = g.S.BitSource.meaning c.args.source.now in
    let took = c.in-Ok.ensures f (sees_self f) in
    record {
      drew = draws_done p f c.args.words.now c.draw_parts.new.words c.prepared_words-used.result _ c.in-Ok.taken _ used
          (ready_all p (length c.args.words.now) (sym c.check.ensures ∙ c.in_ok-check.was) c.if-params.false (omega (arith, used, c.if-words-used.false))) took;
      opens = opens_done p f c.args.words.now c.draw_parts.new.words c.prepared_words-used.result c.in-Ok.taken _ took;
    }
