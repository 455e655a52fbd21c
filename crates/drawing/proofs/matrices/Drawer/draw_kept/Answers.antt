use Rattle.std.proofs.Common.{◌≡◌, Err, sym, ap, ◌∙◌, subst, mul-le-mul, arith}
use Rattle.std.proofs.lemmas.Result.{err_from_is_err_and}
use Rattle.bits.specs.declared.refusal.Fault.{Fault}
use Rattle.drawing.specs.Streams.{Sees}
use Rattle.drawing.specs.Drawing.{first_kept, matrix, tries}
use Rattle.drawing.proofs.Pieces.{drawn_rows}
use Rattle.drawing.proofs.Taking.{drew_stop, try_no, try_none, try_stop, try_yes}
use Rattle.drawing.proofs.matrices.Drawer.draw_kept.Goals as goal

pub returns-in_err-draw_matrix-clause-drew : goal.returns-in_err-draw_matrix-clause-drew
returns-in_err-draw_matrix-clause-drew g c f s =
    let p = err_from_is_err_and c.from_residual.result c.from_residual.ensures.1 in
    let m = matrix f c.args.n c.args.k in
    let v = c.loop-draw.invariant.2 f s in
    let d = c.in_err-draw_matrix.ensures.drew f v.1 in
    drew_stop f (first_kept g.K.Keep.passes m tries c.args.self.now.taken) _ _ c.from_residual.result _ c.in_err-draw_matrix.field-0.0 p.0 p.1 p.2
    (try_stop g.K.Keep.passes m c.loop-draw._draw c.loop-draw.self.taken _ _ c.loop-draw-test.true v.0 d.0) d.1

pub returns-then-keeps-clause-drew : goal.returns-then-keeps-clause-drew
returns-then-keeps-clause-drew g c f s =
    let v = c.loop-draw.invariant.2 f s in
    let d = c.in_ok-draw_matrix.ensures.drew f v.1 in
    let is = drawn_rows c.args.n c.args.k c.width-w.result d.0 c.draw_matrix.new.out c.new.result c.new.ensures.words c.new.ensures.shape c.width-w.ensures.covers.0 c.width-w.ensures.value d.2.0 d.2.1 in (
      d.0,
      try_yes g.K.Keep.passes (matrix f c.args.n c.args.k) c.loop-draw._draw c.loop-draw.self.taken c.draw_matrix.new.self.taken d.0 _ c.loop-draw-test.true v.0 d.1
          (ap g.K.Keep.passes (sym is) ∙ sym c.keeps.ensures.passes ∙ c.if-keeps.true),
      (d.2.0, d.2.1, subst (g.K.Keep.holds c.keeps.new.self) is (c.keeps.ensures.holds c.if-keeps.true)),
      d.3,
    )

pub loop-draw-preserved : goal.loop-draw-preserved
loop-draw-preserved g c = (
  omega (arith, c.loop-draw.invariant.0, c.in_ok-draw_matrix.ensures.moved, mul-le-mul c.requires.many c.requires.wide),
  c.in_ok-draw_matrix.ensures.same ∙ c.loop-draw.invariant.1,
  λ f s.
      let v = c.loop-draw.invariant.2 f s in
      let d = c.in_ok-draw_matrix.ensures.drew f v.1 in
      let is = drawn_rows c.args.n c.args.k c.width-w.result d.0 c.draw_matrix.new.out c.new.result c.new.ensures.words c.new.ensures.shape c.width-w.ensures.covers.0 c.width-w.ensures.value d.2.0 d.2.1 in (
        try_no g.K.Keep.passes (matrix f c.args.n c.args.k) c.loop-draw._draw c.loop-draw.self.taken c.draw_matrix.new.self.taken d.0 _ c.loop-draw-test.true v.0 d.1
            (ap g.K.Keep.passes (sym is) ∙ sym c.keeps.ensures.passes ∙ c.if-keeps.false),
        d.3,
      ),
)

pub returns-clause-drew : goal.returns-clause-drew
returns-clause-drew g c f s =
    let all = first_kept g.K.Keep.passes (matrix f c.args.n c.args.k) tries c.args.self.now.taken in
    let v = c.loop-draw.invariant.2 f s in
    subst (λ (e : Fault). (all ≡ Err e) × Sees f (g.S.BitSource.meaning c.loop-draw.self.source.now) e.place) (sym c.at.ensures)
    (try_none g.K.Keep.passes (matrix f c.args.n c.args.k) c.loop-draw._draw c.loop-draw.self.taken _ (omega arith) v.0, v.1)
