use Rattle.std.proofs.Common.{◌≡◌, ℕ, ◌+◌, ◌*◌, ◌≤◌, List, [], ◌∷◌, ◌++◌, map, length, take, sym, refl, ap, ◌∙◌, subst, zero-mul, arith}
use Rattle.std.proofs.lemmas.List.{map_push}
use Rattle.std.proofs.lemmas.Result.{err_from_is_err_and}
use Rattle.bits.specs.Gf2.{flat, inverse_of, width_of}
use Rattle.bits.proofs.Vectors.{length_flat, row_ends}
use Rattle.cipher.specs.Sets.{joined}
use Rattle.cipher.specs.Laws.{Invertible}
use Rattle.drawing.specs.Drawing.{kept_layer, several}
use Rattle.drawing.proofs.Taking.{drew_stop, several_more, several_none, several_stop}
use Rattle.drawing.proofs.Pieces.{length_matrix, matrices_push, no_matrices, written}
use Rattle.drawing.proofs.matrices.Drawer.draw_layers.Goals as goal

pub loop-i-init : goal.loop-i-init
loop-i-init g c =
    let z : 0 * (c.args.n * c.width.result) ≡ 0 = zero-mul (c.args.n * c.width.result) in (
      omega arith,
      refl,
      λ f s. (
        [],
        several_none (kept_layer f c.args.n) c.args.self.now.taken,
        no_matrices Invertible c.args.n c.args.n,
        ap (λ (i : ℕ). take i c.args.layers.now) z,
        ap (λ (i : ℕ). take i c.args.inverses.now) z,
        s,
      ),
    )

pub returns-in_err-draw_kept-clause-drew : goal.returns-in_err-draw_kept-clause-drew
returns-in_err-draw_kept-clause-drew g c f s =
    let p = err_from_is_err_and c.from_residual.result c.from_residual.ensures.1 in
    let v = c.loop-i.invariant.2 f s in
    let d = c.in_err-draw_kept.ensures.drew f v.5 in
    drew_stop f (several (kept_layer f c.args.n) c.args.count c.args.self.now.taken) _ _ c.from_residual.result _ c.in_err-draw_kept.field-0.0 p.0 p.1 p.2
    (several_stop (kept_layer f c.args.n) c.loop-i.i c.args.count c.args.self.now.taken c.loop-i.self.taken v.0 _ c.loop-i-test.true v.1 d.0) d.1

pub loop-i-preserved : goal.loop-i-preserved
loop-i-preserved g c =
    let n : ℕ = c.args.n in
    let i : ℕ = c.loop-i.i in
    let w : ℕ = c.width.result in
    let v : ℕ = width_of n in
    let ends : i * (n * w) + n * w ≤ c.args.count * (n * w) = row_ends i c.args.count (n * w) c.loop-i-test.true in
    let whole : c.args.count * (n * w) ≡ c.args.count * (n * v) = ap (λ (x : ℕ). c.args.count * (n * x)) c.width.ensures.value in
    let one : List ℕ = c.draw_kept.new.out in
    let other : List ℕ = c.copy_from_slice.new.self in (
      omega (arith, c.in_ok-draw_kept.ensures.moved, c.loop-i.invariant.0),
      c.in_ok-draw_kept.ensures.same ∙ c.loop-i.invariant.1,
      λ f s.
          let u = c.loop-i.invariant.2 f s in
          let d = c.in_ok-draw_kept.ensures.drew f u.5 in
          let held : other ≡ flat v (inverse_of d.0) =
          c.copy_from_slice.ensures.after ∙ ap (λ (x : ℕ). take (n * x) c.draw_kept.new.test.inverse) c.width.ensures.value
          ∙ subst (λ (x : ℕ). take (x * width_of x) c.draw_kept.new.test.inverse ≡ flat (width_of x) (inverse_of d.0)) d.2.0.size d.2.2.1 in (
            u.0 ++ (d.0 ∷ []),
            several_more (kept_layer f n) i c.args.self.now.taken c.loop-i.self.taken c.draw_kept.new.self.taken u.0 d.0 u.1 d.1,
            matrices_push Invertible n n i u.0 d.0 u.2 d.2.0 d.2.2.0,
            written (n * w) i _ v c.loop-i.layers one u.0 d.0 (omega (arith, ends, whole, c.requires.size, c.loop-i.auto.layers))
                (length_matrix n n v d.0 one d.2.0 d.2.1 ∙ ap (λ (x : ℕ). n * x) (sym c.width.ensures.value)) u.3 d.2.1,
            written (n * w) i _ v c.loop-i.inverses other (map inverse_of u.0) (inverse_of d.0) (omega (arith, ends, whole, c.requires.room, c.loop-i.auto.inverses))
                (ap length held ∙ length_flat v (inverse_of d.0) ∙ ap (λ (x : ℕ). x * v) (d.2.2.0.size ∙ d.2.0.size) ∙ ap (λ (x : ℕ). n * x) (sym c.width.ensures.value)) u.4 held
                ∙ sym (ap (λ (Ls : List (List ℕ)). flat v (joined Ls)) (map_push inverse_of u.0 d.0)),
            d.3,
          ),
    )
