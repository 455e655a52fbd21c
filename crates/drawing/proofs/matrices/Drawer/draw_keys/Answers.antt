use Rattle.std.proofs.Common.{◌≡◌, ℕ, ◌+◌, ◌*◌, ◌≤◌, List, [], ◌∷◌, ◌++◌, take, sym, refl, ap, ◌∙◌, zero-mul, arith}
use Rattle.std.proofs.lemmas.Result.{err_from_is_err_and}
use Rattle.bits.specs.Gf2.{Independent, width_of}
use Rattle.bits.proofs.Vectors.{row_ends}
use Rattle.drawing.specs.Drawing.{kept_key, several}
use Rattle.drawing.proofs.Taking.{several_more, several_none, several_stop, drew_stop}
use Rattle.drawing.proofs.Pieces.{length_matrix, matrices_push, no_matrices, written}
use Rattle.drawing.proofs.matrices.Drawer.draw_keys.Goals as goal

pub loop-i-init : goal.loop-i-init
loop-i-init g c = (
  omega arith,
  refl,
  λ f s. (
    [],
    several_none (kept_key f c.args.n c.args.k) c.args.self.now.taken,
    no_matrices Independent c.args.n c.args.k,
    ap (λ (i : ℕ). take i c.args.out.now) (zero-mul (c.args.n * c.width.result)),
    s,
  ),
)

pub returns-in_err-draw_kept-clause-drew : goal.returns-in_err-draw_kept-clause-drew
returns-in_err-draw_kept-clause-drew g c f s =
    let p = err_from_is_err_and c.from_residual.result c.from_residual.ensures.1 in
    let v = c.loop-i.invariant.2 f s in
    let d = c.in_err-draw_kept.ensures.drew f v.4 in
    drew_stop f (several (kept_key f c.args.n c.args.k) c.args.count c.args.self.now.taken) _ _ c.from_residual.result _ c.in_err-draw_kept.field-0.0 p.0 p.1 p.2
    (several_stop (kept_key f c.args.n c.args.k) c.loop-i.i c.args.count c.args.self.now.taken c.loop-i.self.taken v.0 _ c.loop-i-test.true v.1 d.0) d.1

pub loop-i-preserved : goal.loop-i-preserved
loop-i-preserved g c =
    let i : ℕ = c.loop-i.i in
    let n : ℕ = c.args.n in
    let k : ℕ = c.args.k in
    let w : ℕ = c.width.result in
    let v : ℕ = width_of k in
    let ends : i * (n * w) + n * w ≤ c.args.count * (n * w) = row_ends i c.args.count (n * w) c.loop-i-test.true in
    let whole : c.args.count * (n * w) ≡ c.args.count * (n * v) = ap (λ (x : ℕ). c.args.count * (n * x)) c.width.ensures.value in
    let new : List ℕ = c.draw_kept.new.out in (
      omega (arith, c.in_ok-draw_kept.ensures.moved, c.loop-i.invariant.0),
      c.in_ok-draw_kept.ensures.same ∙ c.loop-i.invariant.1,
      λ f s.
          let u = c.loop-i.invariant.2 f s in
          let d = c.in_ok-draw_kept.ensures.drew f u.4 in (
            u.0 ++ (d.0 ∷ []),
            several_more (kept_key f n k) i c.args.self.now.taken c.loop-i.self.taken c.draw_kept.new.self.taken u.0 d.0 u.1 d.1,
            matrices_push Independent n k i u.0 d.0 u.2 d.2.0 d.2.2,
            written (n * w) i _ v c.loop-i.out new u.0 d.0 (omega (arith, ends, whole, c.requires.size, c.loop-i.auto.out))
                (length_matrix n k v d.0 new d.2.0 d.2.1 ∙ ap (λ (x : ℕ). n * x) (sym c.width.ensures.value)) u.3 d.2.1,
            d.3,
          ),
    )
