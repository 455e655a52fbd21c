use Rattle.std.proofs.Common.{◌≡◌, ℕ, ◌+◌, ◌-◌, ◌*◌, ◌<◌, ◌≤◌, List, [], ◌∷◌, ◌++◌, length, take, drop, sym, refl, ap, ◌∙◌, zero-mul, arith, length-drop, length-take}
use Rattle.std.proofs.lemmas.Result.{err_from_is_err_and}
use Rattle.bits.specs.Gf2.{flat, width_of, words_of}
use Rattle.bits.proofs.Vectors.{length_words_of, row_ends}
use Rattle.drawing.specs.Drawing.{matrix, row}
use Rattle.drawing.proofs.Taking.{several_more, several_none, several_stop, drew_stop}
use Rattle.drawing.proofs.Pieces.{filled, flat_push, matrix_push, one_more}
use Rattle.drawing.proofs.matrices.Drawer.draw_matrix.Goals as goal

pub loop-i-init : goal.loop-i-init
loop-i-init g c = (
  omega (arith, zero-mul c.args.k),
  refl,
  λ f s. ([], several_none (row f c.args.k) c.args.self.now.taken, record { size = refl; narrow = tt }, ap (λ (i : ℕ). take i c.args.out.now) (zero-mul c.width-w.result), s),
)

room : (count w v l i : ℕ) → w ≡ v → l ≡ count * v → i < count → i * w + w ≤ l
room count w v l i e h t = omega (arith, row_ends i count w t, ap (λ (x : ℕ). count * x) e)

pub returns-in_err-draw_row-clause-drew : goal.returns-in_err-draw_row-clause-drew
returns-in_err-draw_row-clause-drew g c f s =
    let p = err_from_is_err_and c.from_residual.result c.from_residual.ensures.1 in
    let v = c.loop-i.invariant.2 f s in
    let d = c.in_err-draw_row.ensures.drew f v.4 in
    drew_stop f (matrix f c.args.count c.args.k c.args.self.now.taken) _ _ c.from_residual.result _ c.in_err-draw_row.field-0.0 p.0 p.1 p.2
    (several_stop (row f c.args.k) c.loop-i.i c.args.count c.args.self.now.taken c.loop-i.self.taken v.0 _ c.loop-i-test.true v.1 d.0) d.1

pub loop-i-preserved : goal.loop-i-preserved
loop-i-preserved g c =
    let i : ℕ = c.loop-i.i in
    let w : ℕ = c.width-w.result in
    let k : ℕ = c.args.k in
    let out : List ℕ = c.loop-i.out in
    let new : List ℕ = c.draw_row.new.out in
    let r : i * w + w ≤ length c.args.out.now = room c.args.count w (width_of k) (length c.args.out.now) i c.width-w.ensures.value c.requires.size c.loop-i-test.true in
    let part : length (take (i * w + w - i * w) (drop (i * w) out)) ≡ w = simp (length-take, length-drop) (omega arith) in (
      omega (arith, c.in_ok-draw_row.ensures.moved, c.loop-i.invariant.0, one_more i k),
      c.in_ok-draw_row.ensures.same ∙ c.loop-i.invariant.1,
      λ f s.
          let v = c.loop-i.invariant.2 f s in
          let d = c.in_ok-draw_row.ensures.drew f v.4 in
          let is : new ≡ words_of w d.0 = d.2.1 ∙ ap (λ (n : ℕ). words_of n d.0) part in (
            v.0 ++ (d.0 ∷ []),
            several_more (row f k) i c.args.self.now.taken c.loop-i.self.taken c.draw_row.new.self.taken v.0 d.0 v.1 d.1,
            matrix_push i k d.0 v.0 v.2 d.2.0,
            filled w i _ out new (flat w v.0) (omega arith) (ap length is ∙ length_words_of w d.0) v.3
                ∙ ap (λ (xs : List ℕ). flat w v.0 ++ xs) is ∙ sym (flat_push w d.0 v.0),
            d.3,
          ),
    )
