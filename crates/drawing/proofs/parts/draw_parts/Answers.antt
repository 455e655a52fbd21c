use Rattle.std.proofs.Common.{rules, ◌++◌, ap₂, ◌∙◌}
use Rattle.std.proofs.lemmas.Result.{err_from_is_err_and}
use Rattle.drawing.specs.Drawing.{drawn_set}
use Rattle.drawing.proofs.Taking.{took_stop}
use Rattle.drawing.proofs.Sets.{constants_stop, keys_drawn, keys_stop, sound}
use Rattle.drawing.proofs.parts.draw_parts.Goals as goal

pub returns-in_err-draw_matrix : goal.returns-in_err-draw_matrix
returns-in_err-draw_matrix g c f s =
    let q = err_from_is_err_and c.from_residual-in_err-draw_matrix.result c.from_residual-in_err-draw_matrix.ensures.1 in
    let v = c.in_ok-draw_layers.ensures.drew f s in
    let d = c.in_err-draw_matrix.ensures.drew f v.3 in
    took_stop f (drawn_set f c.args.params) _ _ c.from_residual-in_err-draw_matrix.result c.in_err-draw_matrix.field-0.0 q.0 q.1 q.2
    (constants_stop f c.args.params c.draw_layers.new.self.taken v.0 _ v.1 d.0)
    (let same = c.in_err-draw_matrix.ensures.same ∙ c.in_ok-draw_layers.ensures.same in let left = d.1 in search rules)

pub returns-in_err-draw_keys : goal.returns-in_err-draw_keys
returns-in_err-draw_keys g c f s =
    let q = err_from_is_err_and c.from_residual-in_err-draw_keys.result c.from_residual-in_err-draw_keys.ensures.1 in
    let a = c.in_ok-draw_layers.ensures.drew f s in
    let b = c.in_ok-draw_matrix.ensures.drew f a.3 in
    let d = c.in_err-draw_keys.ensures.drew f b.3 in
    took_stop f (drawn_set f c.args.params) _ _ c.from_residual-in_err-draw_keys.result c.in_err-draw_keys.field-0.0 q.0 q.1 q.2
    (keys_stop f c.args.params c.draw_layers.new.self.taken c.draw_matrix.new.self.taken a.0 b.0 _ a.1 b.1 d.0)
    (let same = c.in_err-draw_keys.ensures.same ∙ c.in_ok-draw_matrix.ensures.same ∙ c.in_ok-draw_layers.ensures.same in let left = d.1 in search rules)

pub returns : goal.returns
returns g c f s =
    let p = c.args.params in
    let a = c.in_ok-draw_layers.ensures.drew f s in
    let b = c.in_ok-draw_matrix.ensures.drew f a.3 in
    let d = c.in_ok-draw_keys.ensures.drew f b.3 in (
      record { params = p; layers = a.0; constants = b.0; keys = d.0 },
      keys_drawn f p c.draw_layers.new.self.taken c.draw_matrix.new.self.taken c.draw_keys.new.self.taken a.0 b.0 d.0 a.1 b.1 d.1,
      (sound p a.0 b.0 d.0 c.requires.lawful a.2.0 b.2.0 d.2.0, ap₂ ◌++◌ a.2.1 (ap₂ ◌++◌ b.2.1 (ap₂ ◌++◌ d.2.1 a.2.2))),
      (let same = c.in_ok-draw_keys.ensures.same ∙ c.in_ok-draw_matrix.ensures.same ∙ c.in_ok-draw_layers.ensures.same in let left = d.3 in search rules),
    )
