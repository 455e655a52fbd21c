use Rattle.std.proofs.Common.{◌≡◌, ◌*◌, ap, ◌∙◌, subst, ap₂}
use Rattle.bits.specs.Gauss.{Outcome}
use Rattle.bits.specs.Gf2.{Below, flat, width_of}
use Rattle.files.specs.Format.{byte_rows, byte_width_of}
use Rattle.files.proofs.Inverting.{inverting}
use Rattle.files.proofs.Pieces.{length_byte_rows}
use Rattle.files.proofs.layers.Layers.invert_in.Goals as goal

pub returns : goal.returns
returns c =
    let n = c.args.self.now.n in
    let s = byte_width_of n in
    let w = width_of n in
    let rows = c.rows-rows.result in
    let m = c.new.result in
    let body = c.args.body.now in
    let out = c.load.new.out in
    let form : (rows.count ≡ n) × (rows.bits ≡ n) = c.rows-rows.ensures in
    let read : byte_rows (byte_width_of rows.bits) rows.count body ≡ byte_rows s n body = ap₂ (λ b k. byte_rows (byte_width_of b) k body) form.1 form.0 in
    let width : m.width ≡ w = c.new.ensures.shape.0 ∙ c.width.ensures ∙ ap width_of form.1 in
    let height : m.height ≡ n = c.new.ensures.shape.1 ∙ c.into.ensures in
    inverting w n (byte_rows s n body) out c.args.inverse.now c.invert.new.inverse c.args.vector.now c.invert.new.witness c.invert.result
    (c.load.ensures.written ∙ ap₂ (λ b xs. flat (width_of b) xs) form.1 read) (length_byte_rows s n body)
    (subst (Below (64 * w)) read (subst (λ b. Below (64 * width_of b) (byte_rows (byte_width_of rows.bits) rows.count body)) form.1 c.load.ensures.fit))
    (subst (λ v. Outcome v n out c.args.inverse.now c.invert.new.inverse c.args.vector.now c.invert.new.witness c.invert.result) width
    (subst (λ k. Outcome m.width k out c.args.inverse.now c.invert.new.inverse c.args.vector.now c.invert.new.witness c.invert.result) height
    (subst (λ xs. Outcome m.width m.height xs c.args.inverse.now c.invert.new.inverse c.args.vector.now c.invert.new.witness c.invert.result) c.new.ensures.words c.invert.ensures)))
