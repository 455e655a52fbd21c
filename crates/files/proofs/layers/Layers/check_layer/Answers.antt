use Rattle.std.proofs.Common.{◌≡◌, ◌≤◌, ◌++◌, length, drop, ap, ◌∙◌, ap₂, arith}
use Rattle.std.proofs.lemmas.List.{length-take-le}
use Rattle.bits.specs.Gf2.{width_of}
use Rattle.files.specs.Format.{byte_rows, byte_width_of}
use Rattle.files.proofs.Inverting.{tried, words_front}
use Rattle.files.proofs.layers.Layers.check_layer.Goals as goal

pub returns : goal.returns
returns c =
    let n = c.args.self.now.n in
    let w = width_of n in
    let is : c.width.result ≡ w = c.width.ensures ∙ ap width_of c.rows-rows.ensures.1 in
    let four : w ≤ 4 = omega arith in
    let size : length c.args.vector.now ≡ 4 = ap length c.requires.zeros in
    let part : length c.invert.new.vector ≡ w = c.invert.auto.vector ∙ length-take-le _ _ (omega arith) ∙ is in
    tried w (byte_rows (byte_width_of n) n c.args.body.now) _ _ _ c.invert.new.vector _ c.invert.result part four
    (words_front c.invert.new.vector (drop c.width.result c.args.vector.now) (λ k. omega (arith, c.type_inv.vector k)))
    (ap₂ (λ k xs. c.invert.new.vector ++ drop k xs) is c.requires.zeros) c.invert.ensures
