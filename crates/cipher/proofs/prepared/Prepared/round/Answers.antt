use Rattle.std.proofs.Common.{◌≡◌, ◌+◌, ◌*◌, arith, ap}
use Rattle.cipher.specs.Instances.{keys_place}
use Rattle.cipher.specs.Parameters.{key_words_of}
use Rattle.cipher.proofs.Bounds.{key_inside}
use Rattle.cipher.proofs.prepared.Prepared.round.Goals as goal

pub matrix_at-requires-3 : goal.matrix_at-requires-3
matrix_at-requires-3 c =
    let p = c.args.self.params in
    let key : c.at_round-at.result.key ≡ keys_place p + (c.args.i + 1) * (p.n * key_words_of p) = ap (λ x. x.key) c.at_round-at.ensures in
    let wide : p.n * c.key_words.result ≡ p.n * key_words_of p = ap (λ x. p.n * x) c.key_words.ensures in
    omega (arith, key, wide, key_inside p c.args.i c.requires, c.args.self.room)
