use Rattle.std.proofs.Common.{refl}
use Rattle.cipher.proofs.Strays.{set_answer}
use Rattle.cipher.proofs.stray.first_in_set.Goals as goal

pub returns-in-Some : goal.returns-in-Some
returns-in-Some c =
    let s = c.args.set in
    set_answer s.params s.words.now s.room c.block_words-w.result _ _ _ c.block_words-w.ensures refl refl refl _ _ _ c.in-Some.ensures refl refl

pub returns-in-Some-first_in_part : goal.returns-in-Some-first_in_part
returns-in-Some-first_in_part c =
    let s = c.args.set in
    set_answer s.params s.words.now s.room c.block_words-w.result c.key_words-v.result c.keys_from.result _
    c.block_words-w.ensures c.key_words-v.ensures c.keys_from.ensures refl _ _ _ c.in_default.ensures c.in-Some-first_in_part.ensures refl

pub returns : goal.returns
returns c =
    let s = c.args.set in
    set_answer s.params s.words.now s.room c.block_words-w.result c.key_words-v.result c.keys_from.result c.inverses_from.result
    c.block_words-w.ensures c.key_words-v.ensures c.keys_from.ensures c.inverses_from.ensures _ _ _ c.in_default.ensures c.in_default-first_in_part.ensures c.first_in_part-3.ensures
