use Rattle.std.proofs.Common.{◌≡◌, length, sym, ap, ◌∙◌, ap₂}
use Rattle.bits.specs.Gf2.{value, words_of}
use Rattle.bits.proofs.Vectors.{words_of_value}
use Rattle.cipher.specs.Directions.{along}
use Rattle.cipher.specs.Instances.{set_in}
use Rattle.cipher.specs.Parameters.{block_words_of}
use Rattle.cipher.proofs.block.run_in.Goals as goal

-- words are those of their number
pub returns : goal.returns
returns c =
    let out = c.copy_from_slice-2.new.self in
    let long : length out ≡ block_words_of c.args.opened.set.params = c.copy_from_slice-2.ensures.len ∙ c.requires.size in
    sym (words_of_value out c.fitting.ensures)
    ∙ ap₂ (λ k x. words_of k x) long
    (ap value c.copy_from_slice-2.ensures.after ∙ c.run_state.ensures
    ∙ ap (λ xs. along c.args.way (set_in c.args.opened.set.params c.args.opened.set.words.now) (value c.args.key.now) (value xs)) c.copy_from_slice.ensures.after)
