use Rattle.std.proofs.Common.{rules, ◌≡◌, ℕ, length, take, Some, List, true, ap, sym, ◌∙◌}
use Rattle.cipher.specs.declared.params.Params.{Params}
use Rattle.cipher.specs.Parameters.{block_words_of, key_words_of}
use Rattle.cipher.specs.Instances.{set_in}
use Rattle.cipher.specs.Holds.{held_by}
use Rattle.cipher.specs.Sound.{passes}
use Rattle.cipher.proofs.SoundSets.{opening_sound}
use Rattle.cipher.specs.LowMC.{decrypt, encrypt}
use Rattle.trial.proofs.Answering.{after, written}
use Rattle.trial.proofs.Trial.answer.Goals as goal

pub returns-clause-answer : goal.returns-clause-answer
returns-clause-answer c =
    let holds : held_by c.open.new.self ≡ Some (c.in_ok-params.params, c.read.new.words) = search rules in
    let p : Params = c.in_ok-params.params in
    let ws : List ℕ = c.read.new.words in
    let k : List ℕ = take (key_words_of p) c.args.self.now.key in
    let b : List ℕ = take (block_words_of p) c.args.self.now.block in
    let there : length c.encrypt.new.block ≡ length c.first-there.result.items = search rules in
    let back : length c.decrypt.new.block ≡ length c.first-back.result.items = search rules in
    let passed : passes (Some (p, ws)) ≡ true = ap passes (sym holds) ∙ c.open.new.self.passed in
    record {
      set = set_in p ws;
      lawful = (opening_sound p ws passed).lawful;
      laid_out = search rules;
      encrypted = written c.first-there.result.items c.encrypt.new.block there
          ∙ after encrypt p ws k b c.encrypt.ensures.block holds (search rules) (search rules) (search rules);
      decrypted = written c.first-back.result.items c.decrypt.new.block back
          ∙ after decrypt p ws k b c.decrypt.ensures.block holds (search rules) (search rules) (search rules);
    }
