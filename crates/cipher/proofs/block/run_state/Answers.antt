use Rattle.cipher.proofs.SoundSets.{opening_sound}
use Rattle.cipher.proofs.block.run_state.Goals as goal

pub decrypt_state-requires-clause-inverses : goal.decrypt_state-requires-clause-inverses
decrypt_state-requires-clause-inverses c = let o = c.args.opened in (opening_sound o.set.params o.set.words.now o.passed).inverses
