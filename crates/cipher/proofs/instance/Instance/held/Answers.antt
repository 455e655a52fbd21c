use Rattle.cipher.proofs.SoundSets.{sound_held}
use Rattle.cipher.proofs.instance.Instance.held.Goals as goal

pub returns-clause-sound : goal.returns-clause-sound
returns-clause-sound c = sound_held c.args.self.now.opened
