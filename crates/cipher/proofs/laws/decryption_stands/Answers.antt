use Rattle.cipher.proofs.Rounds.{decryption}
use Rattle.cipher.proofs.laws.decryption_stands.Goals as goal

pub returns : goal.returns
returns c = decryption
