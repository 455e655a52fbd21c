use Rattle.cipher.proofs.Triples.{flipped}
use Rattle.cipher.proofs.state.flip.Goals as goal

pub returns : goal.returns
returns c = flipped c.args.s.now c.args.j c.args.on c.requires.place c.requires.digit c.fitting.ensures
