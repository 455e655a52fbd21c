use Rattle.std.proofs.Common.{◌≡◌, ◌*◌, vec_len}
use Rattle.engines.specs.Triples.{AllTrue}
use Rattle.noise.proofs.Noise.triples.Given as goal

abbrev pub invariant-loop : goal.invariant-loop
invariant-loop l = (vec_len l.tape ≡ 6 * l.counter) × AllTrue l.tape.items l.counter
