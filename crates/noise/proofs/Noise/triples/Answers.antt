use Rattle.std.proofs.Common.{rules, ◌≡◌, ◌+◌, ◌++◌, ◌∷◌, [], List, ℕ, bit_and, bit_xor, subst, sym}
use Rattle.engines.specs.Triples.{AllTrue}
use Rattle.noise.proofs.Tapes.{one_more}
use Rattle.noise.proofs.Noise.triples.Goals as goal

pub loop-preserved : goal.loop-preserved
loop-preserved c =
    let a0 : ℕ = c.word.result in
    let b0 : ℕ = c.word-in-loop.result in
    let c0 : ℕ = c.word-in-loop-2.result in
    let a1 : ℕ = c.word-in-loop-3.result in
    let b1 : ℕ = c.word-in-loop-4.result in
    let c1 : ℕ = bit_xor c0 (bit_and (bit_xor a0 a1) (bit_xor b0 b1)) in
    let e : c.extend_from_slice.new.self.items ≡ c.loop.tape.items ++ a0 ∷ b0 ∷ c0 ∷ a1 ∷ b1 ∷ c1 ∷ [] = search rules in
    (search rules, subst (λ (v : List ℕ). AllTrue v (c.loop.counter + 1)) (sym e) (one_more c.loop.tape.items c.loop.counter a0 b0 c0 a1 b1 (search rules) c.loop.invariant.1))
