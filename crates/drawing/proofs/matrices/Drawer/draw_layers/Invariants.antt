use Rattle.std.proofs.Common.{◌≡◌, ℕ, ◌+◌, ◌*◌, ◌^◌, ◌≤◌, List, map, take, Ok}
use Rattle.bits.specs.Gf2.{flat, inverse_of, width_of}
use Rattle.cipher.specs.Sets.{joined}
use Rattle.drawing.specs.Streams.{Sees, Stream}
use Rattle.drawing.specs.Drawing.{Layers, kept_layer, several}
use Rattle.drawing.proofs.matrices.Drawer.draw_layers.Given as goal

abbrev pub invariant-loop-i : goal.invariant-loop-i
invariant-loop-i g l =
    let m = g.S.BitSource in
    let s = l.initial.self in
    (l.self.taken ≤ s.taken + l.i * 2 ^ 24)
    × (l.self.source.ghost_name ≡ s.source.ghost_name)
    × ((f : Stream) → Sees f (m.meaning s.source.now) s.taken
    → (Ls : List (List ℕ)) × (several (kept_layer f l.n) l.i s.taken ≡ Ok (Ls, l.self.taken)) × Layers l.n l.i Ls
    × (take (l.i * l.size) l.layers ≡ flat (width_of l.n) (joined Ls))
    × (take (l.i * l.size) l.inverses ≡ flat (width_of l.n) (joined (map inverse_of Ls)))
    × Sees f (m.meaning l.self.source.now) l.self.taken)
