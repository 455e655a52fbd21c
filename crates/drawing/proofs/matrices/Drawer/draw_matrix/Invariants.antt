use Rattle.std.proofs.Common.{◌≡◌, ℕ, ◌+◌, ◌*◌, List, take, Ok}
use Rattle.bits.specs.Gf2.{flat}
use Rattle.cipher.specs.Sets.{Matrix}
use Rattle.drawing.specs.Streams.{Sees, Stream}
use Rattle.drawing.specs.Drawing.{matrix}
use Rattle.drawing.proofs.matrices.Drawer.draw_matrix.Given as goal

abbrev pub invariant-loop-i : goal.invariant-loop-i
invariant-loop-i g l =
    let m = g.S.BitSource in
    let s = l.initial.self in
    (l.self.taken ≡ s.taken + l.i * l.k)
    × (l.self.source.ghost_name ≡ s.source.ghost_name)
    × ((f : Stream) → Sees f (m.meaning s.source.now) s.taken
    → (M : List ℕ) × (matrix f l.i l.k s.taken ≡ Ok (M, l.self.taken)) × Matrix l.i l.k M
    × (take (l.i * l.w) l.out ≡ flat l.w M) × Sees f (m.meaning l.self.source.now) l.self.taken)
