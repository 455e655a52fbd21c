use Rattle.std.proofs.Common.{◌≡◌, ℕ, ◌+◌, ◌*◌, ◌^◌, ◌≤◌, List, take, Ok}
use Rattle.bits.specs.Gf2.{flat, width_of}
use Rattle.cipher.specs.Sets.{joined}
use Rattle.drawing.specs.Streams.{Sees, Stream}
use Rattle.drawing.specs.Drawing.{Keys, kept_key, several}
use Rattle.drawing.proofs.matrices.Drawer.draw_keys.Given as goal

abbrev pub invariant-loop-i : goal.invariant-loop-i
invariant-loop-i g l =
    let m = g.S.BitSource in
    let s = l.initial.self in
    (l.self.taken ≤ s.taken + l.i * 2 ^ 24)
    × (l.self.source.ghost_name ≡ s.source.ghost_name)
    × ((f : Stream) → Sees f (m.meaning s.source.now) s.taken
    → (Ks : List (List ℕ)) × (several (kept_key f l.n l.k) l.i s.taken ≡ Ok (Ks, l.self.taken)) × Keys l.n l.k l.i Ks
    × (take (l.i * l.size) l.out ≡ flat (width_of l.k) (joined Ks)) × Sees f (m.meaning l.self.source.now) l.self.taken)
