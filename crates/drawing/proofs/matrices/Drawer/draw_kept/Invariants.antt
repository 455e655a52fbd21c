use Rattle.std.proofs.Common.{◌≡◌, ◌+◌, ◌-◌, ◌*◌, ◌≤◌}
use Rattle.drawing.specs.Streams.{Sees, Stream}
use Rattle.drawing.specs.Drawing.{first_kept, matrix, tries}
use Rattle.drawing.proofs.matrices.Drawer.draw_kept.Given as goal

abbrev pub invariant-loop-draw : goal.invariant-loop-draw
invariant-loop-draw g l =
    let m = g.S.BitSource in
    let s = l.initial.self in
    (l.self.taken ≤ s.taken + 65536 * l._draw)
    × (l.self.source.ghost_name ≡ s.source.ghost_name)
    × ((f : Stream) → Sees f (m.meaning s.source.now) s.taken
    → (first_kept g.K.Keep.passes (matrix f l.n l.k) (255 - l._draw) l.self.taken ≡ first_kept g.K.Keep.passes (matrix f l.n l.k) tries s.taken)
    × Sees f (m.meaning l.self.source.now) l.self.taken)
