use Rattle.std.proofs.Common.{◌≡◌, ◌+◌, ◌^◌, ◌<◌, Ok}
use Rattle.bits.specs.Gf2.{Words, value}
use Rattle.drawing.specs.Streams.{Sees, Stream}
use Rattle.drawing.specs.Drawing.{row}
use Rattle.drawing.proofs.matrices.Drawer.draw_row.Given as goal

abbrev pub invariant-loop-i : goal.invariant-loop-i
invariant-loop-i g l =
    let m = g.S.BitSource in
    let s = l.initial.self in
    Words l.out
    × (value l.out < 2 ^ l.i)
    × (l.self.taken ≡ s.taken + l.i)
    × (l.self.source.ghost_name ≡ s.source.ghost_name)
    × ((f : Stream) → Sees f (m.meaning s.source.now) s.taken → (row f l.i s.taken ≡ Ok (value l.out, l.self.taken)) × Sees f (m.meaning l.self.source.now) l.self.taken)
