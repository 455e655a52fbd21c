use Rattle.std.proofs.Common.{◌≡◌, ◌+◌, ◌-◌, ◌*◌, ◌^◌, length, take, drop, ap, ◌∙◌, ap₂, arith}
use lib.Bits.{bit_xor}
use Rattle.bits.specs.Gf2.{value}
use Rattle.bits.proofs.Products.{dot_below}
use Rattle.bits.proofs.Memory.{reduced}
use Rattle.bits.proofs.elimination.reduce.Goals as goal

pub overflow_sub-lacks : goal.overflow_sub-lacks
overflow_sub-lacks c = omega (arith, dot_below (2 ^ c.args.c) (value c.copy_from_slice.new.self))

pub returns : goal.returns
returns c =
    let n = c.args.n in
    let w = length c.args.row.now in
    let start = c.args.c * w in
    let other = c.args.r * w in
    let a : start + w - start ≡ w = omega arith in
    let b : other + w - other ≡ w = omega arith in
    let size : length c.add_times.new.a ≡ w = omega arith in
    let room : length c.clear_rows.new.rest ≡ n * w = omega arith in
    let s = reduced w n c.args.c c.args.r (length c.add_times.new.a) (start + w - start) c.args.work.now c.copy_from_slice.new.self c.add_times.new.a
    c.clear_rows.new.rest c.copy_from_slice-2.new.self c.requires.pivot.0 c.requires.pivot.1 c.requires.pivot.2 room size size a
    (ap value (c.copy_from_slice.ensures.after ∙ ap (λ k. take k (drop start c.args.work.now)) a))
    (c.add_times.ensures ∙ ap₂ (λ x k. bit_xor (value c.copy_from_slice.new.self) ((1 - x) * value (take k (drop other c.args.work.now)))) c.bit-lacks.ensures b)
    c.clear_rows.ensures c.copy_from_slice-2.ensures.after c.requires.solved in
    record { solved = s.0; carried = s.1 }
