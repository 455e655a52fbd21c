use Rattle.std.proofs.Common.{◌≡◌, ◌+◌, map, get_or, sym, ap, ◌∙◌, ap₂, arith}
use lib.Bits.{bit_xor}
use Rattle.batches.specs.Lanes.{box_along, lane}
use Rattle.batches.proofs.Boxes.{box_lane, unbox_lane}
use Rattle.batches.proofs.Packing.{read_map}
use Rattle.batches.proofs.gates.substitute_triple.Goals as goal
use Rattle.batches.proofs.gates.substitute_triple.Goals.{in-Encrypt, in-Decrypt}

pub returns-clause-lanes : goal.returns-clause-lanes
returns-clause-lanes g c j =
    let m = g.E.Engine.means in
    let xs = c.args.cells.now in
    let k = c.args.at in
    let A = m c.index-cells-at.result in
    let B = m c.index-cells-at-2.result in
    let C = m c.index-cells-at-3.result in
    let a : A ≡ get_or (map m xs) k 0 = read_map m xs k _ (omega (arith, c.requires.place)) c.index-cells-at.is in
    let b : B ≡ get_or (map m xs) (k + 1) 0 = read_map m xs _ _ (omega (arith, c.requires.place)) c.index-cells-at-2.is in
    let d : C ≡ get_or (map m xs) (k + 2) 0 = read_map m xs _ _ (omega (arith, c.requires.place)) c.index-cells-at-3.is in
    let bc = c.and-bc.ensures.0 in
    let ac = c.and-ac.ensures.0 in
    let sum = c.add-sum.ensures in
    let third = c.add-3.ensures ∙ ap₂ bit_xor (c.add-all.ensures ∙ ap (λ t. bit_xor t C) sum) c.and-ab.ensures.0 in
    elim c.match-way.branch [
      | in-Encrypt w ↦
          box_lane m xs k c.requires.place A B C a b d j _ _ _
          (c.add.ensures ∙ ap₂ bit_xor (ap (λ p. m p.0) w.first-is) bc) (c.add-2.ensures ∙ ap₂ bit_xor (ap (λ p. m p.1) w.first-is ∙ sum) ac) third
          ∙ ap (λ way. box_along way k (lane j (map m xs))) (sym w.in-Encrypt.is)
      | in-Decrypt w ↦
          unbox_lane m xs k c.requires.place A B C a b d j _ _ _
          (c.add.ensures ∙ ap₂ bit_xor (ap (λ p. m p.0) w.first-is ∙ sum) bc) (c.add-2.ensures ∙ ap₂ bit_xor (ap (λ p. m p.1) w.first-is) ac) third
          ∙ ap (λ way. box_along way k (lane j (map m xs))) (sym w.in-Decrypt.is)
    ]
