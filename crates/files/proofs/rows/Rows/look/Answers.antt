use Rattle.std.proofs.Common.{◌≡◌, ℕ, ◌+◌, ◌-◌, ◌*◌, ◌%◌, ◌^◌, ◌<◌, ◌≤◌, get_or, drop, Err, sym, ap, ◌∙◌, subst, ap₂, inl, inr, suc-mul, add-one, arith, rules, length-drop, pow_mono}
use Rattle.std.specs.Iterator.Adapters.{enumerate_count, enumerate_source, take_source}
use Rattle.std.proofs.lemmas.Bool.{cases_lt}
use Rattle.std.proofs.lemmas.List.{drop-drop, get_or-take}
use Rattle.bits.specs.declared.refusal.Refusal.TheVariants.{StrayBit}
use Rattle.bits.specs.declared.refusal.Layer.TheVariants.{File}
use Rattle.bits.specs.Refusals.{fault_at}
use Rattle.files.specs.Faults.{body_slots, seen}
use Rattle.files.specs.Format.{byte_width_of}
use Rattle.files.proofs.Chunks.{Come, come_next, come_room, come_short}
use Rattle.files.proofs.Looks.{rows_more, rows_short, rows_stray}
use Rattle.files.proofs.Pieces.{bytes_drop}
use Rattle.files.proofs.rows.Rows.look.Goals as goal

-- the limit fits its type
limit_is : (e : ℕ) → e ≤ 8 → 1 * 2 ^ e % 65536 ≡ 2 ^ e
limit_is e h = omega (arith, pow_mono {i = e} {j = 8} h)

pub returns-then-from-limit : goal.returns-then-from-limit
returns-then-from-limit c =
    let rows = c.args.self in
    let s = byte_width_of rows.bits in
    let d = s - 1 in
    let inv = c.loop-i.invariant in
    let j = enumerate_count c.loop-i.i-iterator in
    let bs = c.args.bytes.now in
    let steps = c.in-Some.ensures.steps in
    let n = come_next s j rows.count bs (take_source (enumerate_source c.loop-i.i-iterator)) (take_source (enumerate_source c.next.new.self)) inv.come c.in-Some.row steps.0.0 (omega arith) in
    let room = come_room s j rows.count bs (take_source (enumerate_source c.loop-i.i-iterator)) (take_source (enumerate_source c.next.new.self)) inv.come c.in-Some.row steps.0.0 in
    let byte : get_or c.in-Some.row.now d 0 ≡ get_or (drop (j * s) bs) d 0 = ap (λ xs. get_or xs d 0) n.0 ∙ get_or-take s (drop (j * s) bs) d 0 (omega arith) in
    let read : c.from-in-loop-i.result ≡ get_or (drop (j * s) bs) d 0 = c.from-in-loop-i.ensures ∙ ap (λ k. get_or c.in-Some.row.now (k - 1) 0) c.byte_width-size.ensures ∙ byte in
    let same : c.in-Some.i * c.byte_width-size.result ≡ j * s = ap₂ (λ i k. i * k) steps.1 c.byte_width-size.ensures in
    let place : c.args.at + (c.in-Some.i * c.byte_width-size.result + c.byte_width-size.result - 1) ≡ c.args.at + j * s + d = omega arith in
    let left : c.from.result - 8 * (c.byte_width-size.result - 1) ≡ rows.bits - 8 * d = omega arith in
    let limit = limit_is (c.from.result - 8 * (c.byte_width-size.result - 1)) (omega arith) ∙ ap (λ k. 2 ^ k) left in
    let high : 2 ^ (rows.bits - 8 * d) ≤ get_or (drop (j * s) bs) d 0 = omega (arith, limit) in
    ap Err (c.at.ensures ∙ ap (fault_at StrayBit File) place)
    ∙ rows_stray s d rows.bits (omega arith) (omega arith) (omega arith) (c.args.at + j * s) j rows.count (drop (j * s) bs) _
    (bytes_drop (j * s) bs (λ k. omega (arith, c.type_inv.bytes k))) (omega arith) (simp length-drop (omega arith)) high inv.fine

pub loop-i-preserved : goal.loop-i-preserved
loop-i-preserved c =
    let rows = c.args.self in
    let s = byte_width_of rows.bits in
    let d = s - 1 in
    let inv = c.loop-i.invariant in
    let j = enumerate_count c.loop-i.i-iterator in
    let bs = c.args.bytes.now in
    let steps = c.in-Some.ensures.steps in
    let n = come_next s j rows.count bs (take_source (enumerate_source c.loop-i.i-iterator)) (take_source (enumerate_source c.next.new.self)) inv.come c.in-Some.row steps.0.0 (omega arith) in
    let room = come_room s j rows.count bs (take_source (enumerate_source c.loop-i.i-iterator)) (take_source (enumerate_source c.next.new.self)) inv.come c.in-Some.row steps.0.0 in
    let byte : get_or c.in-Some.row.now d 0 ≡ get_or (drop (j * s) bs) d 0 = ap (λ xs. get_or xs d 0) n.0 ∙ get_or-take s (drop (j * s) bs) d 0 (omega arith) in
    let read : c.from-in-loop-i.result ≡ get_or (drop (j * s) bs) d 0 = c.from-in-loop-i.ensures ∙ ap (λ k. get_or c.in-Some.row.now (k - 1) 0) c.byte_width-size.ensures ∙ byte in
    let left : c.from.result - 8 * (c.byte_width-size.result - 1) ≡ rows.bits - 8 * d = omega arith in
    let limit = limit_is (c.from.result - 8 * (c.byte_width-size.result - 1)) (omega arith) ∙ ap (λ k. 2 ^ k) left in
    let low : get_or (drop (j * s) bs) d 0 < 2 ^ (rows.bits - 8 * d) = omega (arith, limit) in
    let next : (j + 1) * s ≡ j * s + s = ap (λ k. k * s) (add-one j) ∙ suc-mul j s in
    let o : c.args.at + (j + 1) * s ≡ c.args.at + j * s + s = omega arith in
    record {
      can = search rules;
      finite = search rules;
      come = subst (λ k. Come s k rows.count bs (take_source (enumerate_source c.next.new.self))) (sym steps.2) n.1;
      left = omega (arith, inv.left, steps.0.1, steps.2);
      fine = ap (λ k. seen (c.args.at + k * s) (body_slots s rows.bits (rows.count - k)) (drop (k * s) bs)) steps.2
          ∙ ap₂ (λ p q. seen p (body_slots s rows.bits (rows.count - (j + 1))) q) o (ap (λ k. drop k bs) next ∙ sym (drop-drop s (j * s) bs))
          ∙ rows_more s d rows.bits (omega arith) (omega arith) (omega arith) (c.args.at + j * s) j rows.count (drop (j * s) bs) _
          (bytes_drop (j * s) bs (λ k. omega (arith, c.type_inv.bytes k))) (omega arith) (simp length-drop (omega arith)) low inv.fine;
    }

pub returns : goal.returns
returns c =
    let rows = c.args.self in
    let s = byte_width_of rows.bits in
    let inv = c.loop-i.invariant in
    let j = enumerate_count c.loop-i.i-iterator in
    let bs = c.args.bytes.now in
    elim (cases_lt j rows.count) [
      | inl l ↦
          let short = come_short s j rows.count bs (take_source (enumerate_source c.loop-i.i-iterator)) (take_source (enumerate_source c.next.new.self)) inv.come (c.in-None.ensures.steps.0 (omega arith)) in
          rows_short s (s - 1) rows.bits (omega arith) (omega arith) (omega arith) (c.args.at + j * s) j rows.count (drop (j * s) bs) _
          (bytes_drop (j * s) bs (λ k. omega (arith, c.type_inv.bytes k))) l (simp length-drop (omega arith)) inv.fine
      | inr g ↦
          let e : rows.count - j ≡ 0 = omega arith in
          sym (ap (λ k. seen (c.args.at + j * s) (body_slots s rows.bits k) (drop (j * s) bs)) e) ∙ inv.fine
    ]
