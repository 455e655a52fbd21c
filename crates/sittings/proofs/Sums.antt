-- What a run does to the sums of its account.
use Rattle.std.proofs.Common.{◌≡◌, ℕ, ◌+◌, ◌≤◌, List, [], ◌∷◌, Some, None, Ok, Err, Option, Result, sym, ap, subst, arith}
use Rattle.bits.specs.declared.refusal.Fault.{Fault}
use Rattle.cipher.specs.declared.direction.Direction.{Direction}
use Rattle.cipher.specs.declared.instance.Instance.{Instance}
use Rattle.cipher.specs.Blocks.{Held}
use Rattle.cipher.specs.Holds.{held_by}
use Rattle.engines.specs.declared.engine.Account.{Account}
use Rattle.engines.specs.Accounts.{Sound}
use Rattle.batches.specs.Batches.{Leaves}
use Rattle.sittings.specs.declared.entry.Batch.{Batch}
use Rattle.sittings.specs.declared.entry.Call.{Call}
use Rattle.sittings.specs.declared.entry.Call.TheVariants.{Grant, Encrypt, Decrypt}
use Rattle.sittings.specs.declared.entry.Entry.{Entry}
use Rattle.sittings.specs.Runs.{AnsweredBy, Coded, Granting, Run}
use Rattle.sittings.specs.Laws.{Balanced, amount_of, cost_of, gates_held, if_accepted, total}

-- g gates were granted and n were spent
record Moves (a : Account) (g n : ℕ) (b : Account) : Type 0 where
  pub granted : b.granted ≡ a.granted + g
  pub done : b.done ≡ a.done + n
  pub bound : a.done ≤ a.granted → b.done ≤ b.granted

still : (a b : Account) → b ≡ a → Moves a 0 0 b
still a b e =
    let d = ap (λ (z : Account). z.done) e in
    let h = ap (λ (z : Account). z.granted) e in
    record { granted = omega arith; done = omega arith; bound = λ k. omega arith }

grant_moves : (a b : Account) (g : ℕ) (r : Result Unit Fault) → Granting a g r b → Moves a (if_accepted (Some r) g) 0 b
grant_moves a b g (Ok u) h = record { granted = h.granted; done = omega (arith, h.done); bound = λ k. omega (arith, h.done, h.granted) }
grant_moves a b g (Err e) h = still a b h.0

module _ {W : Type 0} (means : W → ℕ) where
  leaves_moves : (h : Held) (a b : Account) (r : Result Unit Fault) (cs ds : List W) → Leaves means h r a b cs ds → Moves a 0 (if_accepted (Some r) (gates_held h)) b
  leaves_moves None a b (Ok u) cs ds l = still a b l.0
  leaves_moves None a b (Err e) cs ds l = still a b l.0
  leaves_moves (Some (p, ws)) a b (Ok u) cs ds l =
      let s = l.0 in record { granted = omega (arith, s.granted); done = s.done; bound = λ k. omega (arith, s.done, s.granted, s.room) }
  leaves_moves (Some (p, ws)) a b (Err e) cs ds l = still a b l.0

  module _ (lanes : ℕ) where
    coded_moves : (way : Direction) (a b : Account) (x y : Batch W) (r : Result Unit Fault) → Coded means lanes way a x y r b
        → Moves a 0 (if_accepted (Some r) (gates_held (held_by y.held))) b
    coded_moves way a b x y r c =
        subst (λ (i : Instance). Moves a 0 (if_accepted (Some r) (gates_held (held_by i))) b) (sym c.kept.held) (leaves_moves (held_by x.held) a b r _ _ c.leaves)

    step_moves : (a b : Account) (x y : Call W) (o : Option (Result Unit Fault)) → AnsweredBy means lanes a x y o b
        → Moves a (if_accepted o (amount_of y)) (if_accepted o (cost_of y)) b
    step_moves a b x y None s = absurd s
    step_moves a b (Grant g) (Grant h) (Some (Ok u)) s = subst (λ (n : ℕ). Moves a n 0 b) (sym s.0) (grant_moves a b g (Ok u) s.1)
    step_moves a b (Grant g) (Grant h) (Some (Err e)) s = grant_moves a b g (Err e) s.1
    step_moves a b (Grant g) (Encrypt y) (Some r) s = absurd s
    step_moves a b (Grant g) (Decrypt y) (Some r) s = absurd s
    step_moves a b (Encrypt x) (Grant h) (Some r) s = absurd s
    step_moves a b (Encrypt x) (Encrypt y) (Some (Ok u)) s = coded_moves _ a b x y (Ok u) s
    step_moves a b (Encrypt x) (Encrypt y) (Some (Err e)) s = coded_moves _ a b x y (Err e) s
    step_moves a b (Encrypt x) (Decrypt y) (Some r) s = absurd s
    step_moves a b (Decrypt x) (Grant h) (Some r) s = absurd s
    step_moves a b (Decrypt x) (Encrypt y) (Some r) s = absurd s
    step_moves a b (Decrypt x) (Decrypt y) (Some (Ok u)) s = coded_moves _ a b x y (Ok u) s
    step_moves a b (Decrypt x) (Decrypt y) (Some (Err e)) s = coded_moves _ a b x y (Err e) s

    run_moves : (a b : Account) (xs ys : List (Entry W)) → Run means lanes a xs ys b → Moves a (total amount_of ys) (total cost_of ys) b
    run_moves a b [] [] r = still a b (sym r)
    run_moves a b [] (y ∷ ys) r = absurd r
    run_moves a b (x ∷ xs) [] r = absurd r
    run_moves a b (x ∷ xs) (y ∷ ys) r =
        let s = step_moves a r.0 x.call y.call y.answer r.1 in
        let t = run_moves r.0 b xs ys r.2 in
        record { granted = omega (arith, s.granted, t.granted); done = omega (arith, s.done, t.done); bound = λ k. t.bound (s.bound k) }

    pub balanced : (a b : Account) (xs ys : List (Entry W)) → Run means lanes a xs ys b → Sound a → Balanced a ys b
    balanced a b xs ys r k =
        let m = run_moves a b xs ys r in
        let h = m.bound k.spent in
        record {
          gates = omega (arith, m.granted, m.done, h, k.spent);
          from_new = λ n e.
              let g = ap (λ (z : Account). z.granted) e in
              let d = ap (λ (z : Account). z.done) e in
              omega (arith, m.granted, m.done, h, g, d);
        }
