-- The accounts of engines: what a gate and a grant change, and when they are refused.
use Rattle.std.specs.Prelude.{◌≡◌, ℕ, ◌+◌, ◌-◌, ◌^◌, ◌<◌, ◌≤◌}
use Rattle.bits.specs.Refusals.{fault_at}
use Rattle.bits.specs.declared.refusal.Fault.{Fault}
use Rattle.bits.specs.declared.refusal.Layer.TheVariants.{Engine}
use Rattle.bits.specs.declared.refusal.Refusal.TheVariants.{OutOfGates, OverCapacity}
use Rattle.engines.specs.declared.engine.Account.{Account}

abbrev pub new_account : ℕ → Account
new_account n = record { capacity = n; granted = 0; done = 0 }

-- the gates that are left
abbrev pub left : Account → ℕ
left a = a.granted - a.done

-- what holds of every engine's account
pub record Sound (a : Account) : Type 0 where
  pub spent : a.done ≤ a.granted
  pub bounded : a.granted ≤ a.capacity
  pub small : a.capacity < 2 ^ 32

-- n gates were done: from a to b
pub record Spent (a : Account) (n : ℕ) (b : Account) : Type 0 where
  pub room : a.done + n ≤ a.granted
  pub done : b.done ≡ a.done + n
  pub granted : b.granted ≡ a.granted
  pub capacity : b.capacity ≡ a.capacity

-- a gate is refused: no granted gate is left, and the place says so
pub record Dry (a : Account) (f : Fault) : Type 0 where
  pub none : a.granted ≡ a.done
  pub fault : f ≡ fault_at OutOfGates Engine 0

-- g gates were granted: from a to b
pub record Granted (a : Account) (g : ℕ) (b : Account) : Type 0 where
  pub room : a.granted + g ≤ a.capacity
  pub granted : b.granted ≡ a.granted + g
  pub done : b.done ≡ a.done
  pub capacity : b.capacity ≡ a.capacity

-- a grant is refused: it passes the capacity; the place is what could still be granted
pub record Full (a : Account) (g : ℕ) (f : Fault) : Type 0 where
  pub over : a.capacity < a.granted + g
  pub fault : f ≡ fault_at OverCapacity Engine (a.capacity - a.granted)
