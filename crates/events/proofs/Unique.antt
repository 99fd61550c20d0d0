-- Two answers that a promise allows are equal. Assumes nothing.
use Rattle.std.specs.Prelude.{Result}
use Prim.Native.Nat.{ℕ}
use mathlib.Core.Path.{◌≡◌}
use mathlib.Core.Bool.{Bool}
use mathlib.Core.List.{List}
use Rattle.octets.proofs.Unique.{one}
use Rattle.octets.specs.declared.Refusal.{Refusal}
use Rattle.events.specs.Event.{Lasts, Refuses}

pub lasts_one : (kind : ℕ) {a b : ℕ} → Lasts kind a → Lasts kind b → a ≡ b
lasts_one kind = one

pub refuses_one : (tape : List ℕ) (at : ℕ) (set_up : Bool) {a b : Result Unit Refusal} → Refuses tape at set_up a → Refuses tape at set_up b → a ≡ b
refuses_one tape at set_up = one
