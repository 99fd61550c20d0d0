-- Of each call, two answers that the promise allows are equal, and so are two lists of words afterwards. Assumes nothing.
use Rattle.std.specs.Prelude.{Option}
use Prim.Native.Nat.{ℕ}
use mathlib.Core.Path.{◌≡◌}
use mathlib.Core.Bool.{Bool}
use mathlib.Core.List.{List}
use Rattle.octets.proofs.Unique.{one, puts_one}
use Rattle.recovery.specs.declared.State.{State}
use Rattle.states.specs.Fields.{ReadsState, ReadsShort, Keeps, KeepsShort}

module _ (w : List ℕ) where
  pub reads_state_one : {a b : Option State} → ReadsState w a → ReadsState w b → a ≡ b
  reads_state_one = one

  pub reads_short_one : {a b : Option State} → ReadsShort w a → ReadsShort w b → a ≡ b
  reads_short_one = one

  pub keeps_one : (s : State) {a b : Bool} {l m : List ℕ} → Keeps s w a l → Keeps s w b m → (a ≡ b) × (l ≡ m)
  keeps_one s = puts_one

  pub keeps_short_one : (s : State) {a b : Bool} {l m : List ℕ} → KeepsShort s w a l → KeepsShort s w b m → (a ≡ b) × (l ≡ m)
  keeps_short_one s = puts_one
