-- Two outcomes that the promise of `take_turn` allows are equal. Assumes nothing.
use Rattle.std.specs.Prelude.{Option, Result}
use Prim.Native.Nat.{ℕ}
use mathlib.Core.Path.{◌≡◌}
use mathlib.Core.List.{List}
use Rattle.octets.specs.declared.Refusal.{Refusal}
use Rattle.octets.proofs.Unique.{one}
use Rattle.recovery.specs.declared.State.{State}
use Rattle.turns.specs.declared.Outcome.{Outcome}
use Rattle.turns.specs.Turn.{Turns}

pub turns_one : (tape : List ℕ) (at : ℕ) (bench : Option State) {a b : Result Outcome Refusal} → Turns tape at bench a → Turns tape at bench b
    → a ≡ b
turns_one tape at bench = one
