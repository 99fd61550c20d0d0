-- Two answers that the call's promise allows are equal, and so is all that was lent to it. Assumes nothing.
use Prim.Native.Nat.{ℕ}
use mathlib.Core.Path.{◌≡◌}
use mathlib.Core.List.{List}
use lib.Ieee.{Float}
use Rattle.octets.proofs.Unique.{one}
use Rattle.volts_c.specs.Readings.{VoltsTo}

pub volts_to_one : (o : List ℕ) (gain offset before : Float) {a b : ℕ} {i j : Float} → VoltsTo o gain offset before a i
    → VoltsTo o gain offset before b j → (a ≡ b) × (i ≡ j)
volts_to_one o gain offset before p q = (one p.answer q.answer, one p.volts q.volts)
