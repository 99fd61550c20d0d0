-- Two answers that a promise allows are equal: both are the same number with the same sign. A double is one value of the logic's, zeros
-- have their sign, and the one `nan` never comes (`volts_bounded`). Assumes nothing.
use mathlib.Core.Path.{◌≡◌}
use mathlib.Core.List.{List}
use Prim.Native.Nat.{ℕ}
use Rattle.std.specs.Prelude.{Result}
use Rattle.octets.specs.declared.Refusal.{Refusal}
use Rattle.octets.proofs.Unique.{one}
use Rattle.volts.specs.Reading.{ReadsVolts}
use Rattle.volts.specs.declared.Calibration.{Calibration}
use Rattle.volts.specs.declared.Volts.{Volts}

pub reads_volts_one : (o : List ℕ) (c : Calibration) (r s : Result Volts Refusal) → ReadsVolts o c r → ReadsVolts o c s → r ≡ s
reads_volts_one o c r s = one
