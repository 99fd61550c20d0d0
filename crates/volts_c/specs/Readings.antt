-- Document 01, "Charge cards", for C: what the call answers and writes, by the definitions of `volts`. Assumes nothing.
use Rattle.std.specs.Prelude.{ℕ, ◌≡◌, List, Float, Result, Ok, Err}
use Rattle.octets.specs.declared.Refusal.{Refusal}
use Rattle.octets.specs.Refusals.{number}
use Rattle.volts.specs.declared.Calibration.{Calibration}
use Rattle.volts.specs.declared.Volts.{Volts}
use Rattle.volts.specs.declared.Volts.TheVariants.{FromRawCode, FromMillivolts, NotAReading}
use Rattle.volts.specs.Reading.{reading}

-- "The answer is one of volts from a raw code, volts from millivolts, or not a reading", or the refusal, as a number
abbrev pub of_volts : Result Volts Refusal → ℕ
of_volts (Ok (FromRawCode v)) = 104
of_volts (Ok (FromMillivolts v)) = 105
of_volts (Ok NotAReading) = 106
of_volts (Err refusal) = number refusal

-- the lent volts after a reading; what "has no volts" and a refusal leave them
abbrev pub volts_by : Result Volts Refusal → Float → Float
volts_by (Ok (FromRawCode v)) before = v
volts_by (Ok (FromMillivolts v)) before = v
volts_by (Ok NotAReading) before = before
volts_by (Err refusal) before = before

-- "A calibration keeps gain and offset together as doubles"
abbrev pub calibration : Float → Float → Calibration
calibration gain offset = record { gain = gain; offset = offset }

-- the promise of `ahz_volts`
pub record VoltsTo (o : List ℕ) (gain offset before : Float) (r : ℕ) (after : Float) : Type 0 where
  pub answer : r ≡ of_volts (reading o (calibration gain offset))
  pub volts : after ≡ volts_by (reading o (calibration gain offset)) before
