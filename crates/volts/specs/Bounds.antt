-- What every answer of a reading keeps to: `VoltsBounded` and `MillivoltsGrow` are claims, which proofs/Bounds proves. An octet has 8 bits.
-- Assumes nothing.
use Rattle.std.specs.Prelude.{ℕ, ◌*◌, ◌≤◌, ◌<◌, ◌≡◌, true, cond, List, get_or, Float, Result, Ok, Err}
use Rattle.std.specs.Float.{nan, inf, fin}
use Rattle.std.specs.Float.Ieee.{up, down, le}
use Rattle.octets.specs.declared.Refusal.{Refusal}
use Rattle.volts.specs.declared.Calibration.{Calibration}
use Rattle.volts.specs.declared.Volts.{Volts}
use Rattle.volts.specs.declared.Volts.TheVariants.{FromRawCode, FromMillivolts, NotAReading}
use Rattle.volts.specs.Reading.{volts_of_millivolts, ReadsVolts}

-- a double from -lo to hi, so neither a NaN nor an infinity: its size, m * 2 ^ e, is at most hi, or lo below zero
abbrev pub Between : ℕ → ℕ → Float → Type 0
Between lo hi nan = ⊥
Between lo hi (inf s) = ⊥
Between lo hi (fin s m e) = m * up e ≤ cond s lo hi * down e

-- volts from a raw code lie from -100 to 65,635, and volts from millivolts from 0 to 66
abbrev pub Bounded : Result Volts Refusal → Type 0
Bounded (Ok (FromRawCode v)) = Between 100 65635 v
Bounded (Ok (FromMillivolts v)) = Between 0 66 v
Bounded (Ok NotAReading) = Unit {0}
Bounded (Err refusal) = Unit {0}

-- so for every payload and every calibration: volts are always a number
abbrev pub VoltsBounded : Type 0
VoltsBounded = (o : List ℕ) → ((i : ℕ) → get_or o i 0 < 256) → (c : Calibration) → (r : Result Volts Refusal) → ReadsVolts o c r → Bounded r

-- more millivolts are never fewer volts
abbrev pub MillivoltsGrow : Type 0
MillivoltsGrow = (n k : ℕ) → n ≤ k → k ≤ 65535 → le (volts_of_millivolts n) (volts_of_millivolts k) ≡ true
