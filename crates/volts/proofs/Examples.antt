-- Worked examples, computed from the written rules: document 01's volts, and the edges of a calibration. Assumes nothing.
use mathlib.Core.Path.{◌≡◌, refl}
use mathlib.Core.Bool.{Bool, true, false}
use mathlib.Core.List.{List, [], ◌∷◌, map}
use Prim.Native.Nat.{ℕ}
use lib.Ieee.{of_bits, of_int, neg, lt, le, add, mul}
use Rattle.std.specs.Prelude.{Ok, Err}
use Rattle.octets.specs.declared.Refusal.TheVariants.{CalibrationRange}
use Rattle.octets.specs.Number.{be16}
use Rattle.volts.specs.Reading.{number, double, accepted, reading, RawTen}
use Rattle.volts.specs.declared.Calibration.{Calibration}
use Rattle.volts.specs.declared.Volts.TheVariants as volts

pub raw_ten : RawTen
unfolding of_bits of_int lt le neg mul add be16 reading
raw_ten = refl

-- "rounded after each operation": three thirds are 1 after the first rounding, so nothing is left; a fused step would leave -2 ^ -54
pub two_roundings : reading (0x11 ∷ 0 ∷ 3 ∷ []) (record { gain = double 0x3fd5_5555_5555_5555; offset = neg (number 1) })
    ≡ Ok (volts.FromRawCode (number 0))
unfolding of_bits of_int lt le neg mul add be16 reading
two_roundings = refl

-- the calibration's refusal comes before the card's
pub order : map (λ o. reading o (record { gain = number 0; offset = number 0 })) ((0x13 ∷ []) ∷ (0x11 ∷ 0 ∷ []) ∷ [] ∷ [])
    ≡ Err CalibrationRange ∷ Err CalibrationRange ∷ Err CalibrationRange ∷ []
unfolding of_int lt le reading
order = refl

-- ---- both sides of each edge of a calibration
pub record Case : Type 0 where
  pub given : Calibration
  pub answer : Bool

abbrev gain : ℕ → Bool → Case
gain bits ok = record { given = record { gain = double bits; offset = number 0 }; answer = ok }

abbrev offset : ℕ → Bool → Case
offset bits ok = record { given = record { gain = number 1; offset = double bits }; answer = ok }

abbrev calibrations : List Case
calibrations =
    -- not a number, both infinities, both zeros
    gain 0x7ff8_0000_0000_0000 false
    ∷ gain 0x7ff0_0000_0000_0000 false
    ∷ gain 0xfff0_0000_0000_0000 false
    ∷ gain 0x0000_0000_0000_0000 false
    ∷ gain 0x8000_0000_0000_0000 false
    -- the least positive double, and the greatest negative
    ∷ gain 0x0000_0000_0000_0001 true
    ∷ gain 0x8000_0000_0000_0001 false
    -- 1 and its neighbours
    ∷ gain 0x3fef_ffff_ffff_ffff true
    ∷ gain 0x3ff0_0000_0000_0000 true
    ∷ gain 0x3ff0_0000_0000_0001 false
    -- not a number, both infinities, both zeros
    ∷ offset 0x7ff8_0000_0000_0000 false
    ∷ offset 0x7ff0_0000_0000_0000 false
    ∷ offset 0xfff0_0000_0000_0000 false
    ∷ offset 0x0000_0000_0000_0000 true
    ∷ offset 0x8000_0000_0000_0000 true
    -- 100 and -100, each with its neighbours
    ∷ offset 0x4058_ffff_ffff_ffff true
    ∷ offset 0x4059_0000_0000_0000 true
    ∷ offset 0x4059_0000_0000_0001 false
    ∷ offset 0xc058_ffff_ffff_ffff true
    ∷ offset 0xc059_0000_0000_0000 true
    ∷ offset 0xc059_0000_0000_0001 false
    ∷ []

pub calibration_cases : map (λ k. accepted k.given) calibrations ≡ map (λ k. k.answer) calibrations
unfolding of_bits of_int lt le neg
calibration_cases = refl
