-- Document 01, "Charge cards": a calibration, and the volts of a card, in the logic's own account of IEEE 754. `RawTen` is a claim, which
-- proofs/Examples proves. Assumes nothing.
use Rattle.std.specs.Prelude.{ℕ, ◌≡◌, List, [], ◌∷◌, Bool, not, ◌&&◌, pos, Float, Result, Ok}
use Rattle.std.specs.Float.{binary64}
use Rattle.std.specs.Float.Ieee.{add, mul, div, neg, lt, le, of_int, of_bits}
use Rattle.octets.specs.declared.Refusal.{Refusal}
use Rattle.octets.specs.declared.Refusal.TheVariants.{CalibrationRange}
use Rattle.octets.specs.Checks.{Check, ◌⇒◌, verdict, answered}
use Rattle.cards.specs.Payload.{standing, card_checks}
use Rattle.cards.specs.declared.Card.{Card}
use Rattle.cards.specs.declared.Card.TheVariants as card
use Rattle.volts.specs.declared.Calibration.{Calibration}
use Rattle.volts.specs.declared.Volts.{Volts}
use Rattle.volts.specs.declared.Volts.TheVariants as volts

-- a whole number as a double
abbrev pub number : ℕ → Float
number n = of_int binary64 (pos n)

-- a double by its bits
abbrev pub double : ℕ → Float
double = of_bits binary64

-- "A calibration keeps gain and offset together as doubles: 0 < gain <= 1, -100 <= offset <= 100", by the comparisons of IEEE 754
abbrev pub accepted : Calibration → Bool
accepted c =
    lt (number 0) c.gain && le c.gain (number 1) && le (neg (number 100)) c.offset && le c.offset (number 100)

-- "Volts are raw x gain + offset, rounded after each operation"
abbrev pub volts_of_raw : ℕ → Calibration → Float
volts_of_raw n c = add binary64 (mul binary64 (number n) c.gain) c.offset

-- "or millivolts / 1000"
abbrev pub volts_of_millivolts : ℕ → Float
volts_of_millivolts n = div binary64 (number n) (number 1000)

-- "The answer is one of volts from a raw code, volts from millivolts, or not a reading"; "A flush order or an end has no volts: not a
-- reading"
abbrev pub volts_of : Card → Calibration → Volts
volts_of (card.FlushOrder n) c = volts.NotAReading
volts_of (card.RawCode n) c = volts.FromRawCode (volts_of_raw n c)
volts_of (card.Millivolts n) c = volts.FromMillivolts (volts_of_millivolts n)
volts_of card.End c = volts.NotAReading

-- "Order: 22 where a calibration is given, then 20, then 21": "calibration"; "card kind; card cut"
abbrev pub reading_checks : List ℕ → Calibration → List Check
reading_checks o c = not (accepted c) ⇒ CalibrationRange ∷ card_checks o

-- what the next card says of the bank, or the refusal
unfoldable pub reading : List ℕ → Calibration → Result Volts Refusal
unfolding verdict
reading o c = answered (verdict (reading_checks o c)) (volts_of (standing o) c)

-- the promise: of `read`
abbrev pub ReadsVolts : List ℕ → Calibration → Result Volts Refusal → Type 0
ReadsVolts o c r = r ≡ reading o c

-- "Raw 10, gain 0.25, offset 0.5 is 3.0"
abbrev pub RawTen : Type 0
RawTen =
    reading (0x11 ∷ 0 ∷ 10 ∷ []) (record { gain = double 0x3fd0_0000_0000_0000; offset = double 0x3fe0_0000_0000_0000 })
    ≡ Ok (volts.FromRawCode (number 3))
