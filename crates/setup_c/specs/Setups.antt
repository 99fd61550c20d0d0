-- Document 01, "Numbering and recovery", for C: what the calls on a setup answer, by the definitions of `setup`. Assumes nothing.
use Rattle.std.specs.Prelude.{ℕ, ◌≡◌}
use Rattle.octets.specs.Checks.{refusal}
use Rattle.setup.specs.declared.Setup.{Setup}
use Rattle.setup.specs.Conversion.{ticks_of}
use Rattle.setup.specs.Range.{checked}

-- the promises: of `ahz_ticks`: "Full ticks = ms x ticks per second / 1000, rounded up"
abbrev pub ConvertsTo : ℕ → ℕ → ℕ → Type 0
ConvertsTo milliseconds rate r = r ≡ (ticks_of (record { 0 = milliseconds }) rate).0

-- of `ahz_check_setup_v2`: "A setup is checked 15, 27, 16 to 19 wherever it is handed in by itself"
abbrev pub ChecksSetupTo : Setup → ℕ → Type 0
ChecksSetupTo setup r = r ≡ refusal (checked setup)
