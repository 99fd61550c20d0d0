-- A setup and its check (document 01, "Numbering and recovery" and "When the layer says no"). Assumes nothing.
use Rattle.std.specs.Prelude.{ℕ, ◌≡◌, Bool, not, ◌&&◌, List, [], ◌∷◌, leb, eqb, Result, is_ok}
use Rattle.octets.specs.declared.Refusal.{Refusal}
use Rattle.octets.specs.declared.Refusal.TheVariants.{NoRule, HistoryRange, TimeoutRange, RateRange, PathsRange, TakenOrUse}
use Rattle.octets.specs.Checks.{Check, ◌⇒◌, Verdict, verdict, answered}
use Rattle.setup.specs.declared.Setup.{Setup}
use Rattle.setup.specs.declared.Ticks.{Ticks}
use Rattle.setup.specs.Values.{setup_of}
use Rattle.setup.specs.Conversion.{ticks_of}

-- lo to hi
abbrev pub within : ℕ → ℕ → ℕ → Bool
within lo hi n = leb lo n && leb n hi

-- "A setup is checked 15, 27, 16 to 19": "rule (0 vector, 1 match), whether packets without a number are taken, history length H 2 to 64,
-- timeout 1 to 3,600,000 ms, ticks per second 1 to 10,000, paths 2 to 8, latent difference 0 to 2^32-1". "H is checked under match too";
-- every difference of 32 bits is in range. In the table: "rule; H; ms; ticks per second; paths" and "taken flag not 0 or 1". By CR 2 "Setup
-- gets a use: sequence or individual", behind taken: "0 sequence, 1 individual, else 27"; by CR 4 "Raise H to 512; refusal 16 .. follow"
unfoldable pub setup_checks : Setup → List Check
setup_checks setup =
    not (leb setup.rule 1) ⇒ NoRule
    ∷ not (leb setup.taken 1) ⇒ TakenOrUse
    ∷ not (leb setup.usage 1) ⇒ TakenOrUse
    ∷ not (within 2 512 setup.history) ⇒ HistoryRange
    ∷ not (within 1 3600000 setup.timeout.0) ⇒ TimeoutRange
    ∷ not (within 1 10000 setup.rate) ⇒ RateRange
    ∷ not (within 2 8 setup.paths) ⇒ PathsRange
    ∷ []

-- what they come to
unfoldable pub checked : Setup → Verdict
checked setup = verdict (setup_checks setup)

-- the check's answer
abbrev pub check_of : Setup → Result Unit Refusal
check_of setup = answered (checked setup) tt

-- "setup in range": nothing is refused
abbrev pub in_range : Setup → Bool
in_range setup = is_ok (check_of setup)

-- "rule (0 vector, 1 match)"
unfoldable pub is_vector : Setup → Bool
is_vector setup = eqb setup.rule 0

-- CR 2: "0 sequence, 1 individual"
unfoldable pub is_individual : Setup → Bool
is_individual setup = eqb setup.usage 1

-- "full ticks": the setup's timeout in ticks
abbrev pub full_of : Setup → Ticks
full_of setup = ticks_of setup.timeout setup.rate

-- the promises: of `check_numbers`, whatever the latent difference is: "0 to 2^32-1" is what its field holds
abbrev pub ChecksNumbers : (rule taken usage history milliseconds rate paths : ℕ) → Result Unit Refusal → Type 0
ChecksNumbers rule taken usage history milliseconds rate paths r =
    (difference : ℕ) → r ≡ check_of (setup_of rule taken usage history milliseconds rate paths difference)

-- of `Setup::check`
abbrev pub ChecksSetup : Setup → Result Unit Refusal → Type 0
ChecksSetup setup r = r ≡ check_of setup

-- of `Setup::full`
abbrev pub GivesFull : Setup → Ticks → Type 0
GivesFull setup r = r ≡ full_of setup
