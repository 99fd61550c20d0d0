-- The latent reset and the latent test of a state (document 01, "Numbering and recovery"). Assumes nothing.
use Rattle.std.specs.Prelude.{◌≡◌, Bool, cond, Result, Ok, Err}
use Rattle.octets.specs.declared.Refusal.{Refusal}
use Rattle.octets.specs.declared.Refusal.TheVariants.{Unsound}
use Rattle.counters.specs.LatentErrors.{figure, exceeds, latent_counted}
use Rattle.recovery.specs.declared.State.{State}
use Rattle.recovery.specs.declared.Stepped.{Stepped}
use Rattle.recovery.specs.declared.Latent.{Latent}
use Rattle.recovery.specs.declared.Latent.TheVariants.{Agrees, Error}
use Rattle.recovery.specs.Soundness.{sound, step_of}

-- "Latent test: error exactly if the absolute value of (base - figure, modulo 2^64, signed) exceeds the difference"
unfoldable pub latent_error : State → Bool
latent_error s = exceeds s.base s.counters s.setup.paths s.setup.difference

-- "Latent reset: base = figure, latent-resets +1"
unfoldable pub rebased : State → State
rebased s =
    record {
      setup = s.setup;
      newest = s.newest;
      marks = s.marks;
      first = s.first;
      take_any = s.take_any;
      left = s.left;
      counters = latent_counted s.counters;
      base = figure s.counters s.setup.paths;
    }

-- the call `latent_reset`
unfoldable pub latent_reset_of : State → Stepped Unit
latent_reset_of s = step_of s (record { answer = Ok tt; state = rebased s })

-- the call `latent_test`: "state not sound" is 14; "no state changes"
unfoldable pub latent_test_of : State → Result Latent Refusal
latent_test_of s = cond (sound s) (Ok (cond (latent_error s) Error Agrees)) (Err Unsound)

-- the promises: of `State::latent_reset`
abbrev pub LatentResets : State → Stepped Unit → Type 0
LatentResets s r = r ≡ latent_reset_of s

-- of `State::latent_test`
abbrev pub LatentTests : State → Result Latent Refusal → Type 0
LatentTests s r = r ≡ latent_test_of s
