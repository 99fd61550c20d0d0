-- A fresh state, and a reset (document 01, "Numbering and recovery", and CR 7). Assumes nothing.
use Rattle.std.specs.Prelude.{ℕ, ◌≡◌, true, Result, Ok}
use Rattle.octets.specs.declared.Refusal.{Refusal}
use Rattle.octets.specs.Checks.{answered}
use Rattle.setup.specs.declared.Setup.{Setup}
use Rattle.setup.specs.Range.{checked}
use Rattle.marks.specs.Window.{none}
use Rattle.rules.specs.FirstPlace.{nowhere}
use Rattle.counters.specs.declared.Counters.{Counters}
use Rattle.counters.specs.Counting.{no_counts, reset_counted}
use Rattle.recovery.specs.declared.State.{State}
use Rattle.recovery.specs.declared.Stepped.{Stepped}
use Rattle.recovery.specs.Soundness.{step_of}

-- "newest 65,535, marks clear, take-any, ticks 0", and no first place: "a reset starts that anew"; the counters and the base are given
abbrev pub cleared : Setup → Counters → ℕ → State
cleared setup counters base =
    record {
      setup = setup;
      newest = 65535;
      marks = none;
      first = nowhere;
      take_any = true;
      left = record { 0 = 0 };
      counters = counters;
      base = base;
    }

-- "Fresh: .. base 0, counters 0": "a fresh state counts no reset"
unfoldable pub fresh_state : Setup → State
fresh_state setup = cleared setup no_counts 0

-- "A setup is checked .. wherever it is handed in by itself": a fresh state from a setup
unfoldable pub begun_from : Setup → Result State Refusal
begun_from setup = answered (checked setup) (fresh_state setup)

-- "A reset gives the same but keeps counters, base and setup, and adds 1 to resets"
unfoldable pub reset_state : State → State
reset_state s = cleared s.setup (reset_counted s.counters) s.base

-- the call `reset`
unfoldable pub reset_of : State → Stepped Unit
reset_of s = step_of s (record { answer = Ok tt; state = reset_state s })

-- the promises: of `State::fresh`
abbrev pub Begins : Setup → Result State Refusal → Type 0
Begins setup r = r ≡ begun_from setup

-- of `State::reset`
abbrev pub Resets : State → Stepped Unit → Type 0
Resets s r = r ≡ reset_of s
