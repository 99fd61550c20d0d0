-- A state from its numbers (document 01, "Numbering and recovery", and CR 7). Assumes nothing.
use Rattle.std.specs.Prelude.{ℕ, ◌≡◌, Bool}
use Rattle.setup.specs.declared.Setup.{Setup}
use Rattle.marks.specs.declared.Marks.{Marks}
use Rattle.rules.specs.declared.First.{First}
use Rattle.counters.specs.declared.Counters.{Counters}
use Rattle.recovery.specs.declared.State.{State}

-- "State: setup, newest number, H marks .., take-any, ticks left, eight 64-bit counters .. and a latent base", with CR 7's ninth counter
-- and, behind the marks, what it keeps of the first packet's place
abbrev pub stored_state : (setup : Setup) (newest : ℕ) (marks : Marks) (first : First) (take_any : Bool) (left : ℕ) (counters : Counters)
    (base : ℕ) → State
stored_state setup newest marks first take_any left counters base =
    record {
      setup = setup;
      newest = newest;
      marks = marks;
      first = first;
      take_any = take_any;
      left = record { 0 = left };
      counters = counters;
      base = base;
    }

-- the promise of `State::stored`
abbrev pub Stores : (setup : Setup) (newest : ℕ) (marks : Marks) (first : First) (take_any : Bool) (left : ℕ) (counters : Counters)
    (base : ℕ) → State → Type 0
Stores setup newest marks first take_any left counters base r = r ≡ stored_state setup newest marks first take_any left counters base
