-- The timer: when a packet restarts it, and the tick (document 01, "Numbering and recovery", and CR 2). Assumes nothing.
use Rattle.std.specs.Prelude.{ℕ, ◌-◌, ◌≡◌, Bool, cond, ◌||◌, eqb, Ok}
use Rattle.setup.specs.declared.Setup.{Setup}
use Rattle.setup.specs.Range.{is_individual, full_of}
use Rattle.recovery.specs.declared.Left.{Left}
use Rattle.recovery.specs.declared.State.{State}
use Rattle.recovery.specs.declared.Stepped.{Stepped}
use Rattle.recovery.specs.declared.Ticked.{Ticked}
use Rattle.recovery.specs.declared.Ticked.TheVariants.{Tick, Reset}
use Rattle.recovery.specs.Soundness.{step_of}
use Rattle.recovery.specs.Resets.{reset_state}

-- "Only a passed packet sets ticks left to full ticks", and by CR 2 "In individual use a discarded packet also restarts the timer; in
-- sequence use nothing changes"
unfoldable pub restarted : Bool → Setup → Left → Left
restarted passes setup left = cond (passes || is_individual setup) (record { 0 = (full_of setup).0 }) left

-- the state with other ticks left
abbrev pub with_left : ℕ → State → State
with_left left s =
    record {
      setup = s.setup;
      newest = s.newest;
      marks = s.marks;
      first = s.first;
      take_any = s.take_any;
      left = record { 0 = left };
      counters = s.counters;
      base = s.base;
    }

-- "Tick: 0 stays 0; from 1 it becomes 0 and a reset follows; else less 1"
unfoldable pub timed : State → Stepped Ticked
timed s =
    cond (eqb s.left.0 0)
    (record { answer = Ok Tick; state = s })
    (cond (eqb s.left.0 1)
    (record { answer = Ok Reset; state = reset_state (with_left 0 s) })
    (record { answer = Ok Tick; state = with_left (s.left.0 - 1) s }))

-- the call `tick`
unfoldable pub tick_of : State → Stepped Ticked
tick_of s = step_of s (timed s)

-- the promises: of `State::tick`
abbrev pub Times : State → Stepped Ticked → Type 0
Times s r = r ≡ tick_of s

-- of `Left::count`
abbrev pub Remain : Left → ℕ → Type 0
Remain left r = r ≡ left.0
