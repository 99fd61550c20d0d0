-- Which states are sound (document 01, "Numbering and recovery", and CR 7). Assumes nothing.
use Rattle.std.specs.Prelude.{◌-◌, ◌≡◌, Bool, cond, not, ◌&&◌, ◌||◌, leb, eqb, Err}
use Rattle.octets.specs.declared.Refusal.TheVariants.{Unsound}
use Rattle.setup.specs.declared.Setup.{Setup}
use Rattle.setup.specs.Range.{in_range, is_vector, full_of}
use Rattle.marks.specs.declared.Marks.{Marks}
use Rattle.marks.specs.Window.{mark, clear_from}
use Rattle.rules.specs.declared.First.{First}
use Rattle.recovery.specs.declared.State.{State}
use Rattle.recovery.specs.declared.Stepped.{Stepped}

-- "take-any means newest 65,535 and no mark; otherwise ticks left are 1 or more, and mark 0 is set under vector"
unfoldable pub awaits : State → Bool
awaits s =
    cond s.take_any
    (eqb s.newest 65535 && clear_from 0 s.marks)
    (leb 1 s.left.0 && (not (is_vector s.setup) || eqb (mark 0 s.marks) 1))

-- "Sound state: setup in range; marks at H and above clear"; what take-any means; "match has no mark; ticks left never above full ticks".
-- "All else answers 14", a setup out of range with it: "inside a state a bad one is 14"
unfoldable pub parts_agree : State → Bool
parts_agree s =
    in_range s.setup
    && clear_from s.setup.history s.marks
    && awaits s
    && (is_vector s.setup || clear_from 0 s.marks)
    && leb s.left.0 (full_of s.setup).0

-- CR 7: "14 follows: a first place kept as still in the window has its mark set, and take-any and match keep none". To be in the window is
-- to be one of its H places
unfoldable pub keeps_first : Setup → Marks → Bool → First → Bool
keeps_first setup marks take_any first =
    eqb first.0 0 || (not take_any && is_vector setup && leb first.0 setup.history && eqb (mark (first.0 - 1) marks) 1)

-- a sound state is both
unfoldable pub sound : State → Bool
sound s = parts_agree s && keeps_first s.setup s.marks s.take_any s.first

-- a step of a call: "state not sound" is 14, and then "state and buffers keep their values"
abbrev pub step_of : {A : Type 0} → State → Stepped A → Stepped A
step_of s step = cond (sound s) step (record { answer = Err Unsound; state = s })

-- the promise of `State::is_sound`
abbrev pub TellsSound : State → Bool → Type 0
TellsSound s r = r ≡ sound s
