-- One turn of the bench (document 01, "The bench tape"): the event at a place of the tape, or its end. What an event does is said by the
-- calls of `recovery`, as `calls` answers them. Assumes nothing.
use Rattle.std.specs.Prelude.{ℕ, ◌+◌, ◌≡◌, Bool, cond, List, length, get_or, ltb, eqb, Option, Some, None, is_some, Result, Ok, Err}
use Rattle.octets.specs.declared.Refusal.{Refusal}
use Rattle.octets.specs.declared.Refusal.TheVariants.{SetupMisplaced}
use Rattle.octets.specs.Number.{be16, be32}
use Rattle.octets.specs.Checks.{Verdict, good, refuse, verdict}
use Rattle.setup.specs.declared.Setup.{Setup}
use Rattle.setup.specs.Values.{setup_of}
use Rattle.recovery.specs.declared.State.{State}
use Rattle.recovery.specs.declared.Stepped.{Stepped}
use Rattle.recovery.specs.declared.Packet.TheVariants.{Numbered, Tagless}
use Rattle.recovery.specs.Resets.{begun_from}
use Rattle.calls.specs.declared.Call.{Call}
use Rattle.calls.specs.declared.Call.TheVariants as call
use Rattle.answers.specs.declared.Answer.{Answer}
use Rattle.answers.specs.declared.Answer.TheVariants as answer
use Rattle.calls.specs.Answering.{answered}
use Rattle.lines.specs.declared.Line.{Line}
use Rattle.lines.specs.declared.Line.TheVariants as line
use Rattle.events.specs.Event.{checks}
use Rattle.turns.specs.declared.Outcome.{Outcome}
use Rattle.turns.specs.declared.Outcome.TheVariants.{Next, End}

-- "(rule 1, taken 1, H 2, ms 4, ticks 2, paths 1, difference 4)", and by CR 2 a use in "one octet after taken", behind the kind at a place
unfoldable pub setup_at : List ℕ → ℕ → Setup
setup_at tape at =
    setup_of
    (get_or tape (at + 1) 0)
    (get_or tape (at + 2) 0)
    (get_or tape (at + 3) 0)
    (be16 tape (at + 4))
    (be32 tape (at + 6))
    (be16 tape (at + 10))
    (get_or tape (at + 12) 0)
    (be32 tape (at + 13))

-- "01 numbered packet .. ; 02 no number .. ; 03 tick .. ; 04 reset .. ; 05 latent reset .. ; 06 latent test": the call of an event that is
-- no setup, by the kind at a place
unfoldable pub call_at : List ℕ → ℕ → Call
call_at tape at =
    let kind = get_or tape at 0 in
    cond (eqb kind 1) (call.Packet (Numbered (be16 tape (at + 1))))
    (cond (eqb kind 2) (call.Packet Tagless)
    (cond (eqb kind 3) call.Tick
    (cond (eqb kind 4) call.Reset
    (cond (eqb kind 5) call.LatentReset call.LatentTest))))

-- "Event lines: `ok` for setup, `pass` or `discard`, `tick`, `reset` (04, and a tick that timed out), `latent reset`, `latent ok` or
-- `latent error`"
abbrev pub line_of : Answer → Line
line_of answer.Pass = line.Pass
line_of answer.Discard = line.Discard
line_of answer.Tick = line.Tick
line_of answer.Timeout = line.Reset
line_of answer.Reset = line.Reset
line_of answer.LatentReset = line.LatentReset
line_of answer.Agrees = line.LatentOk
line_of answer.Error = line.LatentError

-- the line of an answer, with the next state; what a call refuses is a fault: "A fault prints `fault N` and ends the output"
abbrev pub with : Result Answer Refusal → State → Result Outcome Refusal
with (Ok answer) s = Ok (Next (line_of answer) s)
with (Err refusal) s = Err refusal

-- what a call answered
abbrev pub told : Stepped Answer → Result Outcome Refusal
told step = with step.answer step.state

-- an event that is no setup
unfoldable pub runs : List ℕ → ℕ → State → Result Outcome Refusal
runs tape at s = told (answered s (call_at tape at))

-- `ok` for setup; a setup out of range is a fault
abbrev pub begun : Result State Refusal → Result Outcome Refusal
begun (Ok s) = Ok (Next line.Ok s)
begun (Err refusal) = Err refusal

-- the setup at a place
unfoldable pub begins : List ℕ → ℕ → Result Outcome Refusal
begins tape at = begun (begun_from (setup_at tape at))

-- whether the setup came: the bench has a state from there on
abbrev pub is_set_up : Option State → Bool
is_set_up bench = is_some bench

-- the event in its turn
abbrev pub in_turn : List ℕ → ℕ → Option State → Result Outcome Refusal
in_turn tape at None = begins tape at
in_turn tape at (Some s) = runs tape at s

-- a refusal is a fault
abbrev pub decided : Verdict → Result Outcome Refusal → Result Outcome Refusal
decided good outcome = outcome
decided (refuse refusal) outcome = Err refusal

-- "Per event: 23, 24, 25, then 15, 27, 16 to 19": its checks, and then the event in its turn, which checks a setup
unfoldable pub event_at : List ℕ → ℕ → Option State → Result Outcome Refusal
event_at tape at bench = decided (verdict (checks tape at (is_set_up bench))) (in_turn tape at bench)

-- the end of the tape: the counters; "Empty tape: 25"
abbrev pub at_end : Option State → Result Outcome Refusal
at_end None = Err SetupMisplaced
at_end (Some s) = Ok (End s.counters)

-- what stands at a place: an event, or the end
unfoldable pub outcome_at : List ℕ → ℕ → Option State → Result Outcome Refusal
outcome_at tape at bench = cond (ltb at (length tape)) (event_at tape at bench) (at_end bench)

-- the promise of `take_turn`
abbrev pub Turns : List ℕ → ℕ → Option State → Result Outcome Refusal → Type 0
Turns tape at bench r = r ≡ outcome_at tape at bench
