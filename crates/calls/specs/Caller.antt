-- A caller that only hands back what it was given: a list of calls, each on the state that the last one returned. The claims about it are
-- `SoundKept`, `NeverRefused` (proofs/NeverRefused) and `UnsoundStays` (proofs/UnsoundStays). Assumes nothing.
use Rattle.std.specs.Prelude.{◌≡◌, true, false, List, [], ◌∷◌, map, Option, None, Result, Ok}
use Rattle.std.specs.Result.{result_err}
use Rattle.octets.specs.declared.Refusal.{Refusal}
use Rattle.setup.specs.declared.Setup.{Setup}
use Rattle.recovery.specs.declared.State.{State}
use Rattle.recovery.specs.Soundness.{sound}
use Rattle.recovery.specs.Resets.{Begins}
use Rattle.calls.specs.declared.Call.{Call}
use Rattle.answers.specs.declared.Answer.{Answer}
use Rattle.calls.specs.Answering.{answered}

-- the refusal in an answer, where there is one
abbrev pub refusal_in : Result Answer Refusal → Option Refusal
refusal_in answer = result_err answer

-- the refusal of a call on a state
unfoldable pub refusal : State → Call → Option Refusal
refusal s call = refusal_in (answered s call).answer

-- the state that a call hands back: "each step takes the state and hands the next one back"
unfoldable pub after : State → Call → State
after s call = (answered s call).state

-- the refusals of the calls, in turn
unfoldable pub refusals : State → List Call → List (Option Refusal)
refusals s [] = []
refusals s (call ∷ calls) = refusal s call ∷ refusals (after s call) calls

-- no call on a sound state is refused, and it hands a sound state back
abbrev pub SoundKept : Type 0
SoundKept = (s : State) → sound s ≡ true → (call : Call) → (refusal s call ≡ None) × (sound (after s call) ≡ true)

-- so from a fresh state on the caller never sees 14, nor any other refusal
abbrev pub NeverRefused : Type 0
NeverRefused =
    (setup : Setup) (s : State) → Begins setup (Ok s) → (calls : List Call) → refusals s calls ≡ map (λ (call : Call). None) calls

-- "state and buffers keep their values": a state that is not sound comes back as it was, whatever the call
abbrev pub UnsoundStays : Type 0
UnsoundStays = (s : State) → sound s ≡ false → (call : Call) → (answered s call).state ≡ s
