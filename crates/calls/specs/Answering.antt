-- What each call on a state answers, by the definitions of `recovery`, as an answer of one kind (document 01, "Numbering and recovery").
-- Assumes nothing.
use Rattle.std.specs.Prelude.{◌≡◌}
use Rattle.std.specs.Result.{result_map_both}
use Rattle.recovery.specs.declared.State.{State}
use Rattle.recovery.specs.declared.Stepped.{Stepped}
use Rattle.recovery.specs.declared.Verdict.{Verdict}
use Rattle.recovery.specs.declared.Verdict.TheVariants as verdict
use Rattle.recovery.specs.declared.Ticked.{Ticked}
use Rattle.recovery.specs.declared.Ticked.TheVariants as ticked
use Rattle.recovery.specs.declared.Latent.{Latent}
use Rattle.recovery.specs.declared.Latent.TheVariants as latent
use Rattle.recovery.specs.Resets.{reset_of}
use Rattle.recovery.specs.Timer.{tick_of}
use Rattle.recovery.specs.Packets.{packet_of}
use Rattle.recovery.specs.LatentErrors.{latent_reset_of, latent_test_of}
use Rattle.calls.specs.declared.Call.{Call}
use Rattle.calls.specs.declared.Call.TheVariants as call
use Rattle.answers.specs.declared.Answer.{Answer}
use Rattle.answers.specs.declared.Answer.TheVariants as answer

-- a packet passes or is discarded
abbrev pub of_verdict : Verdict → Answer
of_verdict verdict.Pass = answer.Pass
of_verdict verdict.Discard = answer.Discard

-- a tick, or one that timed out
abbrev pub of_ticked : Ticked → Answer
of_ticked ticked.Tick = answer.Tick
of_ticked ticked.Reset = answer.Timeout

-- what was done
abbrev pub of_change : Answer → Unit {0} → Answer
of_change done change = done

-- no latent error, or one
abbrev pub of_latent : Latent → Answer
of_latent latent.Agrees = answer.Agrees
of_latent latent.Error = answer.Error

-- a step, its answer as one of the common kind; a refusal is the same in each
abbrev pub as_answer : {A : Type 0} → (A → Answer) → Stepped A → Stepped Answer
as_answer kind step = record { answer = result_map_both kind (λ refusal. refusal) step.answer; state = step.state }

-- "each step takes the state and hands the next one back"; the latent test, where "no state changes", hands back the same
abbrev pub answered : State → Call → Stepped Answer
answered s (call.Packet p) = as_answer of_verdict (packet_of s p)
answered s call.Tick = as_answer of_ticked (tick_of s)
answered s call.Reset = as_answer (of_change answer.Reset) (reset_of s)
answered s call.LatentReset = as_answer (of_change answer.LatentReset) (latent_reset_of s)
answered s call.LatentTest = as_answer of_latent (record { answer = latent_test_of s; state = s })

-- the promise of `take`
abbrev pub Answers : State → Call → Stepped Answer → Type 0
Answers s call r = r ≡ answered s call
