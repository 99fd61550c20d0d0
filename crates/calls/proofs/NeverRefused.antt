-- A caller that only hands back what it was given is never refused (`specs/Caller`). Assumes nothing.
use Rattle.std.specs.Prelude.{None, Result, Ok, Err}
use Rattle.std.specs.Result.{result_err, result_map_both}
use mathlib.Core.Path.{◌≡◌, refl, sym}
use mathlib.Core.Bool.{true}
use lib.Dec.{eqb}
use mathlib.Core.List.{List, [], ◌∷◌, map}
use Rattle.octets.specs.declared.Refusal.{Refusal}
use Rattle.octets.proofs.Bools.{either}
use Rattle.recovery.specs.declared.State.{State}
use Rattle.recovery.specs.declared.Stepped.{Stepped}
use Rattle.recovery.specs.declared.Packet.{Packet}
use Rattle.recovery.specs.declared.Packet.TheVariants.{Numbered, Tagless}
use Rattle.recovery.specs.declared.Ticked.{Ticked}
use Rattle.recovery.specs.Soundness.{sound}
use Rattle.recovery.specs.Timer.{timed}
use Rattle.recovery.specs.Packets.{heard, settled}
use Rattle.recovery.proofs.SoundLaws.{sound_says}
use Rattle.recovery.proofs.SoundCalls.{packet_answers, tick_answers, reset_answers, latent_reset_answers, latent_test_answers}
use Rattle.recovery.proofs.SoundKept.{heard_sound, timed_sound, reset_sound, rebased_sound}
use Rattle.recovery.proofs.FreshSound.{begun_sound}
use Rattle.answers.specs.declared.Answer.{Answer}
use Rattle.answers.specs.declared.Answer.TheVariants as answer
use Rattle.calls.specs.declared.Call.{Call}
use Rattle.calls.specs.declared.Call.TheVariants as call
use Rattle.calls.specs.Answering.{of_verdict, of_ticked, of_change, as_answer}
use Rattle.calls.specs.Caller.{refusal_in, refusal, after, refusals, SoundKept, NeverRefused}

-- an answer that is no refusal is none as one of the common kind
none_in : {A : Type 0} (kind : A → Answer) (r : Result A Refusal) → result_err r ≡ None
    → refusal_in (result_map_both kind (λ (e : Refusal). e) r) ≡ None
none_in kind (Ok a) e = refl
none_in kind (Err r) e = cc

-- so with a step that answers and leaves a sound state
kept : {A : Type 0} (kind : A → Answer) {r step : Stepped A} → r ≡ step → result_err step.answer ≡ None → sound step.state ≡ true
    → (refusal_in (as_answer kind r).answer ≡ None) × (sound (as_answer kind r).state ≡ true)
kept kind {step = step} e none ok = rw e (none_in kind step.answer none, ok)

heard_is : (s : State) (p : Packet) → result_err (heard s p).answer ≡ None
unfolding heard settled
heard_is s (Numbered n) = refl
heard_is s Tagless = refl

timed_is : (s : State) → result_err (timed s).answer ≡ None
unfolding timed
timed_is s = either none (eqb s.left.0 0) (λ _. refl) (λ _. either none (eqb s.left.0 1) (λ _. refl) (λ _. refl))
  where
    none : Stepped Ticked → Type 0
    none r = result_err r.answer ≡ None

pub sound_kept : SoundKept
unfolding refusal after
sound_kept s ok (call.Packet p) = kept of_verdict (packet_answers s ok p) (heard_is s p) (heard_sound s (sound_says s ok) p)
sound_kept s ok call.Tick = kept of_ticked (tick_answers s ok) (timed_is s) (timed_sound s (sound_says s ok))
sound_kept s ok call.Reset = kept (of_change answer.Reset) (reset_answers s ok) refl (reset_sound s (sound_says s ok))
sound_kept s ok call.LatentReset =
    kept (of_change answer.LatentReset) (latent_reset_answers s ok) refl (rebased_sound s (sound_says s ok))
sound_kept s ok call.LatentTest = (rw (latent_test_answers s ok), ok)

-- any list of calls
sound_never_refused : (s : State) → sound s ≡ true → (calls : List Call) → refusals s calls ≡ map (λ (c : Call). None) calls
unfolding refusals
sound_never_refused s ok [] = refl
sound_never_refused s ok (c ∷ calls) =
    let one = sound_kept s ok c in
    rw (one.0, sound_never_refused (after s c) one.1 calls)

pub never_refused : NeverRefused
never_refused setup s e calls = sound_never_refused s (begun_sound setup s (sym e)) calls
