-- No call changes the setup of a state. Assumes nothing.
use Rattle.std.specs.Prelude.{Ok}
use mathlib.Core.Path.{◌≡◌, refl}
use lib.Dec.{eqb}
use Rattle.octets.proofs.Bools.{either}
use Rattle.recovery.specs.declared.State.{State}
use Rattle.recovery.specs.declared.Stepped.{Stepped}
use Rattle.recovery.specs.declared.Packet.TheVariants.{Numbered, Tagless}
use Rattle.recovery.specs.Soundness.{sound, step_of}
use Rattle.recovery.specs.Resets.{reset_state, reset_of}
use Rattle.recovery.specs.Timer.{timed, tick_of}
use Rattle.recovery.specs.Packets.{settled, heard, packet_of}
use Rattle.recovery.specs.LatentErrors.{rebased, latent_reset_of}
use Rattle.calls.specs.declared.Call.{Call}
use Rattle.calls.specs.declared.Call.TheVariants as call
use Rattle.calls.specs.Answering.{answered}

abbrev kept : {A : Type 0} → State → Stepped A → Type 0
kept s step = step.state.setup ≡ s.setup

-- a step that is refused leaves the state
step_kept : {A : Type 0} (s : State) (step : Stepped A) → kept s step → kept s (step_of s step)
step_kept s step e = either (kept s) (sound s) (λ _. e) (λ _. refl)

timed_kept : (s : State) → kept s (timed s)
unfolding timed reset_state
timed_kept s = either (kept s) (eqb s.left.0 0) (λ _. refl) (λ _. either (kept s) (eqb s.left.0 1) (λ _. refl) (λ _. refl))

pub setup_stays : (s : State) (c : Call) → (answered s c).state.setup ≡ s.setup
unfolding packet_of heard settled tick_of reset_of reset_state latent_reset_of rebased
setup_stays s (call.Packet (Numbered n)) = step_kept s (heard s (Numbered n)) refl
setup_stays s (call.Packet Tagless) = step_kept s (heard s Tagless) refl
setup_stays s call.Tick = step_kept s (timed s) (timed_kept s)
setup_stays s call.Reset = step_kept s (record { answer = Ok (tt {0}); state = reset_state s }) refl
setup_stays s call.LatentReset = step_kept s (record { answer = Ok (tt {0}); state = rebased s }) refl
setup_stays s call.LatentTest = refl
