-- A state that is not sound is refused by 14, and comes back as it was, which `specs/Caller` claims. Assumes nothing.
use Rattle.std.specs.Prelude.{Err}
use mathlib.Core.Path.{◌≡◌, ap}
use mathlib.Core.Bool.{false}
use Rattle.octets.specs.declared.Refusal.TheVariants.{Unsound}
use Rattle.recovery.specs.declared.State.{State}
use Rattle.recovery.specs.declared.Stepped.{Stepped}
use Rattle.recovery.specs.Soundness.{sound}
use Rattle.recovery.specs.Resets.{reset_of}
use Rattle.recovery.specs.Packets.{packet_of}
use Rattle.recovery.specs.Timer.{tick_of}
use Rattle.recovery.specs.LatentErrors.{latent_reset_of, latent_test_of}
use Rattle.answers.specs.declared.Answer.{Answer}
use Rattle.calls.specs.declared.Call.{Call}
use Rattle.calls.specs.declared.Call.TheVariants.{Packet, Tick, Reset, LatentReset, LatentTest}
use Rattle.calls.specs.Answering.{answered}
use Rattle.calls.specs.Caller.{UnsoundStays}

pub unsound_answered : (s : State) → sound s ≡ false → (call : Call) → answered s call ≡ record { answer = Err Unsound; state = s }
unfolding packet_of tick_of reset_of latent_reset_of latent_test_of
unsound_answered s unsound (Packet p) = rw unsound
unsound_answered s unsound Tick = rw unsound
unsound_answered s unsound Reset = rw unsound
unsound_answered s unsound LatentReset = rw unsound
unsound_answered s unsound LatentTest = rw unsound

pub unsound_stays : UnsoundStays
unsound_stays s unsound call = ap (λ (r : Stepped Answer). r.state) (unsound_answered s unsound call)
