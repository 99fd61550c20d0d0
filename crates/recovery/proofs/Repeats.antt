-- The repeats of a stuck sender are discarded in individual use (`specs/Repeats`): each leaves full ticks, so that fewer than these bring
-- no reset, and a number that was heard just before does not pass. Assumes nothing.
use Prim.Native.Nat.{ℕ, ◌+◌, ◌<◌}
use Rattle.std.specs.Prelude.{Ok}
use mathlib.Core.Path.{◌≡◌, ap}
use mathlib.Core.Bool.{Bool, true, false, cond, or-true}
use native.Mathlib.Omega.{arith}
use Rattle.setup.specs.declared.Setup.{Setup}
use Rattle.setup.specs.Range.{is_vector, is_individual, full_of}
use Rattle.recovery.specs.declared.Left.{Left}
use Rattle.recovery.specs.declared.State.{State}
use Rattle.recovery.specs.declared.Packet.TheVariants.{Numbered}
use Rattle.recovery.specs.declared.Verdict.TheVariants.{Pass, Discard}
use Rattle.recovery.specs.Soundness.{sound}
use Rattle.recovery.specs.Packets.{numbered, settled, heard, packet_of}
use Rattle.recovery.specs.Timer.{restarted, tick_of}
use Rattle.recovery.specs.Repeats.{Repeats, begins, ticks, repeats, RepeatsDiscarded}
use Rattle.rules.proofs.Again.{again_discarded}
use Rattle.recovery.proofs.SoundLaws.{Sound, sound_says}
use Rattle.recovery.proofs.SoundCalls.{packet_answers, tick_answers}
use Rattle.recovery.proofs.SoundKept.{history_low, history_high, heard_sound, timed_sound}
use Rattle.recovery.proofs.SpanCalls.{quiet_tick}

-- what the state keeps between two repeats
record Stuck (number silence : ℕ) (s : State) : Type 0 where
  still_sound : sound s ≡ true
  individual : is_individual s.setup ≡ true
  discarded : (numbered s number).passes ≡ false
  to_go : s.left.0 + silence ≡ (full_of s.setup).0

-- "In individual use a discarded packet also restarts the timer"
restarts : (passes : Bool) (setup : Setup) (left : Left) → is_individual setup ≡ true → (restarted passes setup left).0 ≡ (full_of setup).0
unfolding restarted
restarts passes setup left individual = rw (individual, or-true)

module _ (number : ℕ) (s : State) (fine : sound s ≡ true) (individual : is_individual s.setup ≡ true) where
  hearing_stuck : Stuck number 0 (packet_of s (Numbered number)).state
  unfolding heard settled numbered
  hearing_stuck =
      let ok : Sound s = sound_says s fine in
      let h = s.setup.history in
      rw (packet_answers s fine (Numbered number))
      (record {
        still_sound = heard_sound s ok (Numbered number);
        individual = individual;
        discarded =
            again_discarded h (history_low s ok) (history_high s ok) number (is_vector s.setup) s.take_any s.newest s.marks;
        to_go = omega (arith, restarts (numbered s number).passes s.setup s.left individual);
      })

tick_stuck : (number silence : ℕ) (s : State) → Stuck number silence s → silence + 1 < (full_of s.setup).0
    → Stuck number (silence + 1) (tick_of s).state
unfolding numbered
tick_stuck number silence s k few =
    let more : s.left.0 ≡ 1 → ⊥ = λ one. omega (arith, k.to_go, few) in
    let quiet = quiet_tick s k.still_sound more in
    let sound-after = rw (← tick_answers s k.still_sound, quiet) at (timed_sound s (sound_says s k.still_sound)) in
    rw quiet
    (record {
      still_sound = sound-after;
      individual = k.individual;
      discarded = k.discarded;
      to_go = omega (arith, k.to_go, few);
    })

stuck : (number silence : ℕ) (s : State) → Repeats number silence s → Stuck number silence s
stuck number silence s (begins t fine individual e) = rw e (hearing_stuck number t fine individual)
stuck number silence s (ticks {silence = n} {s = t} before few e) = rw e (tick_stuck number n t (stuck number n t before) few)
stuck number silence s (repeats {silence = n} {s = t} before e) =
    let k = stuck number n t before in rw e (hearing_stuck number t k.still_sound k.individual)

pub repeats_discarded : RepeatsDiscarded
unfolding heard settled
repeats_discarded number silence s r before e =
    let k = stuck number silence s before in
    rw (e, packet_answers s k.still_sound (Numbered number)) (ap (λ (t : Bool). Ok (cond t Pass Discard)) k.discarded)
