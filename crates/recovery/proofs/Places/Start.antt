-- A fresh state, and the state that a reset or a timeout leaves: sound, and any number is taken. Assumes nothing.
use Rattle.std.specs.Prelude.{Ok}
use mathlib.Core.Path.{◌≡◌, refl, sym, ap, ◌∙◌}
use mathlib.Core.Bool.{true}
use Prim.Native.Nat.{ℕ}
use native.Mathlib.Decide.{ℕ_discrete}
use Rattle.setup.specs.declared.Setup.{Setup}
use Rattle.counters.specs.declared.Counters.{Counters}
use Rattle.counters.specs.Counting.{no_counts}
use Rattle.recovery.specs.declared.State.{State}
use Rattle.octets.proofs.Bools.{either}
use Rattle.recovery.specs.declared.Stepped.{Stepped}
use Rattle.recovery.specs.declared.Ticked.{Ticked}
use Rattle.recovery.specs.declared.Ticked.TheVariants.{Tick, Reset}
use Rattle.setup.specs.Range.{in_range}
use Rattle.setup.proofs.InRange.{had_in_range}
use Rattle.recovery.specs.Resets.{cleared, fresh_state, reset_state, begun_from, reset_of, Begins, Resets}
use Rattle.recovery.specs.Soundness.{sound}
use Rattle.recovery.specs.Timer.{tick_of, Times}
use Rattle.recovery.specs.Spans.{Starts, fresh, reset, timeout}
use Rattle.recovery.proofs.SoundLaws.{sound_says}
use Rattle.recovery.proofs.SoundCalls.{tick_answers}
use Rattle.recovery.proofs.SpanCalls.{quiet_tick, timeout_tick}
use Rattle.recovery.proofs.SoundKept.{cleared_sound}

abbrev pub Ready_to_take : State → Type 0
Ready_to_take s = (sound s ≡ true) × (s.take_any ≡ true)

cleared_ready : (setup : Setup) (counters : Counters) (base : ℕ) → in_range setup ≡ true → Ready_to_take (cleared setup counters base)
cleared_ready setup counters base fine = (cleared_sound setup counters base fine, refl)

-- what a setup begins with
begun_ready : (setup : Setup) (s : State) → Begins setup (Ok s) → Ready_to_take s
unfolding begun_from fresh_state
begun_ready setup s e =
    let had = had_in_range setup (sym e) in
    rw had.1 (cleared_ready setup no_counts 0 had.0)

-- a reset that was done
reset_ready : (s : State) (r : Stepped Unit) → Resets s r → r.answer ≡ Ok tt → Ready_to_take r.state
unfolding reset_of reset_state
reset_ready s r =
    either (λ (x : Stepped Unit). r ≡ x → r.answer ≡ Ok tt → Ready_to_take r.state) (sound s)
    (λ ok e _. rw e (cleared_ready s.setup _ _ (sound_says s ok).in_range))
    (λ _ e done. cc)

-- a tick that was a reset: of a sound state, with one tick left
timeout_ready : (s : State) (r : Stepped Ticked) → Times s r → r.answer ≡ Ok Reset → Ready_to_take r.state
unfolding tick_of reset_state
timeout_ready s r =
    either (λ (x : Stepped Ticked). r ≡ x → r.answer ≡ Ok Reset → Ready_to_take r.state) (sound s)
    (λ ok e done. by ok (e ∙ sym (tick_answers s ok)) done (ℕ_discrete s.left.0 1))
    (λ _ e done. cc)
  where
    by : sound s ≡ true → Times s r → r.answer ≡ Ok Reset → Dec (s.left.0 ≡ 1) → Ready_to_take r.state
    by ok e done (yes one) = rw (e ∙ timeout_tick s ok one) (cleared_ready s.setup _ _ (sound_says s ok).in_range)
    by ok e done (no more) =
        let other : r.answer ≡ Ok Tick = ap (λ (x : Stepped Ticked). x.answer) (e ∙ quiet_tick s ok more) in
        cc

pub started : (s : State) → Starts s → Ready_to_take s
started s (fresh setup e) = begun_ready setup s e
started s (reset before {r} e done) = reset_ready before r e done
started s (timeout before {r} e done) = timeout_ready before r e done
