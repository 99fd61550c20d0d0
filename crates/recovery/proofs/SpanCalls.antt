-- The ticks of a sound state, in the words that a statement about a span of calls needs. Assumes nothing.
use Prim.Native.Nat.{ℕ, ◌-◌}
use Rattle.std.specs.Prelude.{Ok}
use mathlib.Core.Path.{◌≡◌, ap, ◌∙◌}
use mathlib.Core.Bool.{true}
use lib.Dec.{eqb}
use borrow.Author.Tests.{eq-eqb, ne_eqb, eqb-true}
use native.Mathlib.Omega.{arith}
use Rattle.recovery.specs.declared.State.{State}
use Rattle.recovery.specs.declared.Stepped.{Stepped}
use Rattle.recovery.specs.declared.Ticked.{Ticked}
use Rattle.recovery.specs.declared.Ticked.TheVariants.{Tick, Reset}
use Rattle.recovery.specs.Soundness.{sound}
use Rattle.recovery.specs.Resets.{reset_state}
use Rattle.recovery.specs.Timer.{with_left, timed, tick_of}
use Rattle.octets.proofs.Bools.{either, choose_first, choose_second}
use Rattle.recovery.proofs.SoundCalls.{tick_answers}

module _ (s : State) (ok : sound s ≡ true) where
  -- a tick that does not time out changes nothing but ticks left
  pub quiet_tick : (s.left.0 ≡ 1 → ⊥) → tick_of s ≡ record { answer = Ok Tick; state = with_left (s.left.0 - 1) s }
  unfolding timed
  quiet_tick more =
      tick_answers s ok
      ∙ either (λ (r : Stepped Ticked). r ≡ left_at (s.left.0 - 1)) (eqb s.left.0 0)
      (λ none. let same : s.left.0 ≡ s.left.0 - 1 = omega (arith, eqb-true s.left.0 0 none) in ap left_at same)
      (λ _. choose_second _ _ (ne_eqb _ _ more))
    where
      left_at : ℕ → Stepped Ticked
      left_at left = record { answer = Ok Tick; state = with_left left s }

  -- a timeout is a reset
  pub timeout_tick : s.left.0 ≡ 1 → tick_of s ≡ record { answer = Ok Reset; state = reset_state s }
  unfolding timed reset_state
  timeout_tick one =
      let some : s.left.0 ≡ 0 → ⊥ = λ e. omega arith in
      tick_answers s ok ∙ choose_second _ _ (ne_eqb _ _ some) ∙ choose_first _ _ (eq-eqb _ _ one)
