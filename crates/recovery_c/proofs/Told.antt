-- From the promises of the rooms below to those of the calls for C. Assumes nothing.
use Rattle.std.specs.Prelude.{Ok, Err}
use Prim.Native.Nat.{ℕ, ◌≤◌}
use mathlib.Core.Path.{◌≡◌, refl, sym, ap, ◌∙◌}
use mathlib.Core.Bool.{Bool, true, false, cond, not}
use mathlib.Core.List.{List, [], ◌∷◌}
use Rattle.octets.specs.declared.Refusal.{Refusal}
use Rattle.octets.specs.declared.Refusal.TheVariants.{OutputShort, Unsound}
use Rattle.octets.specs.Refusals.{number}
use Rattle.octets.specs.Checks.{◌⇒◌, Verdict, good, refuse, verdict, ◌then◌, answered as by_verdict}
use Rattle.octets.specs.Copy.{fits, output_by}
use Rattle.octets.proofs.Bools.{either}
use Rattle.octets.proofs.Order.{verdict_append, first_check}
use Rattle.octets.proofs.Parts.{put_first}
use Rattle.setup.specs.declared.Setup.{Setup}
use Rattle.setup.specs.Range.{checked}
use Rattle.recovery.specs.declared.State.{State}
use Rattle.recovery.specs.declared.Stepped.{Stepped}
use Rattle.recovery.specs.Soundness.{sound}
use Rattle.recovery.specs.Resets.{fresh_state, begun_from}
use Rattle.answers.specs.declared.Answer.{Answer}
use Rattle.answers.specs.Numbers.{code_of}
use Rattle.calls.specs.declared.Call.{Call}
use Rattle.calls.specs.Answering.{answered, Answers}
use Rattle.calls.specs.Caller.{after}
use Rattle.calls.proofs.UnsoundStays.{unsound_answered}
use Rattle.calls.proofs.NeverRefused.{sound_kept}
use Rattle.calls.proofs.SetupStays.{setup_stays}
use Rattle.states.specs.Fields.{held, marks_in, state_of, words_of, Keeps, KeepsShort}
use Rattle.states.proofs.ReadLaws.{Short}
use Rattle.states.proofs.ShortLaws.{past, short_has_none, known, same_short}
use Rattle.states.proofs.SameWords.{room}
use Rattle.recovery_c.specs.Recoveries.{begin_checks, StepsTo}
use Rattle.recovery_c.proofs.Kept.{kept}

-- what a call on the state that the words hold comes to
module _ (w : List ℕ) (call : Call) where
  -- where none is held, or one that is not sound
  module _ (unsound : held w ≡ true → sound (state_of w) ≡ false) {r : ℕ} (e : r ≡ number Unsound) where
    pub unfit_answer : r ≡ cond (held w) (code_of (answered (state_of w) call).answer) (number Unsound)
    unfit_answer =
        e
        ∙ either (λ (n : ℕ). number Unsound ≡ n) (held w) (λ here. rw (unsound_answered (state_of w) (unsound here) call)) (λ _. refl)

    pub unfit_told : StepsTo call w r w
    unfit_told = record { answer = unfit_answer; words = sym (kept w call unsound) }

  -- where one is held
  module _ {s : State} {step : Stepped Answer} {r : ℕ} (here : held w ≡ true) (is : s ≡ state_of w) (a : Answers s call step)
      (e : r ≡ code_of step.answer) where
    there : step ≡ answered (state_of w) call
    there = a ∙ ap (λ (t : State). answered t call) is

    pub answer_told : r ≡ cond (held w) (code_of (answered (state_of w) call).answer) (number Unsound)
    answer_told = e ∙ rw (here, there)

    pub step_told : {kept : Bool} {later : List ℕ} → Keeps step.state w kept later → StepsTo call w r later
    step_told k = record { answer = answer_told; words = put_first (room w here step.state) k ∙ rw (here, there) }

-- where a short one is held, and sound, the next one is short too: all its words are put where those of the marks past the first stay
module _ (w : List ℕ) (call : Call) {s : State} {step : Stepped Answer} {r : ℕ} (p : Short w s) (ok : sound s ≡ true)
    (a : Answers s call step) (e : r ≡ code_of step.answer) where
  nothing_past : past (marks_in w) ≡ past step.state.marks
  unfolding state_of after
  nothing_past =
      let few : s.setup.history ≤ 64 = rw p.is p.history in
      let next = (sound_kept s ok call).1 in
      known w p.clear ∙ sym (rw a (short_has_none (answered s call).state next (rw (setup_stays s call) few)))

  pub short_told : {kept : Bool} {later : List ℕ} → KeepsShort step.state w kept later → StepsTo call w r later
  short_told k = step_told w call p.here p.is a e (rw (same_short w step.state nothing_past) at k)

-- what a fresh state's setup, and the words lent for it, come to
had : (v : Verdict) (t : State) {s : State} → Ok s ≡ by_verdict v t → (v ≡ good) × (s ≡ t)
had good t e = (refl, cc)
had (refuse r) t e = cc

had_none : (v : Verdict) (t : State) {r : Refusal} → Err r ≡ by_verdict v t → v ≡ refuse r
had_none good t e = cc
had_none (refuse n) t e = ap refuse cc

module _ (setup : Setup) (w : List ℕ) where
  pub setup_refused : {r : Refusal} → Err r ≡ begun_from setup → verdict (begin_checks setup w) ≡ refuse r
  unfolding begun_from checked begin_checks ◌then◌
  setup_refused e = simp (verdict_append, had_none (checked setup) (fresh_state setup) e)

  module _ {s : State} (e : Ok s ≡ begun_from setup) where
    setup_met : verdict (begin_checks setup w) ≡ verdict (not (fits (words_of (fresh_state setup)) w) ⇒ OutputShort ∷ [])
    unfolding begun_from checked begin_checks ◌then◌
    setup_met = simp (verdict_append, (had (checked setup) (fresh_state setup) e).0)

    module _ {kept : Bool} {later : List ℕ} (k : Keeps s w kept later) where
      fit_is : kept ≡ fits (words_of (fresh_state setup)) w
      unfolding begun_from
      fit_is = rw (had (checked setup) (fresh_state setup) e).1 at k.answer

      pub fresh_kept : kept ≡ true → verdict (begin_checks setup w) ≡ good
      unfolding verdict
      fresh_kept fit = setup_met ∙ rw (sym fit_is ∙ fit)

      pub fresh_short : kept ≡ false → verdict (begin_checks setup w) ≡ refuse OutputShort
      unfolding verdict
      fresh_short short = setup_met ∙ rw (sym fit_is ∙ short)

      pub fresh_words : later ≡ output_by (verdict (begin_checks setup w)) (words_of (fresh_state setup)) w
      unfolding begun_from verdict
      fresh_words =
          k.buffer
          ∙ rw ((had (checked setup) (fresh_state setup) e).1, setup_met)
          (sym (first_check (λ v. output_by v (words_of (fresh_state setup)) w) (fits (words_of (fresh_state setup)) w) OutputShort []))
