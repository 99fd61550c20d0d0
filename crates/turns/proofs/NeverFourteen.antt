-- No turn ends with fault 14 (`specs/NeverFourteen`): neither a check nor a call on a sound state has that number. Assumes nothing.
use Rattle.std.specs.Prelude.{Option, Some, None, Result, Ok, Err}
use Prim.Native.Nat.{ℕ}
use native.Mathlib.Omega.{arith}
use mathlib.Core.Path.{◌≡◌, refl, sym, ap, ◌∙◌}
use mathlib.Core.Bool.{Bool, true, false, not, ◌&&◌, false≢true}
use mathlib.Core.List.{List, [], ◌∷◌}
use lib.ListN.{length}
use lib.Dec.{ltb, eqb}
use borrow.Author.Tests.{eq-eqb}
use Rattle.octets.specs.declared.Refusal.{Refusal}
use Rattle.octets.specs.Refusals.{number}
use Rattle.octets.specs.Checks.{Check, ◌⇒◌, Verdict, good, refuse, verdict, refusal, answered as by_verdict}
use Rattle.octets.proofs.Bools.{either, both}
use Rattle.setup.specs.declared.Setup.{Setup}
use Rattle.setup.specs.Range.{setup_checks, checked}
use Rattle.recovery.specs.declared.State.{State}
use Rattle.recovery.specs.Resets.{fresh_state, begun_from}
use Rattle.recovery.specs.Soundness.{sound}
use Rattle.recovery.proofs.FreshSound.{fresh_sound}
use Rattle.answers.specs.declared.Answer.{Answer}
use Rattle.calls.specs.Answering.{answered}
use Rattle.calls.specs.Caller.{refusal_in, refusal as refused, after}
use Rattle.calls.proofs.NeverRefused.{sound_kept}
use Rattle.events.specs.Event.{checks}
use Rattle.turns.specs.declared.Outcome.{Outcome}
use Rattle.turns.specs.Turn.{setup_at, call_at, with, runs, begun, begins, is_set_up, decided, in_turn, event_at, at_end, outcome_at}
use Rattle.turns.specs.NeverFourteen.{Fine, waiting, runs_on, Kept, goes, faulty, ends, NeverFourteen}

-- an answer that is no refusal is a line
answer_kept : (a : Result Answer Refusal) (s : State) → refusal_in a ≡ None → sound s ≡ true → Kept (with a s)
answer_kept (Ok a) s e ok = goes ok
answer_kept (Err r) s e ok = cc

-- no call on a sound state is refused
runs_kept : (s : State) → sound s ≡ true → (tape : List ℕ) (at : ℕ) → Kept (runs tape at s)
unfolding runs refused after
runs_kept s ok tape at =
    let step = answered s (call_at tape at) in
    let taken = sound_kept s ok (call_at tape at) in
    answer_kept step.answer step.state taken.0 taken.1

-- none of the checks in a list has 14 for its number
unfoldable lacks : List Check → Bool
lacks [] = true
lacks ((b ⇒ r) ∷ rest) = not (eqb (number r) 14) && lacks rest

not_14 : (r : Refusal) → not (eqb (number r) 14) ≡ true → number r ≡ 14 → ⊥
not_14 r e is = false≢true (sym (ap not (eq-eqb (number r) 14 is)) ∙ e)

-- so 14 is never their answer
never : (checks : List Check) → lacks checks ≡ true → refusal (verdict checks) ≡ 14 → ⊥
unfolding verdict lacks
never [] e q = omega arith
never ((true ⇒ r) ∷ rest) e q = not_14 r (both (not (eqb (number r) 14)) (lacks rest) e).0 q
never ((false ⇒ r) ∷ rest) e q = never rest (both (not (eqb (number r) 14)) (lacks rest) e).1 q

decided_kept : (v : Verdict) (o : Result Outcome Refusal) → (refusal v ≡ 14 → ⊥) → Kept o → Kept (decided v o)
decided_kept good o other p = p
decided_kept (refuse r) o other p = faulty other

-- a setup's refusal is 15 to 19 or 27
setup_kept : (setup : Setup) → refusal (checked setup) ≡ 14 → ⊥
unfolding checked setup_checks lacks number
setup_kept setup = never (setup_checks setup) refl

fresh_kept : (v : Verdict) (s : State) → (refusal v ≡ 14 → ⊥) → (v ≡ good → sound s ≡ true) → Kept (begun (by_verdict v s))
fresh_kept good s other ok = goes (ok refl)
fresh_kept (refuse r) s other ok = faulty other

begun_kept : (setup : Setup) → Kept (begun (begun_from setup))
unfolding begun_from
begun_kept setup =
    fresh_kept (checked setup) (fresh_state setup) (setup_kept setup) (λ (met : checked setup ≡ good). fresh_sound setup (rw met))

turn_kept : (tape : List ℕ) (at : ℕ) (bench : Option State) → Fine bench → Kept (in_turn tape at bench)
unfolding begins
turn_kept tape at None waiting = begun_kept (setup_at tape at)
turn_kept tape at (Some s) (runs_on ok) = runs_kept s ok tape at

end_kept : (bench : Option State) → Kept (at_end bench)
unfolding number
end_kept None = faulty (λ (e : ◌≡◌ {A = ℕ} 25 14). omega arith)
end_kept (Some s) = ends

pub never_fourteen : NeverFourteen
unfolding outcome_at event_at checks lacks number
never_fourteen tape at bench r fine e =
    rw e
    (either Kept (ltb at (length tape))
    (λ _.
    let listed = checks tape at (is_set_up bench) in
    decided_kept (verdict listed) (in_turn tape at bench) (never listed refl) (turn_kept tape at bench fine))
    (λ _. end_kept bench))
