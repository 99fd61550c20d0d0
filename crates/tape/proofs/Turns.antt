-- An event that goes on stands within the tape; and what each outcome adds to the lines. Assumes nothing.
use Rattle.std.specs.Prelude.{Option, Some, None, Result, Ok, Err}
use Prim.Native.Nat.{ℕ, suc, ◌+◌, ◌≤◌}
use mathlib.Core.Path.{◌≡◌, refl}
use mathlib.Core.List.{List, ◌++◌}
use lib.ListN.{length, get_or}
use lib.Dec.{ltb}
use borrow.Author.Tests.{ltb-false}
use Rattle.octets.specs.declared.Refusal.{Refusal}
use Rattle.octets.specs.Refusals.{number}
use Rattle.octets.specs.Checks.{Verdict, good, refuse, verdict}
use Rattle.octets.proofs.Bools.{either}
use Rattle.octets.proofs.Order.{clear}
use Rattle.recovery.specs.declared.State.{State}
use Rattle.counters.specs.declared.Counters.{Counters}
use Rattle.lines.specs.declared.Line.{Line}
use Rattle.lines.specs.Lines.{text, fault_text, counters_text}
use Rattle.events.specs.Event.{width, checks}
use Rattle.turns.specs.declared.Outcome.{Outcome}
use Rattle.turns.specs.declared.Outcome.TheVariants.{Next, End}
use Rattle.turns.specs.Turn.{is_set_up, decided, in_turn, event_at, at_end, outcome_at}
use Rattle.tape.specs.Player.{figures, lines_from}

goes_on : (v : Verdict) (o : Result Outcome Refusal) {line : Line} {s : State} → decided v o ≡ Ok (Next line s)
    → (v ≡ good) × (o ≡ Ok (Next line s))
goes_on good o e = (refl, e)
goes_on (refuse r) o e = cc

no_end : (bench : Option State) {line : Line} {s : State} {X : Type 0} → at_end bench ≡ Ok (Next line s) → X
no_end None e = cc
no_end (Some t) e = cc

-- an event that goes on is whole
pub next_within : (tape : List ℕ) (at : ℕ) (bench : Option State) {line : Line} {s : State} → outcome_at tape at bench ≡ Ok (Next line s)
    → at + 1 + width (get_or tape at 0) ≤ length tape
unfolding outcome_at event_at checks
next_within tape at bench {line} {s} =
    either (λ (o : Result Outcome Refusal). o ≡ Ok (Next line s) → at + 1 + width (get_or tape at 0) ≤ length tape) (ltb at (length tape))
    (λ _ e.
    let met = (goes_on (verdict (checks tape at (is_set_up bench))) (in_turn tape at bench) e).0 in
    ltb-false _ _ (clear _ _ _ (clear _ _ _ met).1).0)
    (λ _ e. no_end bench e)

module _ (tape : List ℕ) (at : ℕ) (bench : Option State) (n : ℕ) where
  pub next_lines : {line : Line} {s : State} → outcome_at tape at bench ≡ Ok (Next line s)
      → lines_from (suc n) tape at bench ≡ text line ++ lines_from n tape (at + 1 + width (get_or tape at 0)) (Some s)
  unfolding lines_from
  next_lines e = rw e

  pub fault_lines : {refusal : Refusal} → outcome_at tape at bench ≡ Err refusal
      → lines_from (suc n) tape at bench ≡ fault_text (number refusal)
  unfolding lines_from
  fault_lines e = rw e

  pub end_lines : {k : Counters} → outcome_at tape at bench ≡ Ok (End k) → lines_from (suc n) tape at bench ≡ counters_text (figures k)
  unfolding lines_from
  end_lines e = rw e
