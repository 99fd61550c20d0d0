-- No turn of the bench comes to fault 14: where the state is sound it leaves a sound one or ends the output, and never with that number;
-- the bench that waits for its setup has no state yet. The claim is `NeverFourteen`, which proofs/NeverFourteen proves. Assumes nothing.
use Rattle.std.specs.Prelude.{ℕ, ◌≡◌, true, List, Option, Some, None, Result, Ok, Err}
use Rattle.octets.specs.declared.Refusal.{Refusal}
use Rattle.octets.specs.Refusals.{number}
use Rattle.recovery.specs.declared.State.{State}
use Rattle.recovery.specs.Soundness.{sound}
use Rattle.counters.specs.declared.Counters.{Counters}
use Rattle.lines.specs.declared.Line.{Line}
use Rattle.turns.specs.declared.Outcome.{Outcome}
use Rattle.turns.specs.declared.Outcome.TheVariants.{Next, End}
use Rattle.turns.specs.Turn.{Turns}

-- the bench waits, or its state is sound
pub data Fine : Option State → Type 0 where
  waiting : Fine None
  runs_on : {s : State} → sound s ≡ true → Fine (Some s)

-- an event to a sound state, a fault that is not 14, or the end
pub data Kept : Result Outcome Refusal → Type 0 where
  goes : {line : Line} {s : State} → sound s ≡ true → Kept (Ok (Next line s))
  faulty : {refusal : Refusal} → (number refusal ≡ 14 → ⊥) → Kept (Err refusal)
  ends : {k : Counters} → Kept (Ok (End k))

-- so at every place of every tape
abbrev pub NeverFourteen : Type 0
NeverFourteen =
    (tape : List ℕ) (at : ℕ) (bench : Option State) (r : Result Outcome Refusal) → Fine bench → Turns tape at bench r → Kept r
