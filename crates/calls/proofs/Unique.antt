-- Two answers that the promise of `take` allows are equal. Assumes nothing.
use mathlib.Core.Path.{◌≡◌}
use Rattle.octets.proofs.Unique.{one}
use Rattle.recovery.specs.declared.State.{State}
use Rattle.recovery.specs.declared.Stepped.{Stepped}
use Rattle.answers.specs.declared.Answer.{Answer}
use Rattle.calls.specs.declared.Call.{Call}
use Rattle.calls.specs.Answering.{Answers}

pub answers_one : (s : State) (call : Call) {a b : Stepped Answer} → Answers s call a → Answers s call b → a ≡ b
answers_one s call = one
