-- Of each call, two answers that its promise allows are equal, and so are two lists of words afterwards. Assumes nothing.
use Prim.Native.Nat.{ℕ}
use mathlib.Core.Path.{◌≡◌}
use mathlib.Core.List.{List}
use Rattle.octets.proofs.Unique.{one}
use Rattle.setup.specs.declared.Setup.{Setup}
use Rattle.calls.specs.declared.Call.{Call}
use Rattle.recovery_c.specs.Recoveries.{BeginsTo, StepsTo, TestsTo}

module _ (w : List ℕ) {a b : ℕ} {l m : List ℕ} where
  pub begins_to_one : (setup : Setup) → BeginsTo setup w a l → BeginsTo setup w b m → (a ≡ b) × (l ≡ m)
  begins_to_one setup p q = (one p.answer q.answer, one p.words q.words)

  pub steps_to_one : (call : Call) → StepsTo call w a l → StepsTo call w b m → (a ≡ b) × (l ≡ m)
  steps_to_one call p q = (one p.answer q.answer, one p.words q.words)

pub tests_to_one : (w : List ℕ) {a b : ℕ} → TestsTo w a → TestsTo w b → a ≡ b
tests_to_one w = one
