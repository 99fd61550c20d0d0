-- Two numbers that a promise of this room allows are equal. Assumes nothing.
use Rattle.std.specs.Prelude.{Result}
use Prim.Native.Nat.{ℕ}
use mathlib.Core.Path.{◌≡◌}
use Rattle.octets.proofs.Unique.{one}
use Rattle.octets.specs.declared.Refusal.{Refusal}
use Rattle.answers.specs.declared.Answer.{Answer}
use Rattle.answers.specs.Numbers.{Numbers, Codes}

pub numbers_one : (answer : Result Answer ℕ) {a b : ℕ} → Numbers answer a → Numbers answer b → a ≡ b
numbers_one answer = one

pub codes_one : (answer : Result Answer Refusal) {a b : ℕ} → Codes answer a → Codes answer b → a ≡ b
codes_one answer = one
