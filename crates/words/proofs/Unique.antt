-- Two answers that a promise of this room allows are equal, and so is all that was lent. Assumes nothing.
use Prim.Native.Nat.{ℕ}
use mathlib.Core.Path.{◌≡◌}
use mathlib.Core.List.{List}
use Rattle.std.specs.Prelude.{Result}
use Rattle.octets.specs.declared.Refusal.{Refusal}
use Rattle.octets.specs.Checks.{Verdict}
use Rattle.octets.proofs.Unique.{one}
use Rattle.words.specs.Answers.{Codes, Tells, WritesTo}

pub codes_one : {A : Type 0} (answer : Result A Refusal) {r r' : ℕ} → Codes answer r → Codes answer r' → r ≡ r'
codes_one answer = one

pub tells_one : {w : Result ℕ Refusal} {before r r' l l' : ℕ} → Tells w before r l → Tells w before r' l' → (r ≡ r') × (l ≡ l')
tells_one p q = (one p.answer q.answer, one p.told q.told)

-- the promise of every door that writes
pub writes_to_one : {v : Verdict} {result out : List ℕ} {before a b : ℕ} {l m : List ℕ} {i j : ℕ} → WritesTo v result out before a l i
    → WritesTo v result out before b m j → (a ≡ b) × (l ≡ m) × (i ≡ j)
writes_to_one p q = (one p.answer q.answer, one p.buffer q.buffer, one p.told q.told)
