-- Two answers that a promise of this room allows are equal, and so are two parts and two later buffers. Assumes nothing.
use Prim.Native.Nat.{ℕ}
use mathlib.Core.Path.{◌≡◌}
use mathlib.Core.List.{List}
use Rattle.std.specs.Prelude.{Result, ⊤}
use Rattle.octets.specs.declared.Refusal.{Refusal}
use Rattle.octets.proofs.Unique.{one, handed_one}
use Rattle.fcs.specs.Sequence.{Checks}
use Rattle.fcs.specs.Part.{HandsBack}
use Rattle.fcs.specs.Writer.{Appends}

pub checks_one : (o : List ℕ) {r r' : Result ⊤ Refusal} → Checks o r → Checks o r' → r ≡ r'
checks_one o = one

pub hands_back_one : (o : List ℕ) (at : ℕ × ℕ) {p p' : List ℕ} {q q' : ℕ × ℕ} → HandsBack o at p q → HandsBack o at p' q'
    → (p ≡ p') × (q ≡ q')
hands_back_one o at = handed_one

pub appends_one : {o out : List ℕ} {r r' : Result ℕ Refusal} {l l' : List ℕ} → Appends o out r l → Appends o out r' l' → (r ≡ r') × (l ≡ l')
appends_one p q = (one p.answer q.answer, one p.buffer q.buffer)
