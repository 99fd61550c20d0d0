-- Any two answers that a promise of this room allows are equal. Assumes nothing.
use Prim.Native.Nat.{ℕ}
use mathlib.Core.Path.{◌≡◌}
use mathlib.Core.List.{List}
use Rattle.std.specs.Prelude.{Result}
use Rattle.octets.specs.declared.Refusal.{Refusal}
use Rattle.octets.proofs.Unique.{one, handed_one}
use Rattle.frame.specs.declared.Header.{Header}
use Rattle.frame.specs.Reader.{Reads}
use Rattle.frame.specs.Part.{HandsBack}

pub reads_one : (o : List ℕ) {r r' : Result Header Refusal} → Reads o r → Reads o r' → r ≡ r'
reads_one o = one

pub hands_back_one : (o : List ℕ) {at : ℕ × ℕ} {p p' : List ℕ} {q q' : ℕ × ℕ}
    → HandsBack o at p q → HandsBack o at p' q' → (p ≡ p') × (q ≡ q')
hands_back_one o = handed_one
