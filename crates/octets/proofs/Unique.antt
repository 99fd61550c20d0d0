-- Any two answers that a promise of this room allows are equal, and so are any two later buffers. Assumes nothing.
use Prim.Native.Nat.{ℕ}
use mathlib.Core.Path.{◌≡◌, sym, ◌∙◌}
use mathlib.Core.Bool.{Bool}
use mathlib.Core.List.{List}
use Rattle.octets.specs.Number.{Octet, Word16, Word32, Word48, Word64}
use Rattle.octets.specs.declared.Refusal.{Refusal}
use Rattle.octets.specs.Refusals.{Numbers}
use Rattle.octets.specs.Copy.{Puts}
use Rattle.octets.specs.Part.{HandedBack}

-- a promise that names the answer allows one answer; every room's laws cite this
pub one : {A : Type 0} {x r r' : A} → r ≡ x → r' ≡ x → r ≡ r'
one p q = p ∙ sym q

module _ (o : List ℕ) (at : ℕ) {r r' : ℕ} where
  pub octet_one : Octet o at r → Octet o at r' → r ≡ r'
  octet_one = one

  pub word16_one : Word16 o at r → Word16 o at r' → r ≡ r'
  word16_one = one

  pub word32_one : Word32 o at r → Word32 o at r' → r ≡ r'
  word32_one = one

  pub word48_one : Word48 o at r → Word48 o at r' → r ≡ r'
  word48_one = one

  pub word64_one : Word64 o at r → Word64 o at r' → r ≡ r'
  word64_one = one

pub numbers_one : (refusal : Refusal) {r r' : ℕ} → Numbers refusal r → Numbers refusal r' → r ≡ r'
numbers_one refusal = one

pub puts_one : {A : Type 0} {src out : List A} {r r' : Bool} {l l' : List A} → Puts src out r l → Puts src out r' l' → (r ≡ r') × (l ≡ l')
puts_one p q = (one p.answer q.answer, one p.buffer q.buffer)

pub handed_one : {at : ℕ × ℕ} {octets : List ℕ} {start : ℕ} {p p' : List ℕ} {q q' : ℕ × ℕ}
    → HandedBack at octets start p q → HandedBack at octets start p' q' → (p ≡ p') × (q ≡ q')
handed_one a b = (one a.holds b.holds, one a.lies b.lies)
