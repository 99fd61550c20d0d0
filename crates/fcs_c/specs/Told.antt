-- What the claims of `fcs` (`specs/RoundTrip` there) say of the numbers that C is answered (CR 6 of document 02). Four claims, which
-- proofs/Told proves. Assumes nothing.
use Rattle.std.specs.Prelude.{ℕ, ◌≤◌, ◌≡◌, Bool, not, List, ◌∷◌, ◌++◌, length, Ok}
use Rattle.crc.specs.Bits.{sent}
use Rattle.fcs.specs.Sequence.{Checks}
use Rattle.fcs_c.specs.Sequences.{ChecksTo}

-- 0 is answered only where `check` accepts the frame: all that is claimed of such a frame holds of it
abbrev pub ZeroAccepts : Type 0
ZeroAccepts = (o : List ℕ) → ChecksTo o 0 → Checks o (Ok tt)

-- and wherever it accepts one
abbrev pub AcceptedByZero : Type 0
AcceptedByZero = (o : List ℕ) (r : ℕ) → Checks o (Ok tt) → ChecksTo o r → r ≡ 0

-- damage as `DamageSeen` has it is answered by 28, "A mismatch is refusal 28"
abbrev pub DamageTold : Type 0
DamageTold =
    (o o' : List ℕ) (p w w' s : List Bool) (r : ℕ)
    → sent o ≡ p ++ (w ++ s) → sent o' ≡ p ++ (w' ++ s)
    → length w ≡ length w' → length w ≤ 32 → (w ≡ w' → ⊥)
    → ChecksTo o 0 → ChecksTo o' r → r ≡ 28

-- and so is a single wrong bit
abbrev pub WrongBitTold : Type 0
WrongBitTold =
    (o o' : List ℕ) (p s : List Bool) (b : Bool) (r : ℕ)
    → sent o ≡ p ++ (b ∷ s) → sent o' ≡ p ++ (not b ∷ s) → ChecksTo o 0 → ChecksTo o' r → r ≡ 28
