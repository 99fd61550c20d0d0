-- The check as a caller meets it: calls that keep their promises, one on what another wrote or on what became of it under way. Five claims,
-- which proofs/Trips proves. Assumes nothing.
use Rattle.std.specs.Prelude.{ℕ, ◌≤◌, ◌≡◌, Bool, not, List, ◌∷◌, ◌++◌, length, take, Result, Ok, Err, ⊤}
use Rattle.octets.specs.declared.Refusal.{Refusal}
use Rattle.octets.specs.declared.Refusal.TheVariants.{WrongCheck}
use Rattle.crc.specs.Bits.{sent}
use Rattle.crc.specs.Division.{remainder}
use Rattle.crc.specs.Damage.{residue}
use Rattle.fcs.specs.Sequence.{Checks}
use Rattle.fcs.specs.Part.{HandsBack}
use Rattle.fcs.specs.Writer.{Appends}

-- what the writer wrote is accepted, and the part of it is the first frame
abbrev pub AppendThenCheck : Type 0
AppendThenCheck =
    (o out : List ℕ) (k : ℕ) (later : List ℕ) (r : Result ⊤ Refusal) (at : ℕ × ℕ) (part : List ℕ) (place : ℕ × ℕ)
    → Appends o out (Ok k) later → Checks (take k later) r → HandsBack (take k later) at part place → (r ≡ Ok tt) × (part ≡ o)

-- a check taken off and put on again gives the octets that were there
abbrev pub CheckThenAppend : Type 0
CheckThenAppend =
    (o : List ℕ) (at : ℕ × ℕ) (part : List ℕ) (place : ℕ × ℕ) (out : List ℕ) (k : ℕ) (later : List ℕ)
    → Checks o (Ok tt) → HandsBack o at part place → Appends part out (Ok k) later → take k later ≡ o

-- a frame with its check that is accepted leaves the known residue
abbrev pub AcceptedLeaves : Type 0
AcceptedLeaves = (o : List ℕ) → Checks o (Ok tt) → remainder (sent o) ≡ residue

-- of two frames with their checks that differ within 32 bits in a row, as they are sent, and nowhere else, where one is accepted the other
-- is refused as a wrong check: wherever the bits are, in the frame, in the check or across
abbrev pub DamageSeen : Type 0
DamageSeen =
    (o o' : List ℕ) (p w w' s : List Bool) (r : Result ⊤ Refusal)
    → sent o ≡ p ++ (w ++ s) → sent o' ≡ p ++ (w' ++ s)
    → length w ≡ length w' → length w ≤ 32 → (w ≡ w' → ⊥)
    → Checks o (Ok tt) → Checks o' r → r ≡ Err WrongCheck

-- so any single wrong bit is seen
abbrev pub WrongBitSeen : Type 0
WrongBitSeen =
    (o o' : List ℕ) (p s : List Bool) (b : Bool) (r : Result ⊤ Refusal)
    → sent o ≡ p ++ (b ∷ s) → sent o' ≡ p ++ (not b ∷ s) → Checks o (Ok tt) → Checks o' r → r ≡ Err WrongCheck
