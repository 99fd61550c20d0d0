-- The check of a frame that has it behind it (CR 6 of document 02). Assumes nothing.
use Rattle.std.specs.Prelude.{ℕ, ◌-◌, ◌/◌, ◌%◌, ◌≡◌, Bool, not, List, [], ◌∷◌, length, take, drop, ltb, bytes_eq, Result, ⊤}
use Rattle.octets.specs.declared.Refusal.{Refusal}
use Rattle.octets.specs.declared.Refusal.TheVariants.{FrameShort, FrameLong, WrongCheck}
use Rattle.octets.specs.Checks.{Check, ◌⇒◌, verdict, answered}
use Rattle.crc.specs.Division.{crc}

-- "The check stands low octet first"
unfoldable pub low_first : ℕ → List ℕ
low_first n = n % 256 ∷ n / 256 % 256 ∷ n / 65536 % 256 ∷ n / 16777216 % 256 ∷ []

-- a frame, and behind it its check: all but the last four octets, and these
abbrev pub frame_of : List ℕ → List ℕ
frame_of o = take (length o - 4) o

abbrev pub check_of : List ℕ → List ℕ
check_of o = drop (length o - 4) o

-- whether two rows of octets are the same
abbrev pub same : List ℕ → List ℕ → Bool
same = bytes_eq

-- "a frame under 18 octets with its check is 1, above 1,526 is 2", "A mismatch is refusal 28"
unfoldable pub checks : List ℕ → List Check
checks o =
    ltb (length o) 18 ⇒ FrameShort
    ∷ ltb 1526 (length o) ⇒ FrameLong
    ∷ not (same (check_of o) (low_first (crc (frame_of o)))) ⇒ WrongCheck
    ∷ []

-- the promise of `check`
abbrev pub Checks : List ℕ → Result ⊤ Refusal → Type 0
Checks o r = r ≡ answered (verdict (checks o)) tt
