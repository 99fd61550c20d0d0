-- A frame without its check, as a part of the octets that were lent with it (CR 6 of document 02). Assumes nothing.
use Rattle.std.specs.Prelude.{ℕ, List, []}
use Rattle.octets.specs.Checks.{Verdict, good, refuse, verdict}
use Rattle.octets.specs.Part.{HandedBack}
use Rattle.fcs.specs.Sequence.{frame_of, checks}

-- all octets before the check, and as document 01 has it "an empty part on a refusal"
abbrev pub part_by : Verdict → List ℕ → List ℕ
part_by good o = frame_of o
part_by (refuse n) o = []

-- the promise of `without`; `check` is the "call beside it" that "gives the verdict"
abbrev pub HandsBack : List ℕ → ℕ × ℕ → List ℕ → ℕ × ℕ → Type 0
HandsBack o at part place = HandedBack at (part_by (verdict (checks o)) o) 0 part place
