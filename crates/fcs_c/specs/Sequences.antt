-- The frame check sequence (CR 6 of document 02) for C, by the definitions of `crc` and `fcs`: what `ahz_crc32` answers is promised by `Sums`,
-- as in its room. Assumes nothing.
use Rattle.std.specs.Prelude.{ℕ, ◌≡◌, List, length}
use Rattle.octets.specs.Checks.{verdict, refusal}
use Rattle.words.specs.Answers.{WritesTo}
use Rattle.fcs.specs.Sequence.{checks}
use Rattle.fcs.specs.Part.{part_by}
use Rattle.fcs.specs.Writer.{appended, append_checks}

-- the promises: of `ahz_check_fcs`, 0 where `check` accepts a frame, or the number of its refusal
abbrev pub ChecksTo : List ℕ → ℕ → Type 0
ChecksTo o r = r ≡ refusal (verdict (checks o))

-- of `ahz_without_fcs`, the length of the part that `without` hands back, which is the frame's first octets
abbrev pub PartOctets : List ℕ → ℕ → Type 0
PartOctets o r = r ≡ length (part_by (verdict (checks o)) o)

-- of `ahz_append_fcs`
abbrev pub AppendsTo : List ℕ → List ℕ → ℕ → ℕ → List ℕ → ℕ → Type 0
AppendsTo o out = WritesTo (verdict (append_checks o (length out))) (appended o) out
