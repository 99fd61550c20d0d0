-- The R-TAG as document 01 has it, when 892F was no tag: what every stream read then, and reads now of every frame without an HSR tag. One
-- claim, which proofs/AsBefore proves; with it the old promises of `payload` and of a lookup are found again. Assumes nothing.
use Rattle.std.specs.Prelude.{ℕ, ◌+◌, ◌≡◌, Bool, false, cond, ◌&&◌, ◌||◌, List, [], ◌∷◌, ◌++◌, length, ltb, eqb, Option, Some, None, Result}
use Rattle.octets.specs.Number.{be16}
use Rattle.octets.specs.declared.Refusal.{Refusal}
use Rattle.octets.specs.declared.Refusal.TheVariants.{TagCut, TagTwice}
use Rattle.octets.specs.Checks.{Check, ◌⇒◌, verdict, answered}
use Rattle.frame.specs.declared.Header.{Header}
use Rattle.frame.specs.declared.Tag.{Tag}
use Rattle.frame.specs.Layout.{C_TAG, R_TAG, HSR_TAG, tagged, tag_place, tag_length}
use Rattle.frame.specs.Reader.{length_checks, ctag_checks, ctag, header_of, reading}

-- "an optional R-TAG"
unfoldable pub has_rtag : List ℕ → Bool
has_rtag o = eqb (be16 o (tag_place o)) R_TAG

-- an HSR tag at the R-TAG's place, or behind an R-TAG
unfoldable pub has_hsr_tag : List ℕ → Bool
has_hsr_tag o = eqb (be16 o (tag_place o)) HSR_TAG || (has_rtag o && eqb (be16 o (tag_place o + tag_length)) HSR_TAG)

-- "At an R-TAG: 3, 4": "octets end before the type after a tag"; "8100 or F1C1 after an R-TAG"
unfoldable pub rtag_checks : List ℕ → List Check
rtag_checks o =
    ltb (length o) (tag_place o + tag_length + 2) ⇒ TagCut
    ∷ (eqb (be16 o (tag_place o + tag_length)) C_TAG || eqb (be16 o (tag_place o + tag_length)) R_TAG) ⇒ TagTwice
    ∷ []

-- "Check 1, 2, then left to right"
unfoldable pub checks_before : List ℕ → List Check
checks_before o = length_checks o ++ (cond (tagged o) (ctag_checks o) [] ++ cond (has_rtag o) (rtag_checks o) [])

-- the R-TAG's number, 0 without one
unfoldable pub number_before : List ℕ → ℕ
number_before o = cond (has_rtag o) (be16 o (tag_place o + 4)) 0

-- the place of the last type
unfoldable pub last_type : List ℕ → ℕ
last_type o = cond (has_rtag o) (tag_place o + tag_length) (tag_place o)

-- the R-TAG; that it is announced by its own type goes without saying
unfoldable pub tag_before : List ℕ → Option Tag
tag_before o = cond (has_rtag o) (Some (record { kind = R_TAG; number = number_before o })) None

-- what a frame read as
unfoldable pub reading_before : List ℕ → Result Header Refusal
reading_before o =
    answered (verdict (checks_before o)) (header_of o (ctag o) (tag_before o) (be16 o (last_type o)) (last_type o + 2))

-- a frame without an HSR tag reads as it did
abbrev pub ReadingAsBefore : Type 0
ReadingAsBefore = (o : List ℕ) → has_hsr_tag o ≡ false → reading o ≡ reading_before o
