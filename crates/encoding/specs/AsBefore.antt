-- The R-TAG's number as document 01 has it, when 892F was no tag: the old promise of reading, which holds as it did for every frame without
-- an HSR tag. One claim, which proofs/AsBefore proves. Assumes nothing.
use Rattle.std.specs.Prelude.{ℕ, ◌≡◌, false, cond, List, Result}
use Rattle.octets.specs.declared.Refusal.{Refusal}
use Rattle.frame.specs.AsBefore.{has_rtag, has_hsr_tag, number_before, reading_before}
use Rattle.encoding.specs.declared.Encoding.TheVariants.{RTag}
use Rattle.encoding.specs.declared.Packet.{Packet}
use Rattle.encoding.specs.Encodings.{numbered, unnumbered}
use Rattle.encoding.specs.Reader.{carrying, ReadsIn}

-- the header as it was read then, with the number of the R-TAG
abbrev pub ReadsAsBefore : Type 0
ReadsAsBefore =
    (o : List ℕ) (r : Result Packet Refusal) → has_hsr_tag o ≡ false → ReadsIn RTag o r
    → r ≡ carrying (reading_before o) (cond (has_rtag o) (numbered (number_before o) 0) unnumbered)
