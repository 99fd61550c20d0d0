-- A frame written with its check (CR 6 of document 02). Assumes nothing.
use Rattle.std.specs.Prelude.{ℕ, ◌+◌, ◌≡◌, List, [], ◌∷◌, ◌++◌, length, ltb, Result}
use Rattle.octets.specs.declared.Refusal.{Refusal}
use Rattle.octets.specs.declared.Refusal.TheVariants.{FrameShort, FrameLong, OutputShort}
use Rattle.octets.specs.Checks.{Check, ◌⇒◌, verdict, answered}
use Rattle.octets.specs.Copy.{output_by}
use Rattle.crc.specs.Division.{crc}
use Rattle.fcs.specs.Sequence.{low_first}

-- the frame, and behind it its check
unfoldable pub appended : List ℕ → List ℕ
appended o = o ++ low_first (crc o)

-- a frame that other calls take, 14 to 1,522 octets, and "The writer uses 8 for a short output"
unfoldable pub append_checks : List ℕ → ℕ → List Check
append_checks o room = ltb (length o) 14 ⇒ FrameShort ∷ ltb 1522 (length o) ⇒ FrameLong ∷ ltb room (length o + 4) ⇒ OutputShort ∷ []

-- the promise of `append`, which answers the result's length
pub record Appends (o out : List ℕ) (r : Result ℕ Refusal) (later : List ℕ) : Type 0 where
  pub answer : r ≡ answered (verdict (append_checks o (length out))) (length (appended o))
  pub buffer : later ≡ output_by (verdict (append_checks o (length out))) (appended o) out
