-- The R-TAG put in and taken off as document 01 has it, when 892F was no tag: the old promises, which hold as they did for every frame
-- without an HSR tag. Two claims, which proofs/AsBefore proves. Assumes nothing.
use Rattle.std.specs.Prelude.{ℕ, ◌+◌, ◌-◌, ◌/◌, ◌%◌, ◌≡◌, false, not, List, [], ◌∷◌, ◌++◌, length, take, drop, ltb, Result}
use Rattle.octets.specs.declared.Refusal.{Refusal}
use Rattle.octets.specs.declared.Refusal.TheVariants.{TagThere, ResultLong, OutputShort, NoTag}
use Rattle.octets.specs.Checks.{Check, ◌⇒◌, verdict}
use Rattle.frame.specs.Layout.{tag_place, tag_length}
use Rattle.encoding.specs.declared.Encoding.TheVariants.{RTag}
use Rattle.frame.specs.AsBefore.{has_rtag, has_hsr_tag, checks_before}
use Rattle.tag.specs.Output.{Writes}
use Rattle.tag.specs.Insertion.{Inserts}
use Rattle.tag.specs.Removal.{Removes}

-- "F1 C1, two reserved octets, a 16-bit number"; "Reserved octets are written zero"
unfoldable pub rtag : ℕ → List ℕ
rtag n = 0xF1 ∷ 0xC1 ∷ 0 ∷ 0 ∷ n / 256 ∷ n % 256 ∷ []

-- "Insertion puts the R-TAG after the C-TAG if there is one, else after the source address"
unfoldable pub inserted_before : List ℕ → ℕ → List ℕ
inserted_before o n = take (tag_place o) o ++ (rtag n ++ drop (tag_place o) o)

-- "1 to 5 as in reading, then 6 or 9, then 7, then 8": "insertion: R-TAG there"; "result over 1,522"; "output shorter than result"
unfoldable pub insert_checks_before : List ℕ → ℕ → List Check
insert_checks_before o room =
    checks_before o ++ (has_rtag o ⇒ TagThere ∷ ltb 1522 (length o + tag_length) ⇒ ResultLong ∷ ltb room (length o + tag_length) ⇒ OutputShort ∷ [])

-- "Removal drops six octets likewise"
unfoldable pub removed_before : List ℕ → List ℕ
removed_before o = take (tag_place o) o ++ drop (tag_place o + tag_length) o

-- "removal: none there"; "output shorter than result"
unfoldable pub remove_checks_before : List ℕ → ℕ → List Check
remove_checks_before o room = checks_before o ++ (not (has_rtag o) ⇒ NoTag ∷ ltb room (length o - tag_length) ⇒ OutputShort ∷ [])

-- the old promises, found again: an R-TAG has no id, and is put in with 0
abbrev pub InsertsAsBefore : Type 0
InsertsAsBefore =
    (o : List ℕ) (n : ℕ) (out : List ℕ) (r : Result ℕ Refusal) (later : List ℕ) → has_hsr_tag o ≡ false → Inserts RTag o n 0 out r later
    → Writes (verdict (insert_checks_before o (length out))) (inserted_before o n) out r later

abbrev pub RemovesAsBefore : Type 0
RemovesAsBefore =
    (o out : List ℕ) (r : Result ℕ Refusal) (later : List ℕ) → has_hsr_tag o ≡ false → Removes RTag o out r later
    → Writes (verdict (remove_checks_before o (length out))) (removed_before o) out r later
