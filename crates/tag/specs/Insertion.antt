-- A tag or a trailer put in (document 01, "Reading a frame"; document 02, CR 5), said over the encoding. Assumes nothing.
use Rattle.std.specs.Prelude.{ℕ, ◌+◌, ◌&&◌, List, [], ◌∷◌, ◌++◌, length, take, drop, ltb, Result}
use Rattle.octets.specs.declared.Refusal.{Refusal}
use Rattle.octets.specs.declared.Refusal.TheVariants.{TagThere, ResultLong, OutputShort, PathId}
use Rattle.octets.specs.Checks.{Check, ◌⇒◌, verdict}
use Rattle.frame.specs.Layout.{tag_place, sequenced, tag_length, payload_length}
use Rattle.frame.specs.Reader.{checks}
use Rattle.encoding.specs.declared.Encoding.{Encoding}
use Rattle.encoding.specs.Encodings.{in_front, place, six}
use Rattle.tag.specs.Output.{Writes}

-- octets with others put in at a place
unfoldable pub inserted_at : List ℕ → (at : ℕ) → List ℕ → List ℕ
inserted_at o at six = take at o ++ (six ++ drop at o)

-- "Size counts the octets after the last type, the six added ones included": of the frame before them
abbrev pub size_of : List ℕ → ℕ
size_of o = payload_length o + tag_length

-- "Insertion puts the R-TAG after the C-TAG if there is one, else after the source address"; the HSR tag "at the R-TAG's place"; the PRP
-- trailer "at the end"
unfoldable pub inserted : Encoding → List ℕ → (number id : ℕ) → List ℕ
inserted e o number id = inserted_at o (place e (tag_place o) (length o)) (six e number id (size_of o))

-- "1 to 5 as in reading, then 6 or 9, then 7, then 8": "insertion: R-TAG there"; "result over 1,522"; "output shorter than result". "A path
-- or LAN id over 15 is refusal 37, after 5 and before 6. PRP insertion never gives 6"; of tags "3, 4 and 6 cover both"
unfoldable pub insert_checks : Encoding → List ℕ → (id room : ℕ) → List Check
insert_checks e o id room =
    checks o
    ++ (ltb 15 id ⇒ PathId
    ∷ (in_front e && sequenced o) ⇒ TagThere
    ∷ ltb 1522 (length o + tag_length) ⇒ ResultLong
    ∷ ltb room (length o + tag_length) ⇒ OutputShort
    ∷ [])

-- the promise of `insert`
abbrev pub Inserts : Encoding → List ℕ → (number id : ℕ) → List ℕ → Result ℕ Refusal → List ℕ → Type 0
Inserts e o number id out r later = Writes (verdict (insert_checks e o id (length out))) (inserted e o number id) out r later
