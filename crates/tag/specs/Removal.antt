-- A tag or a trailer taken off (document 01, "Reading a frame"; document 02, CR 5), said over the encoding. Assumes nothing.
use Rattle.std.specs.Prelude.{ℕ, ◌+◌, ◌-◌, not, List, [], ◌∷◌, ◌++◌, length, take, drop, ltb, Result}
use Rattle.octets.specs.declared.Refusal.{Refusal}
use Rattle.octets.specs.declared.Refusal.TheVariants.{OutputShort, NoTag}
use Rattle.octets.specs.Checks.{Check, ◌⇒◌, verdict}
use Rattle.frame.specs.Layout.{tag_length}
use Rattle.frame.specs.Reader.{checks}
use Rattle.encoding.specs.declared.Encoding.{Encoding}
use Rattle.encoding.specs.Encodings.{carries, standing}
use Rattle.tag.specs.Output.{Writes}

-- octets with six of them taken off at a place
unfoldable pub removed_at : List ℕ → ℕ → List ℕ
removed_at o at = take at o ++ drop (at + tag_length) o

-- "Removal drops six octets likewise"
unfoldable pub removed : Encoding → List ℕ → List ℕ
removed e o = removed_at o (standing e o)

-- "1 to 5 as in reading, then 6 or 9, then 7, then 8": "removal: none there", and "9 go by the stream's own encoding"; "output shorter than
-- result". A result over 1,522 is not to be had from a frame that reading accepts
unfoldable pub remove_checks : Encoding → List ℕ → (room : ℕ) → List Check
remove_checks e o room = checks o ++ (not (carries e o) ⇒ NoTag ∷ ltb room (length o - tag_length) ⇒ OutputShort ∷ [])

-- the promise of `remove`
abbrev pub Removes : Encoding → List ℕ → List ℕ → Result ℕ Refusal → List ℕ → Type 0
Removes e o out r later = Writes (verdict (remove_checks e o (length out))) (removed e o) out r later
