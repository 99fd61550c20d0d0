-- Reading a frame: the checks in document 01's order, and what is read of a good frame. Assumes nothing.
use Rattle.std.specs.Prelude.{ℕ, ◌+◌, ◌≡◌, cond, ◌||◌, List, [], ◌∷◌, ◌++◌, length, ltb, eqb, Option, Some, None, Result}
use Rattle.octets.specs.Number.{be16}
use Rattle.octets.specs.declared.Refusal.{Refusal}
use Rattle.octets.specs.declared.Refusal.TheVariants.{FrameShort, FrameLong, TagCut, TagTwice, ReservedVlan}
use Rattle.octets.specs.Checks.{Check, ◌⇒◌, verdict, answered}
use Rattle.frame.specs.declared.Header.{Header}
use Rattle.frame.specs.declared.Tag.{Tag}
use Rattle.frame.specs.Layout.{C_TAG, destination, source, tagged, vlan, tag_place, tag_length}
use Rattle.frame.specs.Layout.{announces, sequenced, announced, number, kind, payload_place}

-- "Length 14 to 1,522": "frame under 14; over 1,522"
unfoldable pub length_checks : List ℕ → List Check
length_checks o = ltb (length o) 14 ⇒ FrameShort ∷ ltb 1522 (length o) ⇒ FrameLong ∷ []

-- "At a C-TAG: 3, 5, 4": "octets end before the type after a tag"; "VLAN id 4,095"; "8100 after a C-TAG"
unfoldable pub ctag_checks : List ℕ → List Check
ctag_checks o = ltb (length o) 18 ⇒ TagCut ∷ eqb (vlan o) 4095 ⇒ ReservedVlan ∷ eqb (be16 o 16) C_TAG ⇒ TagTwice ∷ []

-- "At an R-TAG: 3, 4", and at an HSR tag: "octets end before the type after a tag"; "8100 or F1C1 after an R-TAG", and "3, 4 and 6 cover
-- both, mixed too" (CR 5)
unfoldable pub sequence_checks : List ℕ → List Check
sequence_checks o =
    ltb (length o) (tag_place o + tag_length + 2) ⇒ TagCut
    ∷ (eqb (be16 o (tag_place o + tag_length)) C_TAG || announces (be16 o (tag_place o + tag_length))) ⇒ TagTwice
    ∷ []

-- "Check 1, 2, then left to right"
unfoldable pub checks : List ℕ → List Check
checks o = length_checks o ++ (cond (tagged o) (ctag_checks o) [] ++ cond (sequenced o) (sequence_checks o) [])

-- "an optional C-TAG", by its VLAN id
unfoldable pub ctag : List ℕ → Option ℕ
ctag o = cond (tagged o) (Some (vlan o)) None

-- "an optional R-TAG", or an HSR tag at its place, by the type that announces it and its number
unfoldable pub sequence_tag : List ℕ → Option Tag
sequence_tag o = cond (sequenced o) (Some (record { kind = announced o; number = number o })) None

-- a header, in the order in which document 01 names what it says, by what the tags of a frame say
abbrev pub header_of : List ℕ → Option ℕ → Option Tag → (kind payload : ℕ) → Header
header_of o vlan tag kind payload =
    record { destination = destination o; source = source o; vlan = vlan; tag = tag; kind = kind; payload = payload }

-- what is read of a good frame
unfoldable pub header : List ℕ → Header
header o = header_of o (ctag o) (sequence_tag o) (kind o) (payload_place o)

-- what a frame reads as: the header where the checks are good, and on a refusal "the number alone"
unfoldable pub reading : List ℕ → Result Header Refusal
reading o = answered (verdict (checks o)) (header o)

-- what `from_tag_place` asks of its callers: all before the sequence tag's place is read and good, so that only the checks at such a tag
-- are left
pub record Before (o : List ℕ) (at : ℕ) (vlan : Option ℕ) : Type 0 where
  pub place : at ≡ tag_place o
  pub is_vlan : vlan ≡ ctag o
  pub left : verdict (checks o) ≡ verdict (cond (sequenced o) (sequence_checks o) [])

-- the promise of `read`
abbrev pub Reads : List ℕ → Result Header Refusal → Type 0
Reads o r = r ≡ reading o
