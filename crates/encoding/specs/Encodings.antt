-- The three encodings of a number (document 02, CR 5; 002 clauses 7.8 to 7.10): of each, where its six octets stand, what they are for a
-- number, an id and a size, and when octets carry a number in it. All else is said over the encoding. Assumes nothing.
use Rattle.std.specs.Prelude.{ℕ, ◌+◌, ◌-◌, ◌*◌, ◌/◌, ◌%◌, ◌≡◌, Bool, true, false, cond, ◌&&◌, List, [], ◌∷◌, length, leb, eqb, Option, Some, None}
use Rattle.octets.specs.Number.{be16}
use Rattle.frame.specs.Layout.{R_TAG, HSR_TAG, tag_place, tag_length, payload_length}
use Rattle.encoding.specs.declared.Encoding.{Encoding}
use Rattle.encoding.specs.declared.Encoding.TheVariants.{RTag, Hsr, Prp}
use Rattle.encoding.specs.declared.Sequence.{Sequence}

-- where the six octets stand: "at the R-TAG's place", or "at the end"
unfoldable pub in_front : Encoding → Bool
in_front RTag = true
in_front Hsr = true
in_front Prp = false

-- so they have one of two places: the tag's, and that of the last six octets
unfoldable pub place : Encoding → (front back : ℕ) → ℕ
place e front back = cond (in_front e) front back

-- the word that tells the encoding: the type of a tag, "F1 C1" and "892F", and the suffix of the trailer, "88FB"
unfoldable pub mark : Encoding → ℕ
mark RTag = R_TAG
mark Hsr = HSR_TAG
mark Prp = 0x88FB

-- "path id 4 bits, size 12", and "LAN id 4, size 12": one word
unfoldable pub id_and_size : (id size : ℕ) → ℕ
id_and_size id size = id % 16 * 4096 + size % 4096

-- that word in each encoding; the R-TAG has "two reserved octets" there, and they "are written zero"
unfoldable pub id_word : Encoding → (id size : ℕ) → ℕ
id_word RTag id size = 0
id_word Hsr id size = id_and_size id size
id_word Prp id size = id_and_size id size

-- what the six octets are, as three words: "F1 C1, two reserved octets, a 16-bit number"; "892F, path id 4 bits, size 12, number 16"; and
-- the other way round "number 16, LAN id 4, size 12, 88FB"
unfoldable pub words : Encoding → (number id size : ℕ) → List ℕ
words e number id size =
    cond (in_front e) (mark e ∷ id_word e id size ∷ number ∷ []) (number ∷ id_word e id size ∷ mark e ∷ [])

-- "All numbers in octets are big-endian": words as octets
unfoldable pub as_octets : List ℕ → List ℕ
as_octets [] = []
as_octets (w ∷ ws) = w / 256 ∷ w % 256 ∷ as_octets ws

-- the six octets
unfoldable pub six : Encoding → (number id size : ℕ) → List ℕ
six e number id size = as_octets (words e number id size)

-- a trailer behind a payload of so many octets, its own among them: "A PRP payload under 6 octets, of another size or without the suffix is
-- a packet without a number"
unfoldable pub trails : List ℕ → (suffix octets : ℕ) → Bool
trails o suffix octets = leb 6 octets && eqb (be16 o (length o - 2)) suffix && eqb (be16 o (length o - 4) % 4096) octets

-- when octets carry a number: "Number and 9 go by the stream's own encoding". "The HSR size is written but not compared on reading"
unfoldable pub carries : Encoding → List ℕ → Bool
carries e o = cond (in_front e) (eqb (be16 o (tag_place o)) (mark e)) (trails o (mark e) (payload_length o))

-- where the six octets stand in a frame that has them
unfoldable pub standing : Encoding → List ℕ → ℕ
standing e o = place e (tag_place o) (length o - tag_length)

-- where among them the number does: the last word of a tag, and the first of the trailer
unfoldable pub number_at : Encoding → ℕ
number_at e = cond (in_front e) 4 0

-- the path or LAN id that the word between says; under the R-TAG "Reserved octets are .. ignored on reading"
unfoldable pub id_in : Encoding → ℕ → ℕ
id_in RTag word = 0
id_in Hsr word = word / 4096
id_in Prp word = word / 4096

-- a packet with a number and an id, and "a packet without a number"
abbrev pub numbered : (number id : ℕ) → Option Sequence
numbered number id = Some (record { number = number; path = id })

abbrev pub unnumbered : Option Sequence
unnumbered = None

-- the number and the id that a packet has; 0 without a number
abbrev pub number_of : Option Sequence → ℕ
number_of None = 0
number_of (Some s) = s.number

abbrev pub path_of : Option Sequence → ℕ
path_of None = 0
path_of (Some s) = s.path

-- what octets carry in an encoding
unfoldable pub sequence : Encoding → List ℕ → Option Sequence
sequence e o =
    cond (carries e o) (numbered (be16 o (standing e o + number_at e)) (id_in e (be16 o (standing e o + 2)))) unnumbered

-- the promises: of `in_front`
abbrev pub InFront : Encoding → Bool → Type 0
InFront e r = r ≡ in_front e

-- of `place`
abbrev pub Stands : Encoding → (front back : ℕ) → ℕ → Type 0
Stands e front back r = r ≡ place e front back

-- of `mark`
abbrev pub Marks : Encoding → ℕ → Type 0
Marks e r = r ≡ mark e

-- of `octets_of`
abbrev pub Makes : Encoding → (number id size : ℕ) → List ℕ → Type 0
Makes e number id size r = r ≡ six e number id size
