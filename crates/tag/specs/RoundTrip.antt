-- The round trips (document 01, "Reading a frame"; document 02, CR 5), once over all three encodings, as a caller meets them: two calls
-- that keep their promises, the second on what the first wrote. Four claims, which proofs/Trips proves. An octet has 8 bits. Assumes
-- nothing.
use Rattle.std.specs.Prelude.{ℕ, ◌+◌, ◌-◌, ◌<◌, ◌≤◌, ◌≡◌, true, false, cond, List, length, get_or, take, Option, Some, None, Result, Ok}
use Rattle.octets.specs.declared.Refusal.{Refusal}
use Rattle.octets.specs.Number.{be16}
use Rattle.frame.specs.declared.Header.{Header}
use Rattle.frame.specs.declared.Tag.{Tag}
use Rattle.frame.specs.Layout.{tag_length}
use Rattle.encoding.specs.declared.Encoding.{Encoding}
use Rattle.encoding.specs.declared.Encoding.TheVariants.{RTag, Hsr, Prp}
use Rattle.encoding.specs.declared.Packet.{Packet}
use Rattle.encoding.specs.Encodings.{in_front, mark, id_word, standing, numbered, unnumbered, number_of, path_of, sequence}
use Rattle.encoding.specs.Reader.{ReadsIn}
use Rattle.tag.specs.Insertion.{size_of, Inserts}
use Rattle.tag.specs.Removal.{Removes, removed}

-- "Put in, then taken off, gives the first frame"
abbrev pub InsertThenRemove : Type 0
InsertThenRemove =
    (e : Encoding) (o : List ℕ) (n id : ℕ) (out : List ℕ) (k : ℕ) (later out' : List ℕ) (r : Result ℕ Refusal) (later' : List ℕ)
    → Inserts e o n id out (Ok k) later → length o ≤ length out' → Removes e (take k later) out' r later'
    → (r ≡ Ok (length o)) × (take (length o) later' ≡ o)

-- the word between number and mark is what insertion writes: the reserved octets of an R-TAG are zero, and the size of an HSR tag is right
unfoldable pub AsWritten : Encoding → List ℕ → Type 0
AsWritten e o =
    be16 o (standing e o + 2) ≡ id_word e (path_of (sequence e o)) (size_of (removed e o))

-- "Remove then insert of the same number gives it only where the reserved octets were zero", and there it does; so with the same number and
-- id in each encoding. A trailer is always as it is written, since it is none with another size
abbrev pub RemoveThenInsert : Type 0
RemoveThenInsert =
    (e : Encoding) (o out : List ℕ) (k : ℕ) (later out' : List ℕ) (r : Result ℕ Refusal) (later' : List ℕ)
    → ((i : ℕ) → get_or o i 0 < 256) → Removes e o out (Ok k) later → length o ≤ length out'
    → Inserts e (take k later) (number_of (sequence e o)) (path_of (sequence e o)) out' r later'
    → (r ≡ Ok (length o))
    × (take (length o) later' ≡ o → AsWritten e o)
    × (AsWritten e o → take (length o) later' ≡ o)
    × (in_front e ≡ false → AsWritten e o)

-- a header with another sequence tag, or none, and where the payload starts then
unfoldable pub retagged : Header → Option Tag → (payload : ℕ) → Header
retagged h tag payload =
    record { destination = h.destination; source = h.source; vlan = h.vlan; tag = tag; kind = h.kind; payload = payload }

-- the header of a frame with a tag put in, which stands before the payload; a trailer changes none of it
unfoldable pub with_tag : Encoding → ℕ → Header → Header
with_tag e n h = cond (in_front e) (retagged h (Some (record { kind = mark e; number = n })) (h.payload + tag_length)) h

-- and with it taken off
unfoldable pub without_tag : Encoding → Header → Header
without_tag e h = cond (in_front e) (retagged h None (h.payload - tag_length)) h

-- the path or LAN id that is read: an R-TAG has none
unfoldable pub id_read : Encoding → ℕ → ℕ
id_read RTag id = 0
id_read Hsr id = id
id_read Prp id = id

-- a frame with a tag or a trailer put in reads as the first one did but for its number and id; a tag that was put in is told of, and the
-- payload starts behind it
abbrev pub InsertThenRead : Type 0
InsertThenRead =
    (e : Encoding) (o : List ℕ) (n id : ℕ) (out : List ℕ) (k : ℕ) (later : List ℕ) (p : Packet) (r : Result Packet Refusal)
    → Inserts e o n id out (Ok k) later → ReadsIn e o (Ok p) → ReadsIn e (take k later) r
    → r ≡ Ok (record { header = with_tag e n p.header; sequence = numbered n (id_read e id) })

-- and one with its tag or trailer taken off as the first one did, without a number; only under PRP another trailer may have stood before
-- the one that was taken off
abbrev pub RemoveThenRead : Type 0
RemoveThenRead =
    (e : Encoding) (o out : List ℕ) (k : ℕ) (later : List ℕ) (p : Packet) (r : Result Packet Refusal)
    → Removes e o out (Ok k) later → ReadsIn e o (Ok p) → ReadsIn e (take k later) r
    → (r ≡ Ok (record { header = without_tag e p.header; sequence = sequence e (take k later) })) × (in_front e ≡ true → sequence e (take k later) ≡ unnumbered)
