-- A tag or a trailer does not change which stream a frame belongs to, whatever the table and the encoding: what is found for the frame that
-- insertion or removal wrote is what is found for the first one. Two claims, which proofs/SameStream proves. Assumes nothing.
--
-- A tag stands before the payload, and so it holds without a condition. A trailer stands in it: where the payload ends within the IP header
-- or the ports that an entry of kind 4 asks for, the trailer's octets are read in their place (CR 1 knows no trailers, and a lookup does
-- not know the encoding, which is the stream's own). So under PRP it holds where no entry of the table is of kind 4, or the last type is not
-- 0800, or the payload without the trailer has the octets that its header says and four more. A frame of 60 octets has 36 or more of payload
-- behind its tags, and a header without options and its ports have 24.
use Rattle.std.specs.Prelude.{ℕ, ◌+◌, ◌≡◌, Bool, true, not, ◌&&◌, ◌||◌, List, [], ◌∷◌, length, take, drop, leb, eqb, Option, Result, Ok}
use Rattle.octets.specs.declared.Refusal.{Refusal}
use Rattle.frame.specs.Reader.{header}
use Rattle.encoding.specs.declared.Encoding.{Encoding}
use Rattle.encoding.specs.Encodings.{in_front}
use Rattle.tag.specs.Insertion.{Inserts}
use Rattle.tag.specs.Removal.{Removes, removed}
use Rattle.ipv4.specs.Reader.{header_length}
use Rattle.entry.specs.Contents.{kind, IP}
use Rattle.entry.specs.Ip.{IPv4}
use Rattle.streams.specs.Table.{entries, LooksUp}

-- no entry is of kind 4
unfoldable pub none_ip : List (List ℕ) → Bool
none_ip [] = true
none_ip (e ∷ es) = not (eqb (kind e) IP) && none_ip es

-- the type is not that of IPv4, or the payload behind it has the octets that its header says and those of the ports
unfoldable pub uncut : (type : ℕ) → List ℕ → Bool
uncut type p = not (eqb type IPv4) || leb (header_length p + 4) (length p)

-- no entry reads what a trailer adds to this frame
unfoldable pub trailer_unread : Encoding → List ℕ → List ℕ → Bool
trailer_unread e t o = in_front e || none_ip (entries t) || uncut (header o).kind (drop (header o).payload o)

-- put in
abbrev pub SameWhenInserted : Type 0
SameWhenInserted =
    (t : List ℕ) (e : Encoding) (o : List ℕ) (n id : ℕ) (out : List ℕ) (k : ℕ) (later : List ℕ) (r : Result (Option ℕ) Refusal)
    → trailer_unread e t o ≡ true → Inserts e o n id out (Ok k) later → LooksUp t (take k later) r → LooksUp t o r

-- taken off
abbrev pub SameWhenRemoved : Type 0
SameWhenRemoved =
    (t : List ℕ) (e : Encoding) (o out : List ℕ) (k : ℕ) (later : List ℕ) (r : Result (Option ℕ) Refusal)
    → trailer_unread e t (removed e o) ≡ true → Removes e o out (Ok k) later → LooksUp t (take k later) r → LooksUp t o r
