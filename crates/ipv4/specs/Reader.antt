-- An IPv4 header at the start of a packet `p` (RFC 791; RFC 2474 for the DSCP): where things stand in it, and what CR 1 calls bad and cut.
-- Octets past the end count as 0. Assumes nothing.
use Rattle.std.specs.Prelude.{ℕ, ◌*◌, ◌/◌, ◌%◌, ◌≡◌, Bool, cond, not, ◌||◌, List, length, get_or, ltb, eqb, Result, Ok, Err}
use Rattle.octets.specs.Number.{be16, be32}
use Rattle.ipv4.specs.declared.Header.{Header}
use Rattle.ipv4.specs.declared.Unread.{Unread}
use Rattle.ipv4.specs.declared.Unread.TheVariants.{Bad, Cut}

-- the high four bits of the first octet
unfoldable pub version : List ℕ → ℕ
version p = get_or p 0 0 / 16

-- its low four: the length of the header in words, options included
unfoldable pub words : List ℕ → ℕ
words p = get_or p 0 0 % 16

-- in octets: a word has four
unfoldable pub header_length : List ℕ → ℕ
header_length p = words p * 4

-- the high six bits of the second octet
unfoldable pub dscp : List ℕ → ℕ
dscp p = get_or p 1 0 / 4

-- the low 13 bits of the two octets with the flags are the offset: a "later fragment" (CR 1) is one where it is not 0
unfoldable pub later : List ℕ → Bool
later p = not (eqb (be16 p 6 % 8192) 0)

-- "Bad means a version other than 4 or a header length below 5 words"
unfoldable pub bad : List ℕ → Bool
bad p = not (eqb (version p) 4) || ltb (words p) 5

-- "cut means a payload shorter than its header"
unfoldable pub cut : List ℕ → Bool
cut p = ltb (length p) (header_length p)

-- what a whole header says; the ports stand behind it
unfoldable pub header : List ℕ → Header
header p =
    record {
      source = be32 p 12;
      destination = be32 p 16;
      dscp = dscp p;
      protocol = get_or p 9 0;
      later = later p;
      ports = header_length p;
    }

-- what a packet reads as: its header, or why it has none; a bad one is bad before it is cut
unfoldable pub reading : List ℕ → Result Header Unread
reading p = cond (bad p) (Err Bad) (cond (cut p) (Err Cut) (Ok (header p)))

-- the promise of `read`
abbrev pub Reads : List ℕ → Result Header Unread → Type 0
Reads p r = r ≡ reading p
