-- Big-endian numbers in lent octets. Octets are a list of numbers; an octet past the end counts as 0. Assumes nothing.
use Rattle.std.specs.Prelude.{ℕ, ◌+◌, ◌*◌, ◌≡◌, List, get_or}

-- "All numbers in octets are big-endian": the number of the two octets from a place on
unfoldable pub be16 : List ℕ → ℕ → ℕ
be16 o at = get_or o at 0 * 256 + get_or o (at + 1) 0

-- of the four octets
unfoldable pub be32 : List ℕ → ℕ → ℕ
unfolding be16
be32 o at = be16 o at * 65536 + be16 o (at + 2)

-- of the six octets
unfoldable pub be48 : List ℕ → ℕ → ℕ
unfolding be16 be32
be48 o at = be16 o at * 4294967296 + be32 o (at + 2)

-- of the eight octets
unfoldable pub be64 : List ℕ → ℕ → ℕ
unfolding be16 be32
be64 o at = be32 o at * 4294967296 + be32 o (at + 4)

-- the promises: of `octet`
abbrev pub Octet : List ℕ → ℕ → ℕ → Type 0
Octet o at r = r ≡ get_or o at 0

-- of `word16`
abbrev pub Word16 : List ℕ → ℕ → ℕ → Type 0
Word16 o at r = r ≡ be16 o at

-- of `word32`
abbrev pub Word32 : List ℕ → ℕ → ℕ → Type 0
Word32 o at r = r ≡ be32 o at

-- of `word48`
abbrev pub Word48 : List ℕ → ℕ → ℕ → Type 0
Word48 o at r = r ≡ be48 o at

-- of `word64`
abbrev pub Word64 : List ℕ → ℕ → ℕ → Type 0
Word64 o at r = r ≡ be64 o at
