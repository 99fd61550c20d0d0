-- Where things stand in a frame, whatever the encoding of its stream (document 01, "Reading a frame"; document 02, CR 5). The octets are a
-- list `o`; what stands past its end counts as 0, and `checks` of Reader refuses where that matters. Assumes nothing.
use Rattle.std.specs.Prelude.{ℕ, ◌+◌, ◌-◌, ◌%◌, Bool, cond, ◌||◌, List, length, eqb}
use Rattle.octets.specs.Number.{be16, be48}

-- the type that announces a C-TAG: "81 00"
abbrev pub C_TAG : ℕ
C_TAG = 0x8100

-- an R-TAG: "F1 C1"
abbrev pub R_TAG : ℕ
R_TAG = 0xF1C1

-- and an HSR tag: "892F" (document 02, CR 5)
abbrev pub HSR_TAG : ℕ
HSR_TAG = 0x892F

-- "Destination 6", as one number
unfoldable pub destination : List ℕ → ℕ
destination o = be48 o 0

-- "source 6", likewise
unfoldable pub source : List ℕ → ℕ
source o = be48 o 6

-- "an optional C-TAG"
unfoldable pub tagged : List ℕ → Bool
tagged o = eqb (be16 o 12) C_TAG

-- "16 bits whose low 12 are the VLAN id"; "a frame without C-TAG has VLAN id 0"
unfoldable pub vlan : List ℕ → ℕ
vlan o = cond (tagged o) (be16 o 14 % 4096) 0

-- the R-TAG's place, and the HSR tag's: "after the C-TAG if there is one, else after the source address"
unfoldable pub tag_place : List ℕ → ℕ
tag_place o = cond (tagged o) 16 12

-- a type that announces a sequence tag, the R-TAG or the HSR tag: "For every stream 892F is now a tag" (CR 5)
unfoldable pub announces : ℕ → Bool
announces type = eqb type R_TAG || eqb type HSR_TAG

-- "an optional R-TAG", or an HSR tag at its place
unfoldable pub sequenced : List ℕ → Bool
sequenced o = announces (be16 o (tag_place o))

-- the type that announces it, 0 without one
unfoldable pub announced : List ℕ → ℕ
announced o = cond (sequenced o) (be16 o (tag_place o)) 0

-- "a 16-bit number", and "number 16": the last two octets of either; 0 without one
unfoldable pub number : List ℕ → ℕ
number o = cond (sequenced o) (be16 o (tag_place o + 4)) 0

-- "six octets", of either
abbrev pub tag_length : ℕ
tag_length = 6

-- the place of the last type: "then a type of 2 and the payload"
unfoldable pub kind_place : List ℕ → ℕ
kind_place o = cond (sequenced o) (tag_place o + tag_length) (tag_place o)

-- "a type of 2"
unfoldable pub kind : List ℕ → ℕ
kind o = be16 o (kind_place o)

-- the payload "starts after the last type"
unfoldable pub payload_place : List ℕ → ℕ
payload_place o = kind_place o + 2

-- "the octets after the last type": how many they are
unfoldable pub payload_length : List ℕ → ℕ
payload_length o = length o - payload_place o
