-- What the octets of a stream table's entry say (document 01, "Stream tables"; document 02, CR 1), and what of it is out of range. Assumes
-- nothing.
use Rattle.std.specs.Prelude.{ℕ, ◌-◌, ◌≡◌, Bool, cond, not, ◌&&◌, ◌||◌, List, get_or, ltb, eqb}
use Rattle.octets.specs.Number.{be16, be32, be48}

-- "one byte of kind"
unfoldable pub kind : List ℕ → ℕ
kind e = get_or e 0 0

-- the kind of an IP stream: "table kind 4"
abbrev pub IP : ℕ
IP = 4

-- "then a body whose length the kind fixes": kinds 1 and 2 "have 11 octets", kind 4 "25 octets" (CR 1). An octet that is no kind has no body
unfoldable pub body_length : ℕ → ℕ
body_length kind = cond (eqb kind 1 || eqb kind 2) 11 (cond (eqb kind IP) 25 0)

-- "address 6, tag choice 1 (1 tagged, 2 priority, 3 all), VLAN 2 (0 to 4,094)", after the kind, in every kind; the address as one number
unfoldable pub address : List ℕ → ℕ
address e = be48 e 1

unfoldable pub choice : List ℕ → ℕ
choice e = get_or e 7 0

unfoldable pub vlan : List ℕ → ℕ
vlan e = be16 e 8

-- "handle 2 (any)": the last of every body
unfoldable pub handle : List ℕ → ℕ
handle e = be16 e (body_length (kind e) - 1)

-- kind 4 (CR 1), behind the VLAN: "source IP 4, destination IP 4, DSCP 1 (0 to 63, 255 ignores), next protocol 1 (1 none, 2 UDP, 3 TCP, 4
-- SCTP), ports 2 and 2", the source's first (001)
unfoldable pub source_ip : List ℕ → ℕ
source_ip e = be32 e 10

unfoldable pub destination_ip : List ℕ → ℕ
destination_ip e = be32 e 14

unfoldable pub dscp : List ℕ → ℕ
dscp e = get_or e 18 0

unfoldable pub protocol : List ℕ → ℕ
protocol e = get_or e 19 0

unfoldable pub source_port : List ℕ → ℕ
source_port e = be16 e 20

unfoldable pub destination_port : List ℕ → ℕ
destination_port e = be16 e 22

-- "choice or VLAN out of range"
unfoldable pub out_of_range : ℕ → ℕ → Bool
out_of_range choice vlan = ltb choice 1 || ltb 3 choice || ltb 4094 vlan

-- "Refusal 12 covers the new ranges" (CR 1): a DSCP of 64 to 254, a next protocol of 0 or over 4
unfoldable pub ip_out_of_range : ℕ → ℕ → Bool
ip_out_of_range dscp protocol = (ltb 63 dscp && not (eqb dscp 255)) || ltb protocol 1 || ltb 4 protocol

-- a field of the entry is out of its range
unfoldable pub unfit : List ℕ → Bool
unfit e = out_of_range (choice e) (vlan e) || (eqb (kind e) IP && ip_out_of_range (dscp e) (protocol e))

-- the promises: of `body_length`
abbrev pub HasBody : ℕ → ℕ → Type 0
HasBody kind r = r ≡ body_length kind

-- of `out_of_range`
abbrev pub Ranges : ℕ → ℕ → Bool → Type 0
Ranges choice vlan r = r ≡ out_of_range choice vlan

-- of `ip_out_of_range`
abbrev pub IpRanges : ℕ → ℕ → Bool → Type 0
IpRanges dscp protocol r = r ≡ ip_out_of_range dscp protocol

-- of `unfit`
abbrev pub Unfit : List ℕ → Bool → Type 0
Unfit e r = r ≡ unfit e
