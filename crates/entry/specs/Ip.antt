-- What an entry of kind 4 asks of an IPv4 packet (document 02, CR 1). The packet is the payload `p` of a frame. Assumes nothing.
use Rattle.std.specs.Prelude.{ℕ, ◌+◌, ◌≡◌, Bool, false, cond, not, ◌&&◌, ◌||◌, List, length, leb, eqb, Result, Ok, Err}
use Rattle.octets.specs.Number.{be16}
use Rattle.ipv4.specs.declared.Header.{Header}
use Rattle.ipv4.specs.declared.Unread.{Unread}
use Rattle.ipv4.specs.declared.Unread.TheVariants.{Bad}
use Rattle.ipv4.specs.Reader.{reading}
use Rattle.entry.specs.Contents.{source_ip, destination_ip, dscp, protocol, source_port, destination_port}

-- the type that an IPv4 packet has in a frame: "0800"
abbrev pub IPv4 : ℕ
IPv4 = 0x0800

-- the next protocol "1 none"
abbrev pub NONE : ℕ
NONE = 1

-- "2 UDP, 3 TCP, 4 SCTP": as a header has them, 17, 6 and 132
unfoldable pub protocol_number : ℕ → ℕ
protocol_number next = cond (eqb next 2) 17 (cond (eqb next 3) 6 132)

-- "IP address or port zero ignores that field"
unfoldable pub zero_or : (asked is : ℕ) → Bool
zero_or asked is = eqb asked 0 || eqb asked is

-- DSCP "255 ignores"
unfoldable pub dscp_fits : (asked is : ℕ) → Bool
dscp_fits asked is = eqb asked 255 || eqb asked is

-- no port is "asked" where both are zero; with none they are not looked at
unfoldable pub no_port : (source destination : ℕ) → Bool
no_port source destination = eqb source 0 && eqb destination 0

-- "cut means a payload shorter than its header, or than that plus four octets where a port is asked"; "a later fragment where a port is asked
-- is no match". Else the two ports behind the header are compared
unfoldable pub ports_fit : (source destination : ℕ) → Header → List ℕ → Bool
ports_fit source destination ip p =
    not ip.later
    && leb (ip.ports + 4) (length p)
    && zero_or source (be16 p ip.ports)
    && zero_or destination (be16 p (ip.ports + 2))

-- "With none, protocol and ports aren't compared"
unfoldable pub protocol_fits : List ℕ → Header → List ℕ → Bool
protocol_fits e ip p =
    eqb (protocol e) NONE
    || (eqb ip.protocol (protocol_number (protocol e))
    && (no_port (source_port e) (destination_port e) || ports_fit (source_port e) (destination_port e) ip p))

-- an entry and a packet with this header
unfoldable pub ip_fits : List ℕ → Header → List ℕ → Bool
ip_fits e ip p =
    zero_or (source_ip e) ip.source && zero_or (destination_ip e) ip.destination && dscp_fits (dscp e) ip.dscp && protocol_fits e ip p

-- "a bad or cut header .. is no match"
abbrev pub fits_as : List ℕ → Result Header Unread → List ℕ → Bool
fits_as e (Ok ip) p = ip_fits e ip p
fits_as e (Err unread) p = false

-- "A type other than 0800 .. is no match, never a refusal"
unfoldable pub ip_allows : List ℕ → (type : ℕ) → List ℕ → Bool
ip_allows e type p = eqb type IPv4 && fits_as e (reading p) p

-- `packet_of`: the packet that is read once for all entries, with the type's test in it. Another type reads as a bad header, which fits no
-- entry either
unfoldable pub packet_of : (type : ℕ) → List ℕ → Result Header Unread
packet_of type p = cond (eqb type IPv4) (reading p) (Err Bad)

-- the promises: of `packet_of`
abbrev pub ReadsPacket : ℕ → List ℕ → Result Header Unread → Type 0
ReadsPacket type p r = r ≡ packet_of type p

-- of `ip_allows`
abbrev pub AllowsIp : List ℕ → Result Header Unread → List ℕ → Bool → Type 0
AllowsIp e packet p r = r ≡ fits_as e packet p
