-- The definitions at work on small tables: each row is a table, a frame and what a lookup answers. Assumes nothing.
use Prim.Native.Nat.{ℕ, ◌+◌}
use mathlib.Core.Path.{◌≡◌, refl}
use mathlib.Core.List.{List, [], ◌∷◌, ◌++◌, map}
use lib.ListN.{take, drop}
use Rattle.std.specs.Prelude.{Option, Some, None, Result, Ok, Err}
use Rattle.octets.specs.Number.{be16, be32, be48}
use Rattle.octets.specs.declared.Refusal.{Refusal}
use Rattle.octets.specs.declared.Refusal.TheVariants.{FrameShort, EntryKind, EntryCut, EntryRange}
use Rattle.octets.specs.Checks.{verdict, ◌then◌}
use Rattle.frame.specs.Layout.{destination, source, tagged, vlan, tag_place, announces, sequenced, announced}
use Rattle.frame.specs.Layout.{number, kind_place, kind, payload_place}
use Rattle.frame.specs.Reader.{length_checks, ctag_checks, sequence_checks, checks, ctag, sequence_tag, header}
use Rattle.ipv4.specs.Reader.{version, words, header_length, later, bad, cut, reading}
use Rattle.ipv4.specs.Reader as ip
use Rattle.entry.specs.Contents.{kind as kind_of, body_length, address, choice, vlan as vlan_of, handle, out_of_range, ip_out_of_range, unfit}
use Rattle.entry.specs.Contents.{source_ip, destination_ip, dscp, protocol, source_port, destination_port}
use Rattle.entry.specs.Ip.{protocol_number, zero_or, dscp_fits, no_port, ports_fit, protocol_fits, ip_fits, ip_allows}
use Rattle.entry.specs.Matching.{choice_allows, allows, address_of, matches}
use Rattle.streams.specs.Table.{entries_after, entries, entry_checks, table_checks, table_verdict, first_match, lookup_of}

receiver : List ℕ
receiver = 2 ∷ 0 ∷ 0 ∷ 0 ∷ 0 ∷ 1 ∷ []

sender : List ℕ
sender = 2 ∷ 0 ∷ 0 ∷ 0 ∷ 0 ∷ 9 ∷ []

-- frames: with no C-TAG, with one of a VLAN id, cut
plain : List ℕ
plain = receiver ++ (sender ++ (8 ∷ 0 ∷ []))

in_vlan : ℕ → List ℕ
in_vlan v = receiver ++ (sender ++ (0x81 ∷ 0 ∷ 0 ∷ v ∷ 8 ∷ 0 ∷ []))

short : List ℕ
short = receiver

-- an entry, with a VLAN and a handle under 256
entry : ℕ → List ℕ → ℕ → ℕ → ℕ → List ℕ
entry k address choice v handle = k ∷ address ++ (choice ∷ 0 ∷ v ∷ 0 ∷ handle ∷ [])

-- frames with IPv4 packets from 10.0.0.1 to 10.0.0.2: a header of so many words, the DSCP 46, a fragment's offset, a protocol, and ports 258
-- and 772
packet : (long offset next : ℕ) → List ℕ → List ℕ
packet long offset next options =
    plain
    ++ ((64 + long) ∷ 184 ∷ 0 ∷ 0 ∷ 0 ∷ 0 ∷ 32 ∷ offset ∷ 64 ∷ next ∷ 0 ∷ 0 ∷ 10 ∷ 0 ∷ 0 ∷ 1 ∷ 10 ∷ 0 ∷ 0 ∷ 2 ∷ [])
    ++ options
    ++ (1 ∷ 2 ∷ 3 ∷ 4 ∷ [])

udp : List ℕ
udp = packet 5 0 17 []

-- an entry of kind 4 for the receiver; one for any tag and VLAN, handle 9
ip_entry_of : (choice v : ℕ) → (a b : List ℕ) → (code next : ℕ) → (ports : List ℕ) → (handle : ℕ) → List ℕ
ip_entry_of choice v a b code next ports handle =
    4 ∷ receiver ++ (choice ∷ 0 ∷ v ∷ []) ++ a ++ b ++ (code ∷ next ∷ []) ++ ports ++ (0 ∷ handle ∷ [])

ip_entry : (a b : List ℕ) → (code next : ℕ) → (ports : List ℕ) → List ℕ
ip_entry a b code next ports = ip_entry_of 3 0 a b code next ports 9

any : List ℕ
any = 0 ∷ 0 ∷ 0 ∷ 0 ∷ []

from : List ℕ
from = 10 ∷ 0 ∷ 0 ∷ 1 ∷ []

to : List ℕ
to = 10 ∷ 0 ∷ 0 ∷ 2 ∷ []

both : List ℕ
both = 1 ∷ 2 ∷ 3 ∷ 4 ∷ []

-- a stream by its handle, and none
stream : ℕ → Result (Option ℕ) Refusal
stream handle = Ok (Some handle)

no_stream : Result (Option ℕ) Refusal
no_stream = Ok None

record Row : Type 0 where
  table : List ℕ
  frame : List ℕ
  answer : Result (Option ℕ) Refusal

row : List ℕ → List ℕ → Result (Option ℕ) Refusal → Row
row t o r = record { table = t; frame = o; answer = r }

rows : List Row
rows =
    row [] plain no_stream
    ∷ row (entry 1 receiver 3 0 7) plain (stream 7)
    ∷ row (entry 1 sender 3 0 7) plain no_stream
    ∷ row (entry 2 sender 3 0 7) plain (stream 7)
    ∷ row (entry 2 receiver 3 0 7) plain no_stream
    ∷ row (entry 1 receiver 1 0 7) plain no_stream
    ∷ row (entry 1 receiver 1 0 7) (in_vlan 5) (stream 7)
    ∷ row (entry 1 receiver 2 0 7) plain (stream 7)
    ∷ row (entry 1 receiver 2 0 7) (in_vlan 0) (stream 7)
    ∷ row (entry 1 receiver 2 0 7) (in_vlan 5) no_stream
    ∷ row (entry 1 receiver 3 5 7) (in_vlan 5) (stream 7)
    ∷ row (entry 1 receiver 3 5 7) (in_vlan 6) no_stream
    ∷ row (entry 1 receiver 3 5 7) plain no_stream
    ∷ row (entry 1 receiver 3 0 7 ++ entry 2 sender 3 0 8) plain (stream 7)
    ∷ row (entry 3 receiver 3 0 7) plain (Err EntryKind)
    ∷ row (entry 1 receiver 3 0 7 ++ (1 ∷ receiver)) plain (Err EntryCut)
    ∷ row (entry 1 receiver 0 0 7) plain (Err EntryRange)
    ∷ row (entry 1 receiver 4 0 7) plain (Err EntryRange)
    ∷ row (entry 1 receiver 3 0 7 ++ (0 ∷ [])) short (Err EntryKind)
    ∷ row (entry 1 receiver 3 0 7) short (Err FrameShort)
    ∷ row (ip_entry any any 255 1 any) udp (stream 9)
    ∷ row (ip_entry from to 46 2 both) udp (stream 9)
    ∷ row (ip_entry to from 46 2 both) udp no_stream
    ∷ row (ip_entry from to 184 2 both) udp (Err EntryRange)
    ∷ row (ip_entry from to 0 2 both) udp no_stream
    ∷ row (ip_entry from to 46 3 both) udp no_stream
    ∷ row (ip_entry from to 46 2 (3 ∷ 4 ∷ 1 ∷ 2 ∷ [])) udp no_stream
    ∷ row (ip_entry from to 46 2 (0 ∷ 0 ∷ 3 ∷ 4 ∷ [])) udp (stream 9)
    ∷ row (ip_entry from to 46 2 (1 ∷ 2 ∷ 0 ∷ 0 ∷ [])) udp (stream 9)
    ∷ row (ip_entry from to 46 1 (9 ∷ 9 ∷ 9 ∷ 9 ∷ [])) udp (stream 9)
    ∷ row (ip_entry from to 46 3 both) (packet 5 0 6 []) (stream 9)
    ∷ row (ip_entry from to 46 4 both) (packet 5 0 132 []) (stream 9)
    ∷ row (ip_entry from to 46 2 both) (packet 6 0 17 (7 ∷ 7 ∷ 7 ∷ 7 ∷ [])) (stream 9)
    ∷ row (ip_entry from to 46 2 both) (packet 5 1 17 []) no_stream
    ∷ row (ip_entry from to 46 2 any) (packet 5 1 17 []) (stream 9)
    ∷ row (ip_entry any any 255 1 any) (packet 4 0 17 []) no_stream
    ∷ row (ip_entry any any 255 1 any) (packet 37 0 17 []) no_stream
    ∷ row (ip_entry any any 255 1 any) plain no_stream
    ∷ row (ip_entry any any 255 1 any) (take 12 udp ++ (0x88 ∷ 0xB5 ∷ drop 14 udp)) no_stream
    ∷ row (ip_entry from to 46 2 both) (take 37 udp) no_stream
    ∷ row (ip_entry from to 46 2 any) (take 37 udp) (stream 9)
    ∷ row (ip_entry any any 255 1 any) (take 33 udp) no_stream
    ∷ row (ip_entry any any 64 1 any) udp (Err EntryRange)
    ∷ row (ip_entry any any 255 0 any) udp (Err EntryRange)
    ∷ row (ip_entry any any 255 5 any) udp (Err EntryRange)
    ∷ row (take 25 (ip_entry any any 255 1 any)) udp (Err EntryCut)
    ∷ row (ip_entry_of 1 0 any any 255 1 any 9) udp no_stream
    ∷ row (ip_entry_of 3 5 any any 255 1 any 9) udp no_stream
    ∷ row (ip_entry any any 0 1 any ++ entry 1 receiver 3 0 7) udp (stream 7)
    ∷ row (ip_entry from to 46 3 both ++ ip_entry_of 3 0 from to 46 2 both 8) udp (stream 8)
    ∷ row (ip_entry from to 46 2 both ++ ip_entry_of 3 0 from to 46 2 both 8) udp (stream 9)
    ∷ row (ip_entry from to 46 3 both ++ (0 ∷ [])) udp (Err EntryKind)
    ∷ []

as_listed : map (λ (x : Row). lookup_of x.table x.frame) rows ≡ map (λ (x : Row). x.answer) rows
unfolding rows row stream no_stream entry plain in_vlan short receiver sender packet udp ip_entry_of ip_entry any from to both
    lookup_of table_verdict table_checks entry_checks entries entries_after body_length kind_of address choice vlan_of handle out_of_range
    ip_out_of_range unfit source_ip destination_ip dscp protocol source_port destination_port first_match
    matches allows choice_allows address_of ip_allows ip_fits protocol_fits ports_fit no_port dscp_fits zero_or protocol_number
    version words header_length later bad cut reading ip.dscp ip.header
    verdict ◌then◌ be16 be32 be48 checks length_checks ctag_checks sequence_checks
    header ctag sequence_tag destination source tagged vlan tag_place announces sequenced announced number kind_place kind payload_place
as_listed = refl
