-- Any two answers that a promise of this room allows are equal. Assumes nothing.
use Prim.Native.Nat.{ℕ}
use mathlib.Core.Path.{◌≡◌}
use mathlib.Core.Bool.{Bool}
use mathlib.Core.List.{List}
use Rattle.std.specs.Prelude.{Result}
use Rattle.octets.proofs.Unique.{one}
use Rattle.frame.specs.declared.Header.{Header}
use Rattle.ipv4.specs.declared.Header as ip
use Rattle.ipv4.specs.declared.Unread.{Unread}
use Rattle.entry.specs.Contents.{HasBody, Ranges, IpRanges, Unfit}
use Rattle.entry.specs.Ip.{ReadsPacket, AllowsIp}
use Rattle.entry.specs.Matching.{Asks}
use Rattle.entry.specs.Front.{Allows}
use Rattle.entry.specs.Clash.{Clashes}

pub has_body_one : (kind : ℕ) {r r' : ℕ} → HasBody kind r → HasBody kind r' → r ≡ r'
has_body_one kind = one

pub ranges_one : (choice vlan : ℕ) {r r' : Bool} → Ranges choice vlan r → Ranges choice vlan r' → r ≡ r'
ranges_one choice vlan = one

pub ip_ranges_one : (dscp protocol : ℕ) {r r' : Bool} → IpRanges dscp protocol r → IpRanges dscp protocol r' → r ≡ r'
ip_ranges_one dscp protocol = one

pub unfit_one : (e : List ℕ) {r r' : Bool} → Unfit e r → Unfit e r' → r ≡ r'
unfit_one e = one

pub reads_packet_one : (type : ℕ) (p : List ℕ) {r r' : Result ip.Header Unread} → ReadsPacket type p r → ReadsPacket type p r' → r ≡ r'
reads_packet_one type p = one

pub allows_ip_one : (e : List ℕ) (packet : Result ip.Header Unread) (p : List ℕ) {r r' : Bool}
    → AllowsIp e packet p r → AllowsIp e packet p r' → r ≡ r'
allows_ip_one e packet p = one

pub asks_one : (kind : ℕ) (h : Header) {r r' : ℕ} → Asks kind h r → Asks kind h r' → r ≡ r'
asks_one kind h = one

pub allows_one : (front asked vlan : ℕ) (tagged : Bool) (id : ℕ) {r r' : Bool}
    → Allows front asked vlan tagged id r → Allows front asked vlan tagged id r' → r ≡ r'
allows_one front asked vlan tagged id = one

pub clashes_one : (front vlan other beside : ℕ) {r r' : Bool} → Clashes front vlan other beside r → Clashes front vlan other beside r' → r ≡ r'
clashes_one front vlan other beside = one
