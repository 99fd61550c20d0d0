-- What an entry of kind 4 asks of a payload, by the packet that was read once. Assumes nothing.
use Prim.Native.Nat.{ℕ}
use mathlib.Core.Path.{◌≡◌, refl}
use mathlib.Core.List.{List}
use lib.Dec.{eqb}
use Rattle.octets.proofs.Bools.{by_cases}
use Rattle.entry.specs.Ip.{IPv4, fits_as, ip_allows, packet_of}

pub read_once : (e : List ℕ) (type : ℕ) (p : List ℕ) → fits_as e (packet_of type p) p ≡ ip_allows e type p
unfolding ip_allows packet_of
read_once e type p = by_cases (eqb type IPv4) (λ yes. rw yes refl) (λ no. rw no refl)
