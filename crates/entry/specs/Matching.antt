-- When an entry matches a frame (document 01, "Stream tables"; 002 clauses 9.1.2 and 9.1.3 for the three tag choices; document 02, CR 1 for
-- IP streams). Assumes nothing.
use Rattle.std.specs.Prelude.{ℕ, ◌≡◌, Bool, cond, not, ◌&&◌, ◌||◌, List, eqb, Option, is_some, unwrap_or}
use Rattle.frame.specs.declared.Header.{Header}
use Rattle.entry.specs.Contents.{kind, IP, address, choice, vlan}
use Rattle.entry.specs.Ip.{ip_allows}

-- "a frame without C-TAG has VLAN id 0"
abbrev pub vlan_id : Option ℕ → ℕ
vlan_id vlan = unwrap_or vlan 0

-- "tagged: has a C-TAG; priority: none, or VLAN id 0; all: any", of the VLAN id of a frame's C-TAG
unfoldable pub choice_allows : ℕ → Option ℕ → Bool
choice_allows choice vlan =
    (eqb choice 1 && is_some vlan) || (eqb choice 2 && (not (is_some vlan) || eqb (vlan_id vlan) 0)) || eqb choice 3

-- "An entry matches if the address is equal, the choice allows the frame" .. "and its VLAN is 0 or equals the frame's": the test of every
-- kind, with the frame's address that the kind asks for
unfoldable pub allows : List ℕ → (asked : ℕ) → Header → Bool
allows e asked h =
    eqb (address e) asked && choice_allows (choice e) h.vlan && (eqb (vlan e) 0 || eqb (vlan e) (vlan_id h.vlan))

-- "Kind 1 (Null, by destination) and kind 2 (by source)"; kind 4 has a "destination address"
unfoldable pub address_of : ℕ → Header → ℕ
address_of kind h = cond (eqb kind 2) h.source h.destination

-- "An entry matches" a frame with this header and payload; kind 4 asks for more
unfoldable pub matches : List ℕ → Header → List ℕ → Bool
matches e h p = allows e (address_of (kind e) h) h && (not (eqb (kind e) IP) || ip_allows e h.kind p)

-- the promise of `address_of`
abbrev pub Asks : ℕ → Header → ℕ → Type 0
Asks kind h r = r ≡ address_of kind h
