-- The test of `Ambiguous` as the code makes it, by choices and VLANs. That it is the same where the fields are in range are two laws
-- (`proofs/Ambiguous`). Assumes nothing.
use Rattle.std.specs.Prelude.{ℕ, ◌/◌, ◌%◌, ◌≡◌, Bool, not, ◌&&◌, ◌||◌, List, eqb}
use Rattle.entry.specs.Contents.{kind, address, choice, vlan}
use Rattle.entry.specs.Ambiguous.{by_address}

-- `meet`: two choices and VLANs leave a frame for both. Where both VLANs are 0 it is one with a C-TAG of VLAN id 0, which is tagged and
-- priority too. Else it has the VLAN that one asks for and the other allows, and priority allows none but 0.
unfoldable pub meet : (choice vlan other beside : ℕ) → Bool
meet choice vlan other beside =
    (eqb vlan 0 && eqb beside 0)
    || (not (eqb choice 2) && not (eqb other 2) && (eqb vlan 0 || eqb beside 0 || eqb vlan beside))

-- the test of two entries
unfoldable pub clash : List ℕ → List ℕ → Bool
clash e f = by_address e && eqb (kind e) (kind f) && eqb (address e) (address f) && meet (choice e) (vlan e) (choice f) (vlan f)

-- the same of entries of kinds 1 and 2, by their first eight octets as one number: kind, address and choice
unfoldable pub clash_by : (front vlan other beside : ℕ) → Bool
clash_by front vlan other beside = eqb (front / 256) (other / 256) && meet (front % 256) vlan (other % 256) beside

-- the promise of `clash`
abbrev pub Clashes : (front vlan other beside : ℕ) → Bool → Type 0
Clashes front vlan other beside r = r ≡ clash_by front vlan other beside
