-- The test of `Matching` as a walk makes it: by the number of an entry's first eight octets, kind, address and choice. That it is the same
-- test is a law (`proofs/Front`). Assumes nothing.
use Rattle.std.specs.Prelude.{ℕ, ◌/◌, ◌%◌, ◌≡◌, Bool, ◌&&◌, ◌||◌, eqb}

-- `choice_fits`: the choice, by the VLAN id that a frame has without a C-TAG too
unfoldable pub choice_fits : ℕ → (tagged : Bool) → (vlan : ℕ) → Bool
choice_fits choice tagged vlan = (eqb choice 1 && tagged) || (eqb choice 2 && eqb vlan 0) || eqb choice 3

-- address, choice and VLAN, of a frame that has a C-TAG or has none, and this VLAN id
unfoldable pub allows_by : (front asked vlan : ℕ) → (tagged : Bool) → (id : ℕ) → Bool
allows_by front asked vlan tagged id =
    eqb (front / 256 % 281474976710656) asked
    && choice_fits (front % 256) tagged id
    && (eqb vlan 0 || eqb vlan id)

-- the promise of `allows`
abbrev pub Allows : (front asked vlan : ℕ) → (tagged : Bool) → (id : ℕ) → Bool → Type 0
Allows front asked vlan tagged id r = r ≡ allows_by front asked vlan tagged id
