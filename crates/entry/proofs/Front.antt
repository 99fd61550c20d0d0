-- The test of every kind by an entry's front, its first eight octets as one number, is the test by its fields. Assumes nothing.
use Prim.Native.Nat.{ℕ, ◌/◌, ◌%◌}
use mathlib.Core.Path.{◌≡◌, refl}
use mathlib.Core.List.{List}
use Rattle.std.specs.Prelude.{Option, Some, None, is_some}
use Rattle.frame.specs.declared.Header.{Header}
use Rattle.entry.specs.Contents.{address, choice, vlan}
use Rattle.entry.specs.Matching.{vlan_id, choice_allows, allows}
use Rattle.entry.specs.Front.{choice_fits, allows_by}

-- a frame without C-TAG has VLAN id 0: so the id decides for priority
pub choice-fits : (choice : ℕ) (vlan : Option ℕ) → choice_fits choice (is_some vlan) (vlan_id vlan) ≡ choice_allows choice vlan
unfolding choice_fits choice_allows
choice-fits choice None = refl
choice-fits choice (Some id) = refl

pub allows_front : (e : List ℕ) (asked : ℕ) (h : Header) (front : ℕ) → front / 256 % 281474976710656 ≡ address e
    → front % 256 ≡ choice e → allows_by front asked (vlan e) (is_some h.vlan) (vlan_id h.vlan) ≡ allows e asked h
unfolding allows_by allows
allows_front e asked h front six last = rw (six, last, choice-fits (choice e) h.vlan)
