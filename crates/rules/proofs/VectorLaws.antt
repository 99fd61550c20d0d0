-- The vector rule by cases: which of its lines a packet falls under, from how far apart the numbers are. Assumes nothing.
use Prim.Native.Nat.{ℕ, ◌+◌, ◌-◌, ◌<◌, ◌≤◌}
use mathlib.Core.Path.{◌≡◌, refl, ap, ◌∙◌}
use mathlib.Core.Bool.{cond}
use lib.Dec.{eqb, ltb}
use borrow.Author.Tests.{lt-ltb, le-ltb, le-leb, lt-leb, ne_eqb, eqb-true, eqb-false, ltb-false}
use native.Mathlib.Omega.{arith}
use Rattle.octets.proofs.Bools.{either}
use Rattle.marks.specs.declared.Marks.{Marks}
use Rattle.rules.specs.Difference.{Difference, ahead, behind, apart, signed, difference, out_of_order}
use Rattle.rules.specs.Effects.{discarded}
use Rattle.rules.specs.Vector.{late, onward, by_difference, vector}

-- d from number - newest modulo 65,536
module _ (newest number far : ℕ) (e : apart newest number ≡ far) where
  pub is_same : far ≡ 0 → difference newest number ≡ behind 0
  unfolding difference signed
  is_same z = ap signed (e ∙ z)

  pub is_ahead : (far ≡ 0 → ⊥) → far < 32768 → difference newest number ≡ ahead far
  unfolding difference signed
  is_ahead z p = ap signed e ∙ rw (ne_eqb _ _ z, lt-ltb _ _ p)

  pub is_behind : 32768 ≤ far → difference newest number ≡ behind (65536 - far)
  unfolding difference signed
  is_behind p =
      let z : far ≡ 0 → ⊥ = λ q. omega arith in
      ap signed e ∙ rw (ne_eqb _ _ z, le-ltb _ _ p)

-- a number is 0 apart from itself
pub apart_self : (number : ℕ) → apart number number ≡ 0
unfolding apart
apart_self number = let turn : number + 65536 - number ≡ 65536 = omega arith in rw turn

-- and one that is ahead by k is k apart
pub apart_ahead : (newest number k : ℕ) → difference newest number ≡ ahead k → (apart newest number ≡ k) × (1 ≤ k)
unfolding difference signed
apart_ahead newest number k =
    either leads (eqb far 0) (λ _ e. cc)
    (λ some. either leads (ltb far 32768)
    (λ _ e. let same : far ≡ k = cc in (same, omega (arith, eqb-false far 0 some)))
    (λ _ e. cc))
  where
    far : ℕ
    far = apart newest number

    leads : Difference → Type 0
    leads d = d ≡ ahead k → (far ≡ k) × (1 ≤ k)

-- the rule from d
module _ (h newest : ℕ) (marks : Marks) (number k : ℕ) where
  pub rogue_ahead : difference newest number ≡ ahead k → h ≤ k → vector h newest marks number ≡ discarded newest marks 1
  unfolding vector
  rogue_ahead e p = ap (by_difference h newest marks number) e ∙ rw (le-leb h k p)

  pub goes_onward : difference newest number ≡ ahead k → k < h → vector h newest marks number ≡ onward h number marks k
  unfolding vector
  goes_onward e p = ap (by_difference h newest marks number) e ∙ rw (lt-leb h k p)

  pub rogue_behind : difference newest number ≡ behind k → h ≤ k → vector h newest marks number ≡ discarded newest marks 1
  unfolding vector
  rogue_behind e p = ap (by_difference h newest marks number) e ∙ rw (le-leb h k p)

  pub comes_late : difference newest number ≡ behind k → k < h → vector h newest marks number ≡ late newest marks k
  unfolding vector
  comes_late e p = ap (by_difference h newest marks number) e ∙ rw (lt-leb h k p)

-- order is spared only at d = 1
pub order_spared : (newest number : ℕ) → out_of_order (difference newest number) ≡ cond (eqb (apart newest number) 1) 0 1
unfolding difference signed out_of_order
order_spared newest number =
    either unless_one (eqb far 0)
    (λ z. rw (eqb-true far 0 z))
    (λ _. either unless_one (ltb far 32768)
    (λ _. refl)
    (λ t. let above : 32768 ≤ far = ltb-false far 32768 t in rw (ne_eqb far 1 (λ e. omega arith))))
  where
    far : ℕ
    far = apart newest number

    unless_one : Difference → Type 0
    unless_one d = out_of_order d ≡ cond (eqb far 1) 0 1
