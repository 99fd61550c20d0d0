-- Counting the places that have not passed: a range split in two, and what one more passed place changes. Assumes nothing.
use mathlib.Core.Path.{◌≡◌, refl, sym, ap, ap₂, ◌∙◌}
use mathlib.Core.Bool.{Bool, true, false, cond}
use mathlib.Core.Logic.{◌⊎◌, inl, inr, ◌≢◌}
use mathlib.Core.List.{List, [], ◌∷◌}
use Prim.Native.Nat.{ℕ, zero, suc, ◌+◌, ◌≤◌, ◌<◌}
use native.Mathlib.Nat.{suc-add, add-suc, zero-add, add-zero, add_assoc}
use native.Mathlib.Numerals.{add-one}
use native.Mathlib.Omega.{arith}
use lib.Dec.{eqb}
use lib.ListN.{length}
use borrow.Author.Tests.{eqb-true, eqb-false}
use Rattle.rules.specs.Places.{among, unpassed}
use Rattle.rules.proofs.Places.Among.{among_others}

pub none_passed : (from n : ℕ) → unpassed [] from n ≡ n
unfolding unpassed among
none_passed from zero = refl
none_passed from (suc n) = omega (arith, none_passed (suc from) n)

pub unpassed_split : (ps : List ℕ) (from a b : ℕ) → unpassed ps from (a + b) ≡ unpassed ps from a + unpassed ps (from + a) b
unfolding unpassed
unpassed_split ps from zero b = simp (zero-add, add-zero)
unpassed_split ps from (suc a) b =
    rw (suc-add, unpassed_split ps (suc from) a b, suc-add, add-suc, add_assoc)

-- no place, and one place more at the end
pub unpassed_zero : (ps : List ℕ) (from : ℕ) → unpassed ps from 0 ≡ 0
unfolding unpassed
unpassed_zero ps from = refl

one_place : (ps : List ℕ) (from : ℕ) → unpassed ps from 1 ≡ cond (among from ps) 0 1
unfolding unpassed
one_place ps from = add-zero _

pub unpassed_last : (ps : List ℕ) (from n : ℕ) → unpassed ps from (suc n) ≡ unpassed ps from n + cond (among (from + n) ps) 0 1
unpassed_last ps from n =
    ap (unpassed ps from) (sym (add-one n)) ∙ unpassed_split ps from n 1 ∙ ap (λ (k : ℕ). unpassed ps from n + k) (one_place ps (from + n))

-- a passed place outside of the range changes nothing in it
pub unpassed_outside : (q : ℕ) (ps : List ℕ) (from n : ℕ) → (q < from) ⊎ (from + n ≤ q) → unpassed (q ∷ ps) from n ≡ unpassed ps from n
unfolding unpassed
unpassed_outside q ps from zero out = refl
unpassed_outside q ps from (suc n) out =
    ap₂ (λ (t : Bool) (k : ℕ). cond t 0 1 + k) (among_others from q ps (apart out)) (unpassed_outside q ps (suc from) n (on out))
  where
    apart : (q < from) ⊎ (from + suc n ≤ q) → from ≡ q → ⊥
    apart (inl h) e = omega arith
    apart (inr h) e = omega arith

    on : (q < from) ⊎ (from + suc n ≤ q) → (q < suc from) ⊎ (suc from + n ≤ q)
    on (inl h) = inl (omega arith)
    on (inr h) = inr (omega arith)

-- one more passed place in the range is one place less that has not passed
pub unpassed_inside : (q : ℕ) (ps : List ℕ) (from n : ℕ) → from ≤ q → q < from + n → among q ps ≡ false
    → suc (unpassed (q ∷ ps) from n) ≡ unpassed ps from n
unfolding unpassed among
unpassed_inside q ps from zero lo hi new = absurd (omega arith)
unpassed_inside q ps from (suc n) lo hi new = go (eqb from q) refl (unpassed_inside q ps (suc from) n)
  where
    go : (t : Bool) → eqb from q ≡ t
        → (suc from ≤ q → q < suc from + n → among q ps ≡ false → suc (unpassed (q ∷ ps) (suc from) n) ≡ unpassed ps (suc from) n)
        → suc (unpassed (q ∷ ps) from (suc n)) ≡ unpassed ps from (suc n)
    go true t ih =
        let at : from ≡ q = eqb-true from q t in
        let unmet : among from ps ≡ false = rw at new in
        rw (t, unmet) (omega (arith, unpassed_outside q ps (suc from) n (inl (omega arith))))
    go false t ih =
        let off : from ≢ q = eqb-false from q t in
        rw t (omega (arith, ih (omega arith) (omega arith) new))

-- Places of a range, no place twice
abbrev pub Held : ℕ → ℕ → List ℕ → Type 0
Held from n [] = Unit
Held from n (p ∷ ps) = (from ≤ p) × (p < from + n) × (among p ps ≡ false) × Held from n ps

pub held_wider : (from n m : ℕ) (ps : List ℕ) → n ≤ m → Held from n ps → Held from m ps
held_wider from n m [] h held = tt
held_wider from n m (p ∷ ps) h held = (held.0, omega arith, held.2, held_wider from n m ps h held.3)

-- of the n places of a range, those that have passed and those that have not are all
pub held_sum : (from n : ℕ) (ps : List ℕ) → Held from n ps → length ps + unpassed ps from n ≡ n
held_sum from n [] held = omega (arith, none_passed from n)
held_sum from n (p ∷ ps) held =
    omega (arith, held_sum from n ps held.3, unpassed_inside p ps from n held.0 held.1 held.2)
