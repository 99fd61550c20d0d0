-- Which places are among the passed ones. Assumes nothing.
use mathlib.Core.Path.{◌≡◌, refl, ap, ◌∙◌}
use mathlib.Core.Bool.{Bool, true, false, ◌&&◌, and-false}
use mathlib.Core.Logic.{◌⊎◌, inl, inr}
use mathlib.Core.List.{List, [], ◌∷◌}
use Prim.Native.Nat.{ℕ, ◌+◌, ◌≤◌, ◌<◌}
use native.Mathlib.Omega.{arith}
use borrow.Author.Tests.{eq-eqb, ne_eqb, lt-ltb, le-ltb}
use lib.Dec.{ltb}
use Rattle.octets.proofs.Bools.{and_true}
use Rattle.rules.specs.Places.{among, near, newest_place}

pub among_itself : (p : ℕ) (ps : List ℕ) → among p (p ∷ ps) ≡ true
unfolding among
among_itself p ps = rw (eq-eqb p p refl)

pub among_others : (p q : ℕ) (ps : List ℕ) → (p ≡ q → ⊥) → among p (q ∷ ps) ≡ among p ps
unfolding among
among_others p q ps apart = rw (ne_eqb p q apart)

-- no place above the newest has passed
pub none_above : (p : ℕ) (ps : List ℕ) → newest_place ps < p → among p ps ≡ false
unfolding among newest_place
none_above p [] h = refl
none_above p (q ∷ ps) h =
    let apart : p ≡ q → ⊥ = λ e. omega arith in
    rw (ne_eqb p q apart) (none_above p ps (omega arith))

-- less than h apart, both ways
pub near_true : (h p q : ℕ) → p < q + h → q < p + h → near h p q ≡ true
unfolding near
near_true h p q hp hq = and_true (lt-ltb p (q + h) hp) (lt-ltb q (p + h) hq)

pub near_false : (h p q : ℕ) → (q + h ≤ p) ⊎ (p + h ≤ q) → near h p q ≡ false
unfolding near
near_false h p q (inl far) = ap (λ (t : Bool). t && ltb q (p + h)) (le-ltb p (q + h) far)
near_false h p q (inr far) = ap (λ (t : Bool). ltb p (q + h) && t) (le-ltb q (p + h) far) ∙ and-false (ltb p (q + h))
