-- Checks one after the other: the first list decides where it refuses, and the second where it does not. Assumes nothing.
use native.Mathlib.Omega.{arith}
use mathlib.Core.Path.{◌≡◌, refl}
use mathlib.Core.Bool.{Bool, true, false, cond, not}
use mathlib.Core.List.{List, [], ◌∷◌, ◌++◌}
use lib.Dec.{ltb}
use borrow.Author.Tests.{ltb-true}
use Rattle.octets.specs.declared.Refusal.{Refusal}
use Rattle.octets.specs.declared.Refusal.TheVariants.{FrameShort}
use Rattle.octets.specs.Refusals.{number}
use Rattle.octets.specs.Checks.{Check, ◌⇒◌, Verdict, good, refuse, verdict, ◌then◌, refusal}

-- a refusal is no good verdict
pub refused {ℓ} : {X : Type ℓ} {n : Refusal} → refuse n ≡ good → X
refused e = absurd cc

pub verdict_append : (a b : List Check) → verdict (a ++ b) ≡ verdict a then verdict b
unfolding verdict ◌then◌
verdict_append [] b = refl
verdict_append ((true ⇒ n) ∷ a) b = refl
verdict_append ((false ⇒ n) ∷ a) b = verdict_append a b

-- what is made of a verdict, by its first check and then by the others
pub first_check : {A : Type 0} (f : Verdict → A) (holds : Bool) (n : Refusal) (rest : List Check)
    → f (verdict (not holds ⇒ n ∷ rest)) ≡ cond holds (f (verdict rest)) (f (refuse n))
unfolding verdict
first_check f true n rest = refl
first_check f false n rest = refl

-- what a good verdict says of each check
pub clear : (b : Bool) (n : Refusal) (rest : List Check) → verdict (b ⇒ n ∷ rest) ≡ good → (b ≡ false) × (verdict rest ≡ good)
unfolding verdict
clear true n rest e = refused e
clear false n rest e = (refl, e)

-- no refusal has 0 for its number; the second line is tried for each of the others
pub above_zero : (r : Refusal) → ltb 0 (number r) ≡ true
unfolding number
above_zero FrameShort = refl
above_zero r = refl

-- where 0 is the number that comes of a verdict, or of checks, nothing is refused
pub none_refused : (v : Verdict) → refusal v ≡ 0 → v ≡ good
none_refused good e = refl
none_refused (refuse r) e = absurd (omega (arith, ltb-true 0 (number r) (above_zero r)))

pub nothing_refused : (checks : List Check) → refusal (verdict checks) ≡ 0 → verdict checks ≡ good
nothing_refused checks = none_refused (verdict checks)

-- both parts of a good verdict are good
pub both_good : (v w : Verdict) → v then w ≡ good → (v ≡ good) × (w ≡ good)
unfolding ◌then◌
both_good good w e = (refl, e)
both_good (refuse n) w e = refused e
