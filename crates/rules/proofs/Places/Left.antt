-- What the window has left is left for good (`LeftForGood` of `specs/Places`). Assumes nothing.
use mathlib.Core.Path.{◌≡◌, refl}
use mathlib.Core.List.{List, ◌∷◌}
use Prim.Native.Nat.{ℕ}
use native.Mathlib.Omega.{arith}
use Rattle.octets.proofs.Bools.{either}
use Rattle.rules.specs.Places.{among, place, passes, after, LeftForGood}
use Rattle.rules.proofs.Places.Among.{among_others}
use Rattle.rules.proofs.Places.Passing.{passes_above}

pub left_for_good : LeftForGood
unfolding after
left_for_good h p ps number left gone =
    either (λ (qs : List ℕ). among left qs ≡ among left (p ∷ ps)) (passes h (p ∷ ps) number)
    (λ t. among_others left (place (p ∷ ps) number) (p ∷ ps) (λ e. omega (arith, passes_above h p ps number t)))
    (λ _. refl)
