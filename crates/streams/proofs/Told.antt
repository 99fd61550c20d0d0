-- The verdict that an answer tells. Assumes nothing.
use mathlib.Core.Path.{◌≡◌, refl}
use Rattle.std.specs.Prelude.{Ok, Err}
use Rattle.octets.specs.declared.Refusal.{Refusal}
use Rattle.octets.specs.Checks.{Verdict, good, refuse, answered}

module _ {A : Type 0} where
  pub told_good : (v : Verdict) (b : A) {a : A} → Ok a ≡ answered v b → v ≡ good
  told_good good b e = refl
  told_good (refuse n) b e = cc

  pub told_refused : (v : Verdict) (b : A) {n : Refusal} → Err n ≡ answered v b → v ≡ refuse n
  told_refused good b e = cc
  told_refused (refuse m) b e = cc
