-- A copy that is under way: the first n of a list stand before what another has from n on, and one more is stored. Assumes nothing.
use Prim.Native.Nat.{ℕ, zero, suc, ◌+◌, ◌<◌}
use native.Mathlib.Nat.{not-suc-le-zero, le_of_suc-le-suc}
use native.Mathlib.Numerals.{add-one}
use mathlib.Core.Path.{◌≡◌, refl, ap}
use mathlib.Core.List.{List, [], ◌∷◌, ◌++◌}
use lib.ListN.{length, take, drop, get_or, set}

module _ {A : Type 0} where
  after_suc : (src out : List A) (n : ℕ) {x : A} → n < length src → n < length out → x ≡ get_or src n x
      → set (take n src ++ drop n out) n x ≡ take (suc n) src ++ drop (suc n) out
  after_suc [] out n l m e = absurd (not-suc-le-zero l)
  after_suc (y ∷ src) [] n l m e = absurd (not-suc-le-zero m)
  after_suc (y ∷ src) (z ∷ out) zero l m e = rw e refl
  after_suc (y ∷ src) (z ∷ out) (suc n) l m e = ap (λ (t : List A). y ∷ t) (after_suc src out n (le_of_suc-le-suc l) (le_of_suc-le-suc m) e)

  pub one_more : (src out : List A) (n : ℕ) {x : A} → n < length src → n < length out → x ≡ get_or src n x
      → set (take n src ++ drop n out) n x ≡ take (n + 1) src ++ drop (n + 1) out
  one_more src out n l m e = rw (add-one n) (after_suc src out n l m e)
