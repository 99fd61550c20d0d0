-- Which packets after the first pass: those less than h from the newest passed place at a place not passed before. Assumes nothing.
use mathlib.Core.Path.{◌≡◌}
use mathlib.Core.Bool.{true, false, not, and-false}
use mathlib.Core.List.{List, ◌∷◌}
use Prim.Native.Nat.{ℕ, ◌+◌, ◌<◌}
use lib.Dec.{ltb}
use borrow.Author.Tests.{ltb-true, not-true}
use Rattle.rules.specs.Places.{newest_place, among, near, place, passes}
use Rattle.octets.proofs.Bools.{both}

near_both : (h p q : ℕ) → near h p q ≡ true → (p < q + h) × (q < p + h)
unfolding near
near_both h p q t =
    let t2 = both (ltb p (q + h)) (ltb q (p + h)) t in (ltb-true p (q + h) t2.0, ltb-true q (p + h) t2.1)

module _ (h p : ℕ) (ps : List ℕ) (number : ℕ) where
  abbrev q : ℕ
  q = place (p ∷ ps) number

  abbrev N : ℕ
  N = newest_place (p ∷ ps)

  pub far : near h q N ≡ false → passes h (p ∷ ps) number ≡ false
  unfolding passes
  far off = rw off

  pub again : among q (p ∷ ps) ≡ true → passes h (p ∷ ps) number ≡ false
  unfolding passes
  again had = rw (had, and-false)

  pub meets : near h q N ≡ true → among q (p ∷ ps) ≡ false → passes h (p ∷ ps) number ≡ true
  unfolding passes
  meets nearby new = rw (nearby, new)

  parts : passes h (p ∷ ps) number ≡ true → (near h q N ≡ true) × (not (among q (p ∷ ps)) ≡ true)
  unfolding passes
  parts t = both (near h q N) (not (among q (p ∷ ps))) t

  -- it lies above all that the window has left
  pub passes_above : passes h (p ∷ ps) number ≡ true → N < q + h
  passes_above t = (near_both h q N (parts t).0).1

  -- and less than h above the newest
  pub passes_below : passes h (p ∷ ps) number ≡ true → q < N + h
  passes_below t = (near_both h q N (parts t).0).0

  pub passes_new : passes h (p ∷ ps) number ≡ true → among q (p ∷ ps) ≡ false
  passes_new t = not-true (among q (p ∷ ps)) (parts t).1
