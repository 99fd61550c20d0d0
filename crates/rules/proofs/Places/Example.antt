-- The places computed on document 01's examples. Assumes nothing.
use mathlib.Core.Path.{◌≡◌, refl}
use mathlib.Core.Bool.{true, false}
use mathlib.Core.List.{List, [], ◌∷◌}
use Prim.Native.Nat.{ℕ, ◌+◌}
use lib.ListN.{length}
use Rattle.rules.specs.Places.{newest_place, first_place, among, near, nearest, place, passes, after, passed}
use Rattle.rules.specs.Places.{unpassed, window, moved_on, lost, before_first, lost_above, still_open}

-- H 4, packets 10 10 12 11 20, latest first: 10, 12 and 11 pass
abbrev bench : List ℕ
bench = (65536 + 11) ∷ (65536 + 12) ∷ (65536 + 10) ∷ []

bench_passes : passed 4 (20 ∷ 11 ∷ 12 ∷ 10 ∷ 10 ∷ []) ≡ bench
unfolding passed after passes place nearest near among newest_place
bench_passes = refl

-- 4 + 2 = 3 passed + 2 lost (7, 8) + 1 open (9)
bench_counts : (window 4 bench ≡ 4) × (moved_on bench ≡ 2) × (length bench ≡ 3) × (lost 4 bench ≡ 2) × (still_open 4 bench ≡ 1)
unfolding window moved_on lost still_open unpassed newest_place first_place among
bench_counts = (refl, refl, refl, refl, refl)

bench_lost : (among (65536 + 7) bench ≡ false) × (among (65536 + 8) bench ≡ false) × (among (65536 + 9) bench ≡ false)
unfolding among
bench_lost = (refl, refl, refl)

-- both lost places lie below the first packet's
bench_before : (before_first 4 bench ≡ 2) × (lost_above 4 bench ≡ 0)
unfolding before_first lost_above moved_on unpassed newest_place first_place among
bench_before = (refl, refl)

-- H 64, first 0: 65,473 stands 63 places below the first and passes; 65,472 and 32,768 do not
below_zero : (place (65536 ∷ []) 65473 ≡ 65473)
    × (passes 64 (65536 ∷ []) 65473 ≡ true)
    × (passes 64 (65536 ∷ []) 65472 ≡ false)
    × (passes 64 (65536 ∷ []) 32768 ≡ false)
unfolding passes place nearest near among newest_place
below_zero = (refl, refl, refl, refl)

-- H 512, first 0: 65,025 stands 511 places below the first and passes; 65,024 does not
far_below_zero : (place (65536 ∷ []) 65025 ≡ 65025)
    × (passes 512 (65536 ∷ []) 65025 ≡ true)
    × (passes 512 (65536 ∷ []) 65024 ≡ false)
unfolding passes place nearest near among newest_place
far_below_zero = (refl, refl, refl)
