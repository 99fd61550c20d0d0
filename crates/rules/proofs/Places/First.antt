-- The first numbered packet passes at the place of its own number, and its mark alone is set. For every history length that there is.
-- Assumes nothing.
use mathlib.Core.Path.{refl}
use mathlib.Core.Bool.{true}
use mathlib.Core.List.{[], ◌∷◌}
use Prim.Native.Nat.{ℕ, ◌+◌, ◌≤◌, ◌<◌}
use native.Mathlib.Nat.{sub-zero}
use native.Mathlib.Omega.{arith}
use Rattle.marks.specs.Window.{most, none, set}
use Rattle.rules.specs.TakeAny.{first_marks, first}
use Rattle.rules.specs.Places.{among, place, passes, after}
use Rattle.rules.proofs.Places.Sum.{kept_first, newest_alone}
use Rattle.rules.proofs.Places.Shown.{Shown, shown_none, shown_set}
use Rattle.rules.proofs.Places.Step.{Obeys, lost_none, lost_first}

pub first_obeys : (h number : ℕ) → 1 ≤ h → h ≤ most → number < 65536 → Obeys h [] number (first true number)
unfolding first first_marks after passes place among
first_obeys h number hs room bits =
    record {
      verdict = refl;
      follows = record { kept = kept_first h number hs; at = rw newest_alone (omega arith); shown = rw newest_alone shown };
      loses = rw (lost_first h p, lost_none h);
    }
  where
    p : ℕ
    p = 65536 + number

    shown : Shown h p (p ∷ []) (set 0 none)
    shown = rw sub-zero at (shown_set h hs room [] p none (shown_none h p) 0 hs (omega arith))
