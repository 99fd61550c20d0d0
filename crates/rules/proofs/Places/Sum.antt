-- The sum closes (`SumCloses` of `specs/Places`), by what every list of passed places keeps. Assumes nothing.
use mathlib.Core.Path.{◌≡◌, refl}
use mathlib.Core.Bool.{false}
use mathlib.Core.List.{List, [], ◌∷◌}
use Prim.Native.Nat.{ℕ, ◌+◌, ◌-◌, ◌≤◌, ◌<◌, max}
use native.Mathlib.Omega.{arith}
use Rattle.octets.proofs.Bools.{either}
use Rattle.rules.specs.Places.{among, newest_place, first_place, place, passes, after, passed, unpassed}
use Rattle.rules.specs.Places.{window, moved_on, lost, still_open, Closes, SumCloses}
use Rattle.rules.proofs.Places.Passing.{passes_above, passes_new}
use Rattle.rules.proofs.Places.Counting.{Held, held_wider, held_sum, unpassed_split}

-- passed places: the first at one turn or above, the newest at the first or above, and all of them, no one twice, in the range from the
-- first window's last place to the newest
pub record Kept (h : ℕ) (ps : List ℕ) : Type 0 where
  pub turn : 65536 ≤ first_place ps
  pub up : first_place ps ≤ newest_place ps
  pub held : Held (first_place ps + 1 - h) (newest_place ps - first_place ps + h) ps

pub newest_alone : (p : ℕ) → newest_place (p ∷ []) ≡ p
unfolding newest_place
newest_alone p = omega arith

pub kept_first : (h number : ℕ) → 1 ≤ h → Kept h ((65536 + number) ∷ [])
unfolding newest_place first_place among
kept_first h number hs = record { turn = omega arith; up = omega arith; held = (omega arith, omega arith, refl, tt) }

pub newest_next : (q : ℕ) (ps : List ℕ) → newest_place (q ∷ ps) ≡ max q (newest_place ps)
unfolding newest_place
newest_next q ps = refl

pub first_next : (q p : ℕ) (ps : List ℕ) → first_place (q ∷ p ∷ ps) ≡ first_place (p ∷ ps)
unfolding first_place
first_next q p ps = refl

pub kept_next : (h q p : ℕ) (ps : List ℕ) → h ≤ 65536 → Kept h (p ∷ ps) → newest_place (p ∷ ps) < q + h → among q (p ∷ ps) ≡ false
    → Kept h (q ∷ p ∷ ps)
unfolding first_place newest_place
kept_next h q p ps hs kept near new =
    record {
      turn = rw (first_next q p ps) kept.turn;
      up = rw (first_next q p ps, newest_next q (p ∷ ps)) (omega arith);
      held =
          rw (first_next q p ps, newest_next q (p ∷ ps))
          (omega arith, omega arith, new, held_wider _ _ _ (p ∷ ps) (omega arith) kept.held);
    }

pub kept_after : (h p : ℕ) (ps : List ℕ) (number : ℕ) → h ≤ 65536 → Kept h (p ∷ ps) → Kept h (after h (p ∷ ps) number)
unfolding after
kept_after h p ps number hs kept =
    either (Kept h) (passes h (p ∷ ps) number)
    (λ t. kept_next h _ p ps hs kept (passes_above h p ps number t) (passes_new h p ps number t))
    (λ _. kept)

-- places in the window at the first packet, plus places it has moved on, equal those passed, plus those lost, plus those still open
kept_closes : (h p : ℕ) (ps : List ℕ) → h ≤ 65536 → Kept h (p ∷ ps) → Closes h (p ∷ ps)
unfolding window moved_on lost still_open
kept_closes h p ps hs kept =
    let qs : List ℕ = p ∷ ps in
    let meet : first_place qs + 1 - h + (newest_place qs - first_place qs) ≡ newest_place qs + 1 - h = omega arith in
    omega (arith, held_sum _ _ qs kept.held, rw meet at (unpassed_split qs (first_place qs + 1 - h) (newest_place qs - first_place qs) h))

none_closes : (h : ℕ) → Closes h []
unfolding window moved_on lost still_open newest_place first_place unpassed
none_closes h = refl

-- so for every list of packets
abbrev pub Kept_or_none : ℕ → List ℕ → Type 0
Kept_or_none h [] = Unit
Kept_or_none h (p ∷ ps) = Kept h (p ∷ ps)

kept_is : (h : ℕ) (ps : List ℕ) → Kept h ps → Kept_or_none h ps
kept_is h [] kept = tt
kept_is h (p ∷ ps) kept = kept

next_kept : (h : ℕ) (ps : List ℕ) (number : ℕ) → 1 ≤ h → h ≤ 65536 → Kept_or_none h ps → Kept_or_none h (after h ps number)
unfolding after passes place
next_kept h [] number hs room kept = kept_first h number hs
next_kept h (p ∷ ps) number hs room kept = kept_is h (after h (p ∷ ps) number) (kept_after h p ps number room kept)

pub all_kept : (h : ℕ) (numbers : List ℕ) → 1 ≤ h → h ≤ 65536 → Kept_or_none h (passed h numbers)
unfolding passed
all_kept h [] hs room = tt
all_kept h (number ∷ older) hs room = next_kept h (passed h older) number hs room (all_kept h older hs room)

pub sum_closes : SumCloses
sum_closes h numbers hs room = by (passed h numbers) (all_kept h numbers hs room)
  where
    by : (ps : List ℕ) → Kept_or_none h ps → Closes h ps
    by [] kept = none_closes h
    by (p ∷ ps) kept = kept_closes h p ps room kept
