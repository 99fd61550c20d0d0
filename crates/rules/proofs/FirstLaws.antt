-- The first packet's place and the holes below it, by cases, and what they mean mark by mark (`HolesMean` of `specs/FirstPlace`). Assumes
-- nothing.
use Prim.Native.Nat.{ℕ, zero, suc, ◌+◌, ◌-◌, ◌≤◌, ◌<◌, min, max}
use native.Mathlib.Nat.{add-zero}
use native.Mathlib.Omega.{arith}
use mathlib.Core.Path.{◌≡◌, refl, ap}
use mathlib.Core.Bool.{true, false, ◌||◌, and-false, or-true}
use lib.Dec.{eqb, ltb}
use borrow.Author.Tests.{eqb-true, eqb-false, ne_eqb, le-leb, lt-leb, ltb-true, ltb-false}
use Rattle.octets.proofs.Bools.{by_cases, neither}
use Rattle.marks.specs.declared.Marks.{Marks}
use Rattle.marks.specs.Window.{moved, lost_by, lost_in}
use Rattle.marks.proofs.Meaning.{slides_mean}
use Rattle.rules.specs.declared.First.{First}
use Rattle.rules.specs.Difference.{apart}
use Rattle.rules.specs.FirstPlace.{nth, nowhere, carried, hole_by, holes_in, HolesMean}
use Rattle.rules.proofs.VectorLaws.{apart_self}

-- where nothing moves the first place stays, and nothing leaves
pub still_carried : (h : ℕ) (first : First) → carried h 0 first ≡ first
unfolding carried
still_carried h first = rw (or-true (eqb first.0 0))

pub still_holes : (h : ℕ) (first : First) (marks : Marks) → holes_in h 0 first marks ≡ 0
unfolding holes_in
still_holes h first marks = refl

-- none stays none, and has no holes below it
pub nowhere_carried : (h d : ℕ) → carried h d nowhere ≡ nowhere
unfolding carried
nowhere_carried h d = refl

pub nowhere_holes : (h d : ℕ) (marks : Marks) → holes_in h d nowhere marks ≡ 0
unfolding holes_in hole_by
nowhere_holes h zero marks = refl
nowhere_holes h (suc d) marks = rw (nowhere_carried h 1, nowhere_holes h d (moved h marks))

-- the n-th of the places
module _ (h d n : ℕ) (some : 1 ≤ n) where
  there : n ≡ 0 → ⊥
  there e = omega arith

  pub carried_in : n + d ≤ h → carried h d (nth n) ≡ nth (n + d)
  unfolding carried
  carried_in within =
      by_cases (eqb d 0)
      (λ still. rw (eqb-true d 0 still, still_carried h (nth n), add-zero n))
      (λ on. rw (ne_eqb n 0 there, on, le-leb (n + d) h within))

  pub carried_out : 1 ≤ d → h < n + d → carried h d (nth n) ≡ nowhere
  unfolding carried
  carried_out on beyond = rw (ne_eqb n 0 there, ne_eqb d 0 (λ none. omega arith), lt-leb (n + d) h beyond)

-- places below it leave before it does: its holes are what the first moves of a slide lose, as many as there are such places
pub nth_holes : (h d n : ℕ) → 1 ≤ n → (marks : Marks) → holes_in h d (nth n) marks ≡ lost_in h (min d (h - n)) marks
unfolding holes_in hole_by lost_in
nth_holes h zero n some marks = let none : min 0 (h - n) ≡ 0 = omega arith in rw none
nth_holes h (suc d) n some marks =
    by_cases (ltb n h)
    (λ inside.
    let low = ltb-true n h inside in
    let one_more : min (suc d) (h - n) ≡ suc (min d (h - (n + 1))) = omega arith in
    rw (ne_eqb n 0 (there h d n some), inside, one_more, carried_in h 1 n some (omega arith))
    (ap (λ (k : ℕ). lost_by h marks + k) (nth_holes h d (n + 1) (omega arith) (moved h marks))))
    (λ last.
    let high = ltb-false n h last in
    let none : min (suc d) (h - n) ≡ 0 = omega arith in
    rw (last, and-false, none, carried_out h 1 n some (omega arith) (omega arith), nowhere_holes h d (moved h marks)))

-- so it is with a packet that leaves the newest number as it is, or where there is no first place
pub stays : (h newest now : ℕ) (first : First) (marks : Marks) → (eqb first.0 0 || eqb now newest) ≡ true
    → (carried h (apart newest now) first ≡ first) × (holes_in h (apart newest now) first marks ≡ 0)
stays h newest now first marks =
    by_cases (eqb first.0 0)
    (λ none _.
    let it : first ≡ nowhere = ap nth (eqb-true first.0 0 none) in
    rw it (nowhere_carried h _, nowhere_holes h _ marks))
    (λ some either_way.
    let same : now ≡ newest = eqb-true now newest (rw some at either_way) in
    rw (same, apart_self newest) (still_carried h first, still_holes h first marks))

-- and else the window moves on, from one place of the h
pub moves : (n newest now : ℕ) → newest < 65536 → now < 65536 → (eqb n 0 || eqb now newest) ≡ false → (1 ≤ n) × (1 ≤ apart newest now)
unfolding apart
moves n newest now old new off =
    let off-both = neither (eqb n 0) (eqb now newest) off in
    (omega (arith, eqb-false n 0 off-both.0), omega (arith, eqb-false now newest off-both.1))

pub holes_mean : HolesMean
holes_mean h d n marks high within some there =
    let leave : ℕ = min d (h - n) in
    let from : h - leave ≡ max (h - d) n = omega arith in
    rw (nth_holes h d n some marks, ← from) (slides_mean h leave marks (omega arith) high (omega arith)).left_clear
