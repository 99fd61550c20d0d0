-- A step of the vector rule follows the places: it passes what they say passes, its newest number and marks stand for the passed places
-- after it, and it loses what they lose. For every history length that there is. Assumes nothing.
use mathlib.Core.Path.{◌≡◌, refl, sym, ◌∙◌}
use mathlib.Core.Bool.{true, false, cond}
use mathlib.Core.Logic.{inl, inr}
use mathlib.Core.List.{List, [], ◌∷◌}
use Prim.Native.Nat.{ℕ, ◌+◌, ◌-◌, ◌%◌, ◌≤◌, ◌<◌, max}
use native.Mathlib.Nat.{sub-zero, sub_self}
use native.Mathlib.Omega.{arith}
use lib.Dec.{leb}
use borrow.Author.Tests.{leb-true, leb-false}
use Rattle.octets.proofs.Bools.{by_cases}
use Rattle.marks.specs.declared.Marks.{Marks}
use Rattle.marks.specs.Window.{most, mark, slid}
use Rattle.rules.specs.Difference.{Difference, difference}
use Rattle.rules.specs.declared.Effect.{Effect}
use Rattle.rules.specs.Effects.{discarded}
use Rattle.rules.specs.Vector.{late, onward, vector}
use Rattle.rules.specs.Places.{among, newest_place, first_place, place, passes, after, unpassed, moved_on, lost}
use Rattle.rules.proofs.VectorLaws.{rogue_ahead, goes_onward, rogue_behind, comes_late}
use Rattle.rules.proofs.Places.Among.{none_above, near_true, near_false}
use Rattle.rules.proofs.Places.Passing.{far, again, meets}
use Rattle.rules.proofs.Places.Counting.{unpassed_split, unpassed_outside}
use Rattle.rules.proofs.Places.Sum.{Kept, newest_alone, newest_next, first_next, kept_after}
use Rattle.rules.proofs.Places.Shown.{Shown, shown_slid, shown_set, shown_lost}
use Rattle.rules.proofs.Places.Nearest.{nearest_bears, Leads, on, back, leads}

-- the newest number and the marks stand for the passed places
pub record Follows (h : ℕ) (ps : List ℕ) (newest : ℕ) (marks : Marks) : Type 0 where
  pub kept : Kept h ps
  pub at : newest ≡ newest_place ps % 65536
  pub shown : Shown h (newest_place ps) ps marks

-- what a packet does, as the places say
pub record Obeys (h : ℕ) (ps : List ℕ) (number : ℕ) (effect : Effect) : Type 0 where
  pub verdict : effect.passes ≡ passes h ps number
  pub follows : Follows h (after h ps number) effect.newest effect.marks
  pub loses : lost h (after h ps number) ≡ lost h ps + effect.lost

-- without a numbered packet no place is lost, and the first loses none
pub lost_none : (h : ℕ) → lost h [] ≡ 0
unfolding lost moved_on newest_place first_place unpassed
lost_none h = refl

pub lost_first : (h p : ℕ) → lost h (p ∷ []) ≡ 0
unfolding lost moved_on first_place unpassed
lost_first h p = rw (newest_alone, sub_self)

-- the window moves on to a passing place: what it leaves unpassed is lost
lost_grows : (h q p : ℕ) (ps : List ℕ) → 1 ≤ h → h ≤ 65536 → Kept h (p ∷ ps) → newest_place (p ∷ ps) < q + h
    → lost h (q ∷ p ∷ ps) ≡ lost h (p ∷ ps) + unpassed (p ∷ ps) (newest_place (p ∷ ps) + 1 - h) (q - newest_place (p ∷ ps))
unfolding lost moved_on
lost_grows h q p ps hs room kept nearby =
    let qs : List ℕ = p ∷ ps in
    let N : ℕ = newest_place qs in
    let F : ℕ = first_place qs in
    let reach : max q N - F ≡ (N - F) + (q - N) = omega arith in
    let meet : F + 1 - h + (N - F) ≡ N + 1 - h = omega arith in
    rw (first_next q p ps, newest_next q qs)
    (unpassed_outside q qs (F + 1 - h) (max q N - F) (inr (omega arith))
    ∙ rw (reach, unpassed_split qs (F + 1 - h) (N - F) (q - N), meet))

module _ (h p : ℕ) (ps : List ℕ) (hs : 1 ≤ h) (room : h ≤ most) (number : ℕ) (bits : number < 65536) where
  abbrev N : ℕ
  N = newest_place (p ∷ ps)

  abbrev q : ℕ
  q = place (p ∷ ps) number

  stays : (newest : ℕ) (marks : Marks) (rogue : ℕ) → Follows h (p ∷ ps) newest marks → passes h (p ∷ ps) number ≡ false
      → Obeys h (p ∷ ps) number (discarded newest marks rogue)
  unfolding after
  stays newest marks rogue f off =
      record { verdict = sym off; follows = rw off f; loses = rw off (omega arith) }

  goes : (effect : Effect) → Kept h (p ∷ ps) → N < q + h → q < N + h → among q (p ∷ ps) ≡ false
      → effect.passes ≡ true → effect.newest ≡ max q N % 65536 → Shown h (max q N) (q ∷ p ∷ ps) effect.marks
      → effect.lost ≡ unpassed (p ∷ ps) (N + 1 - h) (q - N) → Obeys h (p ∷ ps) number effect
  unfolding after
  goes effect kept lo hi new verdict at shown loses =
      let on : passes h (p ∷ ps) number ≡ true = meets h p ps number (near_true h q N hi lo) new in
      record {
        verdict = verdict ∙ sym on;
        follows = record {
          kept = kept_after h p ps number (omega arith) kept;
          at = rw (on, newest_next q (p ∷ ps)) at;
          shown = rw (on, newest_next q (p ∷ ps)) shown;
        };
        loses = rw (on, loses) (lost_grows h q p ps hs (omega arith) kept lo);
      }

  -- ahead of the newest place, less than h from it
  onward_obeys : (newest : ℕ) (marks : Marks) (k : ℕ) → Follows h (p ∷ ps) newest marks → 1 ≤ k → k < h → q ≡ N + k
      → Obeys h (p ∷ ps) number (onward h number marks k)
  unfolding onward place
  onward_obeys newest marks k f pos less e =
      let top : max q N ≡ q = omega arith in
      let gap : q - N ≡ k = omega arith in
      let low : h ≤ N = omega (arith, f.kept) in
      let new : among q (p ∷ ps) ≡ false = none_above q (p ∷ ps) (omega arith) in
      let slides = shown_slid h hs room (p ∷ ps) N marks f.shown k (omega arith) (omega arith) in
      let set_there = shown_set h hs room (p ∷ ps) (N + k) (slid h k marks) slides 0 hs (omega arith) in
      goes (onward h number marks k) f.kept (omega arith) (omega arith) new refl
      (rw top (sym (nearest_bears N number bits)))
      (rw (top, e) (rw sub-zero at set_there))
      (rw gap (shown_lost h hs room (p ∷ ps) N marks f.shown k (omega arith) low))

  -- at the newest place or behind it, less than h from it
  late_obeys : (newest : ℕ) (marks : Marks) (k : ℕ) → Follows h (p ∷ ps) newest marks → k < h → q + k ≡ N
      → Obeys h (p ∷ ps) number (late newest marks k)
  unfolding late unpassed
  late_obeys newest marks k f less e =
      by_cases (among q (p ∷ ps))
      (λ had. rw (marked, had) (stays newest marks 0 f (again h p ps number had)))
      (λ new. rw (marked, new)
      (goes _ f.kept (omega arith) (omega arith) new refl
      (rw top f.at)
      (rw (top, ← spot) (shown_set h hs room (p ∷ ps) N marks f.shown k less (omega (arith, f.kept))))
      (rw gap)))
    where
      top : max q N ≡ N
      top = omega arith

      gap : q - N ≡ 0
      gap = omega arith

      spot : N - k ≡ q
      spot = omega arith

      marked : mark k marks ≡ cond (among q (p ∷ ps)) 1 0
      marked = rw spot at (f.shown.mark_at k less)

  pub vector_obeys : (newest : ℕ) (marks : Marks) → Follows h (p ∷ ps) newest marks → Obeys h (p ∷ ps) number (vector h newest marks number)
  unfolding place
  vector_obeys newest marks f = by (difference newest number) refl (rw f.at (leads N number (omega (arith, f.kept)) bits))
    where
      by : (d : Difference) → difference newest number ≡ d → Leads N q d → Obeys h (p ∷ ps) number (vector h newest marks number)
      by d e (on k pos there) =
          by_cases (leb h k)
          (λ t.
          let beyond : h ≤ k = leb-true h k t in
          let off = far h p ps number (near_false h q N (inl (omega arith))) in
          rw (rogue_ahead h newest marks number k e beyond) (stays newest marks 1 f off))
          (λ t.
          let less : k < h = leb-false h k t in
          rw (goes_onward h newest marks number k e less) (onward_obeys newest marks k f pos less there))
      by d e (back k there) =
          by_cases (leb h k)
          (λ t.
          let beyond : h ≤ k = leb-true h k t in
          let off = far h p ps number (near_false h q N (inr (omega arith))) in
          rw (rogue_behind h newest marks number k e beyond) (stays newest marks 1 f off))
          (λ t.
          let less : k < h = leb-false h k t in
          rw (comes_late h newest marks number k e less) (late_obeys newest marks k f less there))
