-- The vector rule keeps what a sound state says of the first packet's place: it is one of the h places, and its mark is set. Assumes
-- nothing.
use Prim.Native.Nat.{ℕ, ◌+◌, ◌-◌, ◌≤◌, ◌<◌}
use mathlib.Core.Path.{◌≡◌, refl, ◌∙◌}
use lib.Dec.{leb, eqb}
use borrow.Author.Tests.{leb-true, leb-false, le-ltb, eqb-true, eqb-false}
use native.Mathlib.Omega.{arith}
use Rattle.octets.proofs.Bools.{by_cases, either}
use Rattle.marks.specs.declared.Marks.{Marks}
use Rattle.marks.specs.Window.{most, mark, set, slid}
use Rattle.marks.proofs.Meaning.{sets_mean, slides_mean}
use Rattle.rules.specs.declared.Effect.{Effect}
use Rattle.rules.specs.declared.First.{First}
use Rattle.rules.specs.Difference.{Difference, ahead, behind, apart, difference}
use Rattle.rules.specs.FirstPlace.{nth, carried}
use Rattle.rules.specs.Vector.{late, onward, by_difference, vector}
use Rattle.rules.proofs.VectorLaws.{apart_self, apart_ahead}
use Rattle.rules.proofs.FirstLaws.{still_carried, nowhere_carried, carried_in, carried_out}

-- where it is the n-th place, that is one of the h, and mark n - 1 is set
abbrev pub Placed : ℕ → Marks → First → Type 0
Placed h marks first = 1 ≤ first.0 → (first.0 ≤ h) × (mark (first.0 - 1) marks ≡ 1)

module _ (h : ℕ) (low : 1 ≤ h) (high : h ≤ most) (newest : ℕ) (marks : Marks) (n : ℕ) (some : 1 ≤ n) (inside : n ≤ h)
    (marked : mark (n - 1) marks ≡ 1) where
  abbrev PlacedBy : Effect → Type 0
  PlacedBy effect = Placed h effect.marks (carried h (apart newest effect.newest) (nth n))

  -- where the newest number stays, so does the first place, and its mark is still set
  placed_still : (later : Marks) → mark (n - 1) later ≡ 1 → Placed h later (carried h (apart newest newest) (nth n))
  placed_still later still =
      rw (apart_self newest, still_carried h (nth n)) (λ _. (inside, still))

  placed_late : (j : ℕ) → j < h → PlacedBy (late newest marks j)
  unfolding late
  placed_late j below =
      let m = sets_mean j marks (omega arith) in
      either PlacedBy (eqb (mark j marks) 1)
      (λ _. placed_still marks marked)
      (λ _. placed_still _ (m.mark_after (n - 1) ∙ either (λ (b : ℕ). b ≡ 1) (eqb (n - 1) j) (λ _. refl) (λ _. marked)))

  -- where it goes on by d, the marks move d places too
  placed_onward : (number d : ℕ) → difference newest number ≡ ahead d → d < h → PlacedBy (onward h number marks d)
  unfolding onward
  placed_onward number d e below =
      let moves = (apart_ahead newest number d e).1 in
      rw (apart_ahead newest number d e).0
      (by_cases (leb (n + d) h)
      (λ t. let within = leb-true (n + d) h t in rw (carried_in h d n some within) (λ _. (within, there within)))
      (λ t. rw (carried_out h d n some moves (leb-false (n + d) h t)) (λ none. absurd (omega (arith, none)))))
    where
      there : n + d ≤ h → mark (n + d - 1) (set 0 (slid h d marks)) ≡ 1
      there within =
          let back : n + d - 1 - d ≡ n - 1 = omega arith in
          (sets_mean 0 (slid h d marks) (omega arith)).mark_after (n + d - 1)
          ∙ either (λ (b : ℕ). b ≡ 1) (eqb (n + d - 1) 0)
          (λ _. refl)
          (λ _. rw (
            (slides_mean h d marks low high (omega arith)).mark_after (n + d - 1) (omega arith),
            le-ltb (n + d - 1) d (omega arith),
            back,
          )
          marked)

  placed_by : (number : ℕ) (d : Difference) → difference newest number ≡ d → PlacedBy (by_difference h newest marks number d)
  unfolding by_difference
  placed_by number (ahead d) e =
      either PlacedBy (leb h d) (λ _. placed_still marks marked) (λ near. placed_onward number d e (leb-false h d near))
  placed_by number (behind j) e =
      either PlacedBy (leb h j) (λ _. placed_still marks marked) (λ near. placed_late j (leb-false h j near))

pub first_kept : (h : ℕ) → 1 ≤ h → h ≤ most → (newest : ℕ) (marks : Marks) (first : First) (number : ℕ) → Placed h marks first
    → Placed h (vector h newest marks number).marks (carried h (apart newest (vector h newest marks number).newest) first)
unfolding vector
first_kept h low high newest marks first number here =
    by_cases (eqb first.0 0)
    (λ t. rw (eqb-true first.0 0 t, nowhere_carried) (λ none. absurd (omega (arith, none))))
    (λ t.
    let some : 1 ≤ first.0 = omega (arith, eqb-false first.0 0 t) in
    placed_by h low high newest marks first.0 some (here some).0 (here some).1 number (difference newest number) refl)
