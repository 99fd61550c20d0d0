-- A number that was heard just before does not pass: whatever became of it then, it is a repeat now, or a rogue again. Assumes nothing.
use Prim.Native.Nat.{ℕ, ◌≤◌}
use mathlib.Core.Path.{◌≡◌, refl}
use mathlib.Core.Bool.{Bool, true, false}
use lib.Dec.{leb, eqb}
use borrow.Author.Tests.{leb-true, leb-false, eq-eqb}
use native.Mathlib.Omega.{arith}
use Rattle.octets.proofs.Bools.{either}
use Rattle.marks.specs.declared.Marks.{Marks}
use Rattle.marks.specs.Window.{most, mark, none, set, slid}
use Rattle.marks.proofs.Meaning.{sets_mean}
use Rattle.rules.specs.declared.Effect.{Effect}
use Rattle.rules.specs.Difference.{Difference, ahead, behind, difference}
use Rattle.rules.specs.TakeAny.{first_marks, first}
use Rattle.rules.specs.Vector.{late, onward, by_difference, vector}
use Rattle.rules.specs.Matching.{match}
use Rattle.rules.specs.ByRule.{by_rule}
use Rattle.rules.proofs.VectorLaws.{is_same, apart_self, rogue_ahead, rogue_behind, comes_late}

-- a number is behind itself by 0
no_difference : (number : ℕ) → difference number number ≡ behind 0
no_difference number = is_same number number 0 (apart_self number) refl

-- by the rule, with the newest number and the marks that an effect leaves
abbrev Discarded : Bool → ℕ → ℕ → Effect → Type 0
Discarded is_vector h number effect = (by_rule is_vector h false effect.newest effect.marks number).passes ≡ false

module _ (h : ℕ) (low : 1 ≤ h) (high : h ≤ most) (number : ℕ) where
  -- the newest number, whose mark is set
  newest_discarded : (marks : Marks) → mark 0 marks ≡ 1 → (by_rule true h false number marks number).passes ≡ false
  unfolding by_rule late
  newest_discarded marks marked = rw (comes_late h number marks number 0 (no_difference number) low, marked)

  module _ (newest : ℕ) (marks : Marks) where
    -- a rogue is one again; one ahead is the newest now, and one behind has its mark set
    by_discarded : (d : Difference) → difference newest number ≡ d → Discarded true h number (by_difference h newest marks number d)
    unfolding by_rule by_difference onward late
    by_discarded (ahead k) e =
        either (Discarded true h number) (leb h k)
        (λ far. rw (rogue_ahead h newest marks number k e (leb-true h k far)))
        (λ _. newest_discarded _ ((sets_mean 0 (slid h k marks) (omega arith)).mark_after 0))
    by_discarded (behind k) e =
        either (Discarded true h number) (leb h k)
        (λ far. rw (rogue_behind h newest marks number k e (leb-true h k far)))
        (λ near.
        let below = leb-false h k near in
        either (Discarded true h number) (eqb (mark k marks) 1)
        (λ marked. rw (comes_late h newest marks number k e below, marked))
        (λ _. let m = sets_mean k marks (omega (arith, below)) in
        rw (comes_late h newest (set k marks) number k e below, m.mark_after k, eq-eqb k k refl)))

    vector_discarded : Discarded true h number (vector h newest marks number)
    unfolding vector
    vector_discarded = by_discarded (difference newest number) refl

    match_discarded : Discarded false h number (match newest marks number)
    unfolding by_rule match
    match_discarded =
        either (Discarded false h number) (eqb number newest) (λ same. rw same) (λ _. rw (eq-eqb number number refl))

  first_discarded : (is_vector : Bool) → Discarded is_vector h number (first is_vector number)
  unfolding first first_marks by_rule match
  first_discarded true = newest_discarded (first_marks true) ((sets_mean 0 none (omega arith)).mark_after 0)
  first_discarded false = rw (eq-eqb number number refl)

  pub again_discarded : (is_vector take_any : Bool) (newest : ℕ) (marks : Marks)
      → Discarded is_vector h number (by_rule is_vector h take_any newest marks number)
  unfolding by_rule
  again_discarded is_vector true newest marks = first_discarded is_vector
  again_discarded true false newest marks = vector_discarded newest marks
  again_discarded false false newest marks = match_discarded newest marks
