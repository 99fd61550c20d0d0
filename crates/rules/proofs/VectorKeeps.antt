-- The vector rule keeps what a sound state says of its marks: those at h and above are clear, and mark 0 is set. Assumes nothing.
use Prim.Native.Nat.{ℕ, ◌≤◌, ◌<◌}
use mathlib.Core.Path.{◌≡◌, refl, ◌∙◌}
use mathlib.Core.Bool.{true}
use lib.Dec.{leb, eqb}
use borrow.Author.Tests.{leb-false}
use native.Mathlib.Omega.{arith}
use Rattle.octets.proofs.Bools.{either}
use Rattle.marks.specs.declared.Marks.{Marks}
use Rattle.marks.specs.Window.{most, mark, clear_from, set, slid}
use Rattle.marks.proofs.Meaning.{sets_mean, slides_mean}
use Rattle.rules.specs.declared.Effect.{Effect}
use Rattle.rules.specs.Difference.{Difference, ahead, behind, difference}
use Rattle.rules.specs.Vector.{late, onward, by_difference, vector}

abbrev pub Kept : ℕ → Marks → Type 0
Kept h marks = (clear_from h marks ≡ true) × (mark 0 marks ≡ 1)

abbrev KeptBy : ℕ → Effect → Type 0
KeptBy h effect = Kept h effect.marks

module _ (h : ℕ) (low : 1 ≤ h) (high : h ≤ most) where
  -- mark 0 set
  pub set_first : (marks : Marks) → clear_from h marks ≡ true → Kept h (set 0 marks)
  set_first marks fits = let m = sets_mean 0 marks (omega arith) in (m.clear_above h low fits, m.mark_after 0)

  module _ (newest : ℕ) (marks : Marks) (kept : Kept h marks) where
    kept_late : (k : ℕ) → k < h → KeptBy h (late newest marks k)
    unfolding late
    kept_late k below =
        let m = sets_mean k marks (omega arith) in
        let first : mark 0 (set k marks) ≡ 1 = m.mark_after 0 ∙ either (λ (n : ℕ). n ≡ 1) (eqb 0 k) (λ _. refl) (λ _. kept.1) in
        either (KeptBy h) (eqb (mark k marks) 1) (λ _. kept) (λ _. (m.clear_above h below kept.0, first))

    kept_onward : (number k : ℕ) → k < h → KeptBy h (onward h number marks k)
    unfolding onward
    kept_onward number k below =
        set_first (slid h k marks) ((slides_mean h k marks low high (omega arith)).clear_above kept.0)

    kept_by : (number : ℕ) (d : Difference) → KeptBy h (by_difference h newest marks number d)
    unfolding by_difference
    kept_by number (ahead k) = either (KeptBy h) (leb h k) (λ _. kept) (λ near. kept_onward number k (leb-false h k near))
    kept_by number (behind k) = either (KeptBy h) (leb h k) (λ _. kept) (λ near. kept_late k (leb-false h k near))

    pub vector_keeps : (number : ℕ) → KeptBy h (vector h newest marks number)
    unfolding vector
    vector_keeps number = kept_by number (difference newest number)
