-- The marks show which of the h places up to a top place have passed: kept by a slide and by the setting of a mark. Assumes nothing.
use mathlib.Core.Path.{◌≡◌, ◌∙◌}
use mathlib.Core.Bool.{Bool, true, cond}
use mathlib.Core.List.{List, [], ◌∷◌}
use Prim.Native.Nat.{ℕ, zero, suc, ◌+◌, ◌-◌, ◌≤◌, ◌<◌}
use native.Mathlib.Omega.{arith}
use lib.Dec.{eqb, ltb}
use borrow.Author.Tests.{ltb-true, ltb-false, eqb-true, eqb-false}
use Rattle.octets.proofs.Bools.{either}
use Rattle.marks.specs.declared.Marks.{Marks}
use Rattle.marks.specs.Window.{most, mark, clear_from, none, set, slid, lost_in}
use Rattle.marks.specs.Meaning.{clear_among}
use Rattle.marks.proofs.Moves.{none_clear, none_from}
use Rattle.marks.proofs.Meaning.{sets_mean, slides_mean}
use Rattle.rules.specs.Places.{among, newest_place, unpassed}
use Rattle.rules.proofs.Places.Among.{among_itself, among_others, none_above}
use Rattle.rules.proofs.Places.Counting.{unpassed_zero, unpassed_last}

-- the marks at h and above are clear, and mark k is set exactly if the place k below the top has passed
pub record Shown (h top : ℕ) (ps : List ℕ) (marks : Marks) : Type 0 where
  pub fits : clear_from h marks ≡ true
  pub mark_at : (k : ℕ) → k < h → mark k marks ≡ cond (among (top - k) ps) 1 0

-- no place has passed, and no mark is set
pub shown_none : (h top : ℕ) → Shown h top [] none
unfolding among
shown_none h top = record { fits = none_from h; mark_at = λ k kh. none_clear k }

-- a mark that is set counts no place, and one that is clear counts one
flip : (t : Bool) → 1 - cond t 1 0 ≡ cond t 0 1
flip t = either (λ (n : ℕ). 1 - n ≡ cond t 0 1) t (λ e. rw e) (λ e. rw e)

module _ (h : ℕ) (low : 1 ≤ h) (high : h ≤ most) (ps : List ℕ) (top : ℕ) (marks : Marks) (shown : Shown h top ps marks) where
  -- a slide of d places: nothing has passed above the top
  pub shown_slid : (d : ℕ) → d ≤ h → newest_place ps ≤ top → Shown h (top + d) ps (slid h d marks)
  shown_slid d within up = record { fits = (slides_mean h d marks low high within).clear_above shown.fits; mark_at = at }
    where
      at : (k : ℕ) → k < h → mark k (slid h d marks) ≡ cond (among (top + d - k) ps) 1 0
      at k kh =
          (slides_mean h d marks low high within).mark_after k kh
          ∙ either (λ (n : ℕ). n ≡ cond (among (top + d - k) ps) 1 0) (ltb k d)
          (λ new. rw (none_above (top + d - k) ps (omega (arith, ltb-true k d new))))
          (λ old.
          let before : top + d - k ≡ top - (k - d) = omega (arith, ltb-false k d old) in
          rw before (shown.mark_at (k - d) (omega arith)))

  -- the last d marks of the h, from the oldest on, count the places that have not passed
  last_marks : h ≤ top → (d : ℕ) → d ≤ h → clear_among (h - d) d marks ≡ unpassed ps (top + 1 - h) d
  unfolding clear_among
  last_marks room zero within = rw unpassed_zero
  last_marks room (suc d) within =
      let next : suc (h - suc d) ≡ h - d = omega arith in
      let place : top + 1 - h + d ≡ top - (h - suc d) = omega arith in
      rw (next, last_marks room d (omega arith), unpassed_last, place, clear_one (h - suc d) (omega arith)) (omega arith)
    where
      clear_one : (k : ℕ) → k < h → 1 - mark k marks ≡ cond (among (top - k) ps) 0 1
      clear_one k kh = rw (shown.mark_at k kh) (flip (among (top - k) ps))

  -- so a slide loses the places that the window leaves unpassed
  pub shown_lost : (d : ℕ) → d ≤ h → h ≤ top → lost_in h d marks ≡ unpassed ps (top + 1 - h) d
  shown_lost d within room = (slides_mean h d marks low high within).left_clear ∙ last_marks room d within

  -- a place of the window passes: its mark is set
  pub shown_set : (k : ℕ) → k < h → h ≤ top → Shown h top ((top - k) ∷ ps) (set k marks)
  shown_set k kh room = record { fits = (sets_mean k marks (omega arith)).clear_above h kh shown.fits; mark_at = at }
    where
      at : (j : ℕ) → j < h → mark j (set k marks) ≡ cond (among (top - j) ((top - k) ∷ ps)) 1 0
      at j jh =
          (sets_mean k marks (omega arith)).mark_after j
          ∙ either (λ (n : ℕ). n ≡ cond (among (top - j) ((top - k) ∷ ps)) 1 0) (eqb j k)
          (λ same. rw (eqb-true j k same, among_itself))
          (λ other. rw (among_others (top - j) (top - k) ps (λ e. omega (arith, eqb-false j k other))) (shown.mark_at j jh))
