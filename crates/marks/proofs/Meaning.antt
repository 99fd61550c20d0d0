-- The definitions of Window mean what `specs/Meaning.antt` says, mark by mark. Assumes nothing.
use Prim.Native.Nat.{ℕ, zero, suc, ◌+◌, ◌-◌, ◌≤◌, ◌<◌}
use native.Mathlib.Nat.{sub-zero, add-zero}
use native.Mathlib.Omega.{arith}
use mathlib.Core.Path.{◌≡◌, refl, sym, ◌∙◌}
use mathlib.Core.Bool.{true, cond}
use lib.Dec.{ltb}
use borrow.Author.Tests.{lt-ltb, le-ltb, ltb-true, ltb-false}
use Rattle.octets.proofs.Bools.{either, choose_first}
use Rattle.marks.specs.declared.Marks.{Marks}
use Rattle.marks.specs.Window.{mark, clear_from, reach, moved, lost_by, slid, lost_in}
use Rattle.marks.specs.Meaning.{clear_among, SlidesMean, SetsMean}
use Rattle.marks.proofs.Moves.{mark_moved_zero, mark_moved_suc, clear_moved, mark_set, clear_set}
use Rattle.marks.proofs.Reach.{reach_is}

pub sets_mean : SetsMean
sets_mean k marks there = record { mark_after = mark_set k marks there; clear_above = clear_set k marks there }

-- one mark more at the end of a row
pub among_last : (k n : ℕ) (marks : Marks) → clear_among k (suc n) marks ≡ clear_among k n marks + (1 - mark (k + n) marks)
unfolding clear_among
among_last k zero marks = rw (add-zero k) (omega arith)
among_last k (suc n) marks =
    let next : suc k + n ≡ k + suc n = omega arith in
    omega (arith, rw next at (among_last (suc k) n marks))

module _ (h : ℕ) where
  -- each mark comes to where a single move leaves it, and on from there
  mark_slid : (d k : ℕ) (marks : Marks) → k < reach h → mark k (slid h d marks) ≡ cond (ltb k d) 0 (mark (k - d) marks)
  unfolding slid
  mark_slid zero k marks kh = rw (le-ltb k 0 (omega arith), sub-zero)
  mark_slid (suc d) k marks kh =
      mark_slid d k (moved h marks) kh
      ∙ either (λ (m : ℕ). m ≡ cond (ltb k (suc d)) 0 (mark (k - suc d) marks)) (ltb k d)
      (λ before. sym (choose_first _ _ (lt-ltb k (suc d) (omega (arith, ltb-true k d before)))))
      (λ behind.
      either (λ (m : ℕ). mark (k - d) (moved h marks) ≡ m) (ltb k (suc d))
      (λ there.
      let none : k - d ≡ 0 = omega (arith, ltb-false k d behind, ltb-true k (suc d) there) in
      rw none (mark_moved_zero h marks))
      (λ past.
      let some : k - d ≡ suc (k - suc d) = omega (arith, ltb-false k (suc d) past) in
      rw some (mark_moved_suc h marks (k - suc d) (omega (arith, ltb-false k (suc d) past)))))

  clear_slid : (d : ℕ) (marks : Marks) → clear_from (reach h) marks ≡ true → clear_from (reach h) (slid h d marks) ≡ true
  unfolding slid
  clear_slid zero marks fits = fits
  clear_slid (suc d) marks fits = clear_slid d (moved h marks) (clear_moved h marks)

  -- a row of marks, one place on
  pub among_moved : (k n : ℕ) (marks : Marks) → suc k + n ≤ reach h → clear_among (suc k) n (moved h marks) ≡ clear_among k n marks
  unfolding clear_among
  among_moved k zero marks p = refl
  among_moved k (suc n) marks p = rw (mark_moved_suc h marks k (omega arith), among_moved (suc k) n marks (omega arith))

  pub lost_slid : (d : ℕ) (marks : Marks) → d ≤ reach h → lost_in h d marks ≡ clear_among (reach h - d) d marks
  unfolding lost_in lost_by clear_among
  lost_slid zero marks p = refl
  lost_slid (suc d) marks p =
      let from : reach h - d ≡ suc (reach h - suc d) = omega arith in
      let last : reach h - suc d + d ≡ reach h - 1 = omega arith in
      rw (lost_slid d (moved h marks) (omega arith), from, among_moved (reach h - suc d) d marks (omega arith))
      (omega (arith, rw last at (among_last (reach h - suc d) d marks)))

pub slides_mean : SlidesMean
slides_mean h d marks low high p =
    let own = reach_is h low high in
    record {
      mark_after = λ k kh. mark_slid h d k marks (rw own kh);
      clear_above = rw own at (clear_slid h d marks);
      left_clear = rw own at (lost_slid h d marks (rw own p));
    }
