-- The single moves of a slide come to one go, as `specs/AtOnce.antt` claims. Assumes nothing.
use Prim.Native.Nat.{ℕ, zero, suc, ◌+◌, ◌-◌, ◌*◌, ◌/◌, ◌%◌, ◌^◌, ◌≤◌, ◌<◌, min}
use native.Mathlib.Nat.{pow-succ', mul_assoc, zero-add, suc-add, sub_self, le_refl, min-eq_left, min-eq_right, mod-one}
use native.Mathlib.Omega.{arith}
use mathlib.Core.Path.{◌≡◌, refl, sym, ap, ◌∙◌}
use lib.Count.{ones}
use lib.Dec.{ltb}
use borrow.Author.Tests.{ltb-true, ltb-false}
use Rattle.octets.proofs.Bools.{by_cases}
use Rattle.marks.specs.declared.Marks.{Marks}
use Rattle.marks.specs.declared.Slid.{Slid}
use Rattle.marks.specs.Window.{number, marks_of, mark, reach, moved, lost_by, slid, lost_in, Slides}
use Rattle.marks.specs.Meaning.{clear_among}
use Rattle.marks.specs.AtOnce.{ones_among, moved_by, Goes, SlidesAtOnce}
use Rattle.marks.proofs.Digits.{digit, cut_moved, ones_row}
use Rattle.marks.proofs.Words.{number_of}
use Rattle.marks.proofs.Reach.{reach_low}
use Rattle.marks.proofs.Moves.{mark_below_2, mark_moved_zero}
use Rattle.marks.proofs.Meaning.{among_last, among_moved, lost_slid}

-- each mark of a row is clear or set
among_all : (k n : ℕ) (marks : Marks) → clear_among k n marks + ones_among k n marks ≡ n
unfolding clear_among ones_among
among_all k zero marks = refl
among_all k (suc n) marks = omega (arith, among_all (suc k) n marks, mark_below_2 k marks)

-- so no more are set than there are
pub among_few : (k n : ℕ) (marks : Marks) → ones_among k n marks ≤ n
among_few k n marks = omega (arith, among_all k n marks)

-- the ones of a row, counted one by one, are those of its digits
pub ones_are : (k n : ℕ) (marks : Marks) → ones (number marks / 2 ^ k % 2 ^ n) ≡ ones_among k n marks
unfolding mark digit ones_among ones
ones_are k zero marks = ap ones (mod-one (number marks / 2 ^ k))
ones_are k (suc n) marks = ones_row k n (number marks) ∙ ap (λ (m : ℕ). mark k marks + m) (ones_are (suc k) n marks)

module _ (h : ℕ) where
  -- what each move cuts off, the last one would
  slid_at_once : (d : ℕ) (marks : Marks) → slid h (suc d) marks ≡ moved_by (reach h) (suc d) marks
  unfolding slid moved moved_by
  slid_at_once zero marks = refl
  slid_at_once (suc d) marks =
      let further : number marks * 2 * 2 ^ suc d ≡ number marks * 2 ^ suc (suc d) = rw (mul_assoc, pow-succ' 2 (suc d)) in
      slid_at_once d (moved h marks)
      ∙ ap marks_of
      (ap (λ (n : ℕ). n * 2 ^ suc d % 2 ^ reach h) (number_of _)
      ∙ cut_moved (reach h) (suc d) (number marks * 2) ∙ ap (λ (n : ℕ). n % 2 ^ reach h) further)

  -- a row from mark 0 on, one place on: its last mark leaves it, and a clear one comes in
  row_moved : (n : ℕ) (marks : Marks) → n < reach h
      → 1 - mark n marks + clear_among 0 (suc n) (moved h marks) ≡ suc (clear_among 0 (suc n) marks)
  unfolding clear_among
  row_moved n marks p =
      rw (mark_moved_zero h marks, among_moved h 0 n marks (omega arith)) (omega (arith, rw (zero-add n) at (among_last 0 n marks)))

  -- behind the marks of the history clear ones leave, each of them lost
  lost_past : (e : ℕ) (marks : Marks) → lost_in h (e + reach h) marks ≡ clear_among 0 (reach h) marks + e
  unfolding lost_in lost_by
  lost_past zero marks =
      rw (zero-add (reach h)) (omega (arith, rw (sub_self (reach h)) at (lost_slid h (reach h) marks (le_refl (reach h)))))
  lost_past (suc e) marks =
      let last : suc (reach h - 1) ≡ reach h = omega (arith, reach_low h) in
      rw (suc-add e (reach h)) (omega (arith, lost_past e (moved h marks), rw last at (row_moved (reach h - 1) marks (omega arith))))

  lost_at_once : (d : ℕ) (marks : Marks) → lost_in h d marks + ones_among (reach h - min d (reach h)) (min d (reach h)) marks ≡ d
  lost_at_once d marks =
      by_cases (ltb d (reach h))
      (λ within.
      let below : d ≤ reach h = omega (arith, ltb-true d (reach h) within) in
      rw (min-eq_left below) (omega (arith, lost_slid h d marks below, among_all (reach h - d) d marks)))
      (λ past.
      let above : reach h ≤ d = ltb-false d (reach h) past in
      let apart : d - reach h + reach h ≡ d = omega arith in
      rw (min-eq_right above, sub_self (reach h))
      (omega (arith, rw apart at (lost_past (d - reach h) marks), among_all 0 (reach h) marks)))

pub slides_at_once : SlidesAtOnce
slides_at_once h zero marks p = absurd (omega arith)
slides_at_once h (suc d) marks p = record { moves = slid_at_once h d marks; loses = lost_at_once h (suc d) marks }

-- what goes in one go is what the single moves come to
pub goes_right : (h d : ℕ) (marks : Marks) {went : Slid} → 1 ≤ d → Goes (reach h) d marks went → Slides marks h d went
goes_right h d marks some p =
    let moves = slides_at_once h d marks some in
    record { moves = p.moves ∙ sym moves.moves; loses = omega (arith, p.loses, moves.loses) }
