-- Mark by mark, what one move does, and what setting one mark does. Assumes nothing.
use Prim.Native.Nat.{ℕ, suc, ◌+◌, ◌-◌, ◌*◌, ◌/◌, ◌%◌, ◌^◌, ◌≤◌, ◌<◌}
use native.Mathlib.Nat.{zero-mul, one-mul, mod-lt, zero-div, lt_of_lt_of_le}
use native.Mathlib.Omega.{arith}
use mathlib.Core.Path.{◌≡◌, refl, sym, ap, ◌∙◌}
use mathlib.Core.Bool.{true, false, cond, ◌&&◌}
use lib.Dec.{ltb, eqb}
use lib.Pow.{pow_pos, pow-lt, pow_mono}
use borrow.Author.Tests.{lt-ltb, ltb-true, ltb-false, eqb-true, eqb-false}
use Rattle.octets.proofs.Bools.{by_cases, either, both}
use Rattle.marks.specs.declared.Marks.{Marks}
use Rattle.marks.specs.Window.{most, bits, value_of, words_of, number, mark, none, clear_from, set, reach, moved}
use Rattle.marks.proofs.Digits.{digit, none_above, digit_below_2, digit_set, set_below, digit_moved_zero, digit_moved_suc}
use Rattle.marks.proofs.Words.{Fit, digit_at, number_of, marks_back, marks_by}
use Rattle.marks.proofs.Counted.{with_bit, bit_fit, bit_value, bit_none}
use Rattle.marks.proofs.Reach.{reach_low}

-- a mark is set or clear
pub mark_below_2 : (k : ℕ) (marks : Marks) → mark k marks < 2
unfolding mark digit
mark_below_2 k marks = digit_below_2 k (number marks)

-- no mark
pub none_clear : (k : ℕ) → mark k none ≡ 0
unfolding mark none
none_clear k = ap (λ (n : ℕ). n / 2 ^ k % 2) (number_of 0) ∙ ap (λ (n : ℕ). n % 2) (zero-div (2 ^ k))

pub none_from : (h : ℕ) → clear_from h none ≡ true
unfolding clear_from none
none_from h = rw number_of (lt-ltb 0 (2 ^ h) (pow_pos h))

-- a mark at h or above, where those are clear
pub clear_mark : (h k : ℕ) (marks : Marks) → clear_from h marks ≡ true → h ≤ k → mark k marks ≡ 0
unfolding mark clear_from
clear_mark h k marks fits above =
    let less = lt_of_lt_of_le (ltb-true (number marks) (2 ^ h) fits) (pow_mono above) in
    ap (λ (n : ℕ). n % 2) (eqb-true _ 0 (none_above k (number marks) ∙ lt-ltb _ _ less))

-- setting a mark
module _ (k : ℕ) (marks : Marks) (there : k < most) where
  pub mark_set : (j : ℕ) → mark j (set k marks) ≡ cond (eqb j k) 1 (mark j marks)
  unfolding set mark digit
  mark_set j =
      by_cases (eqb (mark k marks) 0)
      (λ clear. rw (lt-ltb k most there, clear, number_of) (digit_set j k (number marks) (eqb-true _ _ clear)))
      (λ set-already.
      let one : mark k marks ≡ 1 = omega (arith, eqb-false (mark k marks) 0 set-already, mark_below_2 k marks) in
      rw (lt-ltb k most there, set-already)
      (either (λ (n : ℕ). mark j marks ≡ n) (eqb j k) (λ same. rw (eqb-true j k same) one) (λ _. refl)))

  pub clear_set : (h : ℕ) → k < h → clear_from h marks ≡ true → clear_from h (set k marks) ≡ true
  unfolding set clear_from mark digit
  clear_set h below fits =
      by_cases (eqb (mark k marks) 0)
      (λ clear.
      rw (lt-ltb k most there, clear, number_of)
      (lt-ltb _ _ (set_below h k (number marks) below (ltb-true (number marks) (2 ^ h) fits) (eqb-true _ _ clear))))
      (λ set-already. rw (lt-ltb k most there, set-already) fits)

-- words with the bit of mark k are the marks with it set
module _ (k : ℕ) (marks r : Marks) (fit : Fit (words_of marks))
    (are : words_of r ≡ with_bit (k / bits) (2 ^ (k % bits)) 0 (words_of marks)) where
  bit_fits : Fit (with_bit (k / bits) (2 ^ (k % bits)) 0 (words_of marks))
  bit_fits = bit_fit (k / bits) (2 ^ (k % bits)) 0 (words_of marks) (pow-lt {j = bits} (omega arith)) fit

  -- the number grows by the mark's power where it was clear
  grown : k < most → number r + mark k marks * 2 ^ k ≡ number marks + 2 ^ k
  unfolding mark digit number
  grown there =
      let place : k % bits + bits * (k / bits - 0) ≡ k = omega arith in
      let at : k / bits - 0 ≡ k / bits = omega arith in
      let value = bit_value (k / bits) (k % bits) 0 (words_of marks) (omega arith) (omega arith) in
      rw (are, digit_at k (words_of marks) fit) (rw (place, at) at value)

  -- where it was set, and where there is no such mark, the number stays
  unchanged : (ltb k most && eqb (mark k marks) 0) ≡ false → number r ≡ number marks
  unfolding number
  unchanged not =
      by_cases (ltb k most)
      (λ there.
      let set-already : eqb (mark k marks) 0 ≡ false = rw there at not in
      let one : mark k marks ≡ 1 = omega (arith, eqb-false (mark k marks) 0 set-already, mark_below_2 k marks) in
      let more = ap (λ (m : ℕ). number r + m * 2 ^ k) (sym one) ∙ grown (ltb-true k most there) in
      omega (arith, more, one-mul (2 ^ k)))
      (λ past. ap value_of (are ∙ bit_none (k / bits) (2 ^ (k % bits)) 0 (words_of marks) (omega (arith, ltb-false k most past))))

  pub set_words : r ≡ set k marks
  unfolding set number
  set_words =
      either (λ (m : Marks). r ≡ m) (ltb k most && eqb (mark k marks) 0)
      (λ clear.
      let told = both (ltb k most) (eqb (mark k marks) 0) clear in
      let none = eqb-true (mark k marks) 0 told.1 in
      let more = ap (λ (m : ℕ). number r + m * 2 ^ k) (sym none) ∙ grown (ltb-true k most told.0) in
      marks_by r _ _ are bit_fits (ap value_of (sym are) ∙ omega (arith, more, zero-mul (2 ^ k))))
      (λ not. marks_by r _ _ are bit_fits (ap value_of (sym are) ∙ unchanged not) ∙ marks_back marks fit)

-- one move, whatever the history
module _ (h : ℕ) (marks : Marks) where
  pub mark_moved_suc : (k : ℕ) → suc k < reach h → mark (suc k) (moved h marks) ≡ mark k marks
  unfolding mark moved digit
  mark_moved_suc k kh = ap (digit (suc k)) (number_of _) ∙ digit_moved_suc (reach h) k (number marks) kh

  pub mark_moved_zero : mark 0 (moved h marks) ≡ 0
  unfolding mark moved digit
  mark_moved_zero = ap (digit 0) (number_of _) ∙ digit_moved_zero (reach h) (number marks) (reach_low h)

  pub clear_moved : clear_from (reach h) (moved h marks) ≡ true
  unfolding clear_from moved
  clear_moved = rw (number_of _) (lt-ltb _ _ (mod-lt (number marks * 2) (pow_pos (reach h))))
