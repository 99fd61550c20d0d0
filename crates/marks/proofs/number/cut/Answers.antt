-- Past the last mark there is nothing to cut off, and below it each word is cut off by itself.
use Rattle.std.proofs.Common.{◌≤◌, sym, ap, ◌∙◌, rules, arith}
use native.Mathlib.Nat.{mod-eq_of_lt, lt_of_lt_of_le}
use lib.Pow.{pow_mono}
use Rattle.marks.specs.Window.{most, words_of, number, marks_of}
use Rattle.marks.proofs.Words.{Fit, value_fit, marks_back, eight, marks_by}
use Rattle.marks.proofs.Counted.{cut_words, cut_fit, cut_number}
use Rattle.marks.proofs.number.cut.Goals as goal

-- nothing is past the last mark
pub returns-then-end-ge-MOST : goal.returns-then-end-ge-MOST
unfolding number
returns-then-end-ge-MOST c =
    let a = c.args in
    let words = words_of a.marks in
    let fit : Fit words = search rules in
    let past : most ≤ a.end = omega arith in
    let below = lt_of_lt_of_le (value_fit words fit) (pow_mono past) in
    sym (marks_back a.marks fit) ∙ ap marks_of (sym (mod-eq_of_lt below))

-- each word by itself
pub returns : goal.returns
unfolding number cut_words
returns c =
    let a = c.args in
    let words = words_of a.marks in
    marks_by _ (cut_words 0 a.end words) _ (search (eight, rules)) (cut_fit 0 a.end words (search rules))
    (cut_number a.end words (search rules))
