-- The ones from the first mark that leaves on are those that leave.
use Rattle.std.proofs.Common.{◌+◌, ◌-◌, ◌*◌, ◌%◌, ◌^◌, min, ◌≡◌, ap, ◌∙◌, rules, arith}
use lib.Count.{ones}
use lib.Pow.{field}
use Rattle.marks.specs.Window.{most, number, marks_of}
use Rattle.marks.specs.AtOnce.{ones_among, moved_by}
use Rattle.marks.proofs.Digits.{cut_cut, cut_moved}
use Rattle.marks.proofs.Words.{number_of}
use Rattle.marks.proofs.AtOnce.{among_few, ones_are}
use Rattle.marks.proofs.window.slide_words.Goals.{After-ones_from-left}
use Rattle.marks.proofs.window.slide_words.Goals as goal

-- those that leave, and are set
counted : (c : After-ones_from-left)
    → let a = c.args in
    c.ones_from-left.result ≡ ones_among (a.reach - min a.places a.reach) (min a.places a.reach) a.marks
counted c =
    let a = c.args in
    let n = min a.places a.reach in
    let k = a.reach - n in
    let all : n + k ≡ a.reach = omega arith in
    let m = number a.marks in
    rw (c.ones_from-left.ensures, c.cut-within.ensures, number_of, c.count_leaving-leaving.ensures)
    (ap ones (rw all at (field m n k)) ∙ ones_are k n a.marks)

pub overflow_sub-lost : goal.overflow_sub-lost
overflow_sub-lost c =
    let a = c.args in
    let n = min a.places a.reach in
    omega (arith, counted (goal.at.overflow_sub-lost c).After-ones_from-left, among_few (a.reach - n) n a.marks)

-- the marks are those of the history moved
pub returns : goal.returns
unfolding moved_by
returns c =
    let at = (goal.at.returns c).After-ones_from-left in
    let a = c.args in
    let m = number a.marks in
    let n = min a.places a.reach in
    record {
      moves =
          c.cut-moved.ensures
          ∙ ap marks_of
          (rw (c.moved.ensures, number_of, c.cut-within.ensures, number_of)
          (cut_cut a.reach most (m % 2 ^ a.reach * 2 ^ a.places) (search rules) ∙ cut_moved a.reach a.places m));
      loses = omega (arith, counted at, among_few (a.reach - n) n a.marks);
    }
