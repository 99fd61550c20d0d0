-- The words are those of the row.
use Rattle.std.proofs.Common.{rules}
use native.Mathlib.Nat.{add-zero}
use Rattle.marks.specs.Window.{words_of, number}
use Rattle.marks.proofs.Words.{marks_by}
use Rattle.marks.proofs.Counted.{raised, listed, amid, amid_fit, amid_number}
use Rattle.marks.proofs.number.eight.Goals as goal

pub returns : goal.returns
unfolding number listed raised
returns c =
    let a = c.args in
    let words = words_of a.marks in
    marks_by _ (amid 8 a.i words) _ (rw (add-zero a.i)) (amid_fit 8 a.i words (search rules))
    (amid_number 8 a.i words (search rules))
