-- Each word has what it keeps and what is carried over to it.
use Rattle.std.proofs.Common.{rules}
use Rattle.marks.specs.Window.{words_of, number}
use Rattle.marks.proofs.Words.{eight, marks_by}
use Rattle.marks.proofs.Counted.{carry_words, carry_fit, carry_number}
use Rattle.marks.proofs.number.within.Goals as goal

pub returns : goal.returns
unfolding number carry_words
returns c =
    let a = c.args in
    let words = words_of a.marks in
    marks_by _ (carry_words a.b 0 words) _ (search (eight, rules)) (carry_fit a.b 0 words (search rules) (search rules) (search rules))
    (carry_number a.b words (search rules) (search rules))
