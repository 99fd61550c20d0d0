-- What is masked out of the first word is a row of its digits.
use Rattle.std.proofs.Common.{ap, ◌∙◌, rules}
use lib.Bits.{and_high}
use lib.Count.{ones}
use Rattle.marks.specs.Window.{number}
use Rattle.marks.proofs.Digits.{ones_up}
use Rattle.marks.proofs.Counted.{first_row}
use Rattle.marks.proofs.AtOnce.{ones_are}
use Rattle.marks.proofs.window.ones_among.Goals as goal

pub returns : goal.returns
unfolding number
returns c =
    let a = c.args in
    rw (c.count.ensures.value, c.row.ensures, and_high a.marks.w0 a.n a.k, ones_up)
    (ap ones (first_row a.marks.w0 _ (search rules) a.k a.n (search rules)) ∙ ones_are a.k a.n a.marks)
