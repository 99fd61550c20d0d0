-- A mark is a digit of its word.
use Rattle.std.proofs.Common.{ℕ, sym, ap, rules}
use lib.Dec.{eqb}
use Rattle.marks.specs.Window.{words_of, number, mark}
use Rattle.marks.proofs.Digits.{digit}
use Rattle.marks.proofs.Words.{digit_at}
use Rattle.marks.proofs.window.is_set.Goals as goal

pub returns : goal.returns
unfolding mark number digit
returns c =
    let a = c.args in
    rw c.word_at.ensures (ap (λ (n : ℕ). eqb n 1) (sym (digit_at a.k (words_of a.marks) (search rules))))
