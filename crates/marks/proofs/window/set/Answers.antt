-- The bit is set in the word of its mark.
use Rattle.std.proofs.Common.{◌%◌, rules, arith}
use Rattle.marks.proofs.Digits.{one_shifted}
use Rattle.marks.proofs.Words.{eight}
use Rattle.marks.proofs.Counted.{with_bit}
use Rattle.marks.proofs.Moves.{set_words}
use Rattle.marks.proofs.window.set.Goals as goal

pub returns : goal.returns
unfolding with_bit
returns c =
    let a = c.args in
    set_words a.k a.marks _ (search rules) (rw (← one_shifted 64 (a.k % 64) (omega arith)) (search (eight, rules)))
