-- i words higher in the row, behind whose last word nothing stands.
use Rattle.std.proofs.Common.{ℕ, ◌*◌, ◌%◌, ◌^◌, ap, ◌∙◌, rules}
use native.Mathlib.Nat.{lt_of_le_of_lt, mod-eq_of_lt}
use lib.Pow.{shr_le}
use Rattle.marks.specs.Window.{bits, most, words_of, number, marks_of}
use Rattle.marks.proofs.Words.{value_fit}
use Rattle.marks.proofs.Counted.{moved_down}
use Rattle.marks.proofs.number.behind.Goals as goal

pub returns : goal.returns
unfolding number
returns c =
    let a = c.args in
    let few = lt_of_le_of_lt (shr_le (number a.marks) (bits * a.i)) (value_fit (words_of a.marks) (search rules)) in
    c.eight.ensures
    ∙ ap (λ (n : ℕ). marks_of (n % 2 ^ most)) (moved_down 8 a.i (number a.marks))
    ∙ ap marks_of (mod-eq_of_lt few)
