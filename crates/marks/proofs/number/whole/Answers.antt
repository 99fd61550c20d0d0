-- q words lower in the row.
use Rattle.std.proofs.Common.{ℕ, ◌%◌, ◌^◌, ap, ◌∙◌, rules}
use Rattle.marks.specs.Window.{most, number, marks_of}
use Rattle.marks.proofs.Counted.{moved_up}
use Rattle.marks.proofs.number.whole.Goals as goal

pub returns : goal.returns
returns c =
    let a = c.args in
    c.eight.ensures ∙ ap (λ (n : ℕ). marks_of (n % 2 ^ most)) (moved_up 8 a.q (number a.marks) (search rules))
