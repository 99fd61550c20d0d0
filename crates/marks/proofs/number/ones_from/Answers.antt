-- What is counted word by word is counted of the number.
use Rattle.std.proofs.Common.{ap, ◌∙◌, rules, arith}
use Rattle.marks.specs.Window.{number}
use Rattle.marks.proofs.Words.{number_of}
use Rattle.marks.proofs.Counted.{ones_of, ones-from}
use Rattle.marks.proofs.number.ones_from.Goals as goal

pub returns : goal.returns
unfolding number ones_of
returns c =
    let a = c.args in
    omega (
      arith,
      ones-from a.k (number a.marks) _ _ (ap number c.behind-rest.ensures ∙ number_of _) (search rules) (search rules),
    )
