-- Of the marks that leave those are lost that are not counted.
use Rattle.std.proofs.Common.{◌-◌, ◌≤◌, min, ◌≡◌, arith}
use Rattle.marks.specs.AtOnce.{ones_among}
use Rattle.marks.proofs.AtOnce.{among_few}
use Rattle.marks.proofs.window.slide_word.Goals.{After-ones_among-ones}
use Rattle.marks.proofs.window.slide_word.Goals as goal

-- those that leave, and are set
counted : (c : After-ones_among-ones)
    → let a = c.args in
    c.ones_among-ones.result ≡ ones_among (a.reach - min a.places a.reach) (min a.places a.reach) a.marks
counted c = rw (c.ones_among-ones.ensures, c.count_leaving-leaving.ensures)

few : (c : After-ones_among-ones) → c.ones_among-ones.result ≤ c.args.places
few c =
    let a = c.args in
    omega (arith, counted c, among_few (a.reach - min a.places a.reach) (min a.places a.reach) a.marks)

pub overflow_sub-lost : goal.overflow_sub-lost
overflow_sub-lost c = omega (arith, few (goal.at.overflow_sub-lost c).After-ones_among-ones)

pub returns : goal.returns
returns c =
    let at = (goal.at.returns c).After-ones_among-ones in
    record { moves = c.move_word-moved.ensures; loses = omega (arith, counted at, few at) }
