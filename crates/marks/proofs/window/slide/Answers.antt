-- Both ways go as the claim that a slide can be made in one go has it.
use Rattle.std.proofs.Common.{rules, arith}
use Rattle.marks.specs.Window.{slid, lost_in}
use Rattle.marks.proofs.AtOnce.{goes_right}
use Rattle.marks.proofs.Reach.{reach_low, reach_high}
use Rattle.marks.proofs.window.slide.Goals as goal

-- no move
pub returns-then-places-eq0 : goal.returns-then-places-eq0
unfolding slid lost_in
returns-then-places-eq0 c = search rules

pub slide_word-requires-clause-le_reach : goal.slide_word-requires-clause-le_reach
slide_word-requires-clause-le_reach c = omega (arith, reach_low c.args.history, c.reach_of-reach.ensures)

-- in a word
pub returns-then-reach-le-WORD : goal.returns-then-reach-le-WORD
returns-then-reach-le-WORD c =
    let a = c.args in
    goes_right a.history a.places a.marks (omega arith) (rw c.reach_of-reach.ensures at c.slide_word.ensures)

pub slide_words-requires : goal.slide_words-requires
slide_words-requires c = omega (arith, reach_high c.args.history, c.reach_of-reach.ensures)

-- in several
pub returns : goal.returns
returns c =
    let a = c.args in
    goes_right a.history a.places a.marks (omega arith) (rw c.reach_of-reach.ensures at c.slide_words.ensures)
