-- The newest number again is discarded, and another one passes.
use borrow.Author.Tests.{eq-eqb, ne_eqb}
use Rattle.octets.proofs.Bools.{one_unless}
use Rattle.rules.specs.Matching.{match}
use Rattle.rules.proofs.VectorLaws.{order_spared}
use Rattle.rules.proofs.matching.hear_match.Goals as goal

-- the newest number again
pub returns-then-number-newest : goal.returns-then-number-newest
unfolding match
returns-then-number-newest c = rw (eq-eqb _ _ c.if-number-newest.true) c.discard.ensures

-- another number
pub returns : goal.returns
unfolding match
returns c = rw (ne_eqb _ _ c.if-number-newest.false, order_spared, ← c.apart_by-far.ensures, ← one_unless) c.accept.ensures
