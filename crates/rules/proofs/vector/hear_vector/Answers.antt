-- Each way out is the rule's line for the d that its tests say.
use Rattle.std.proofs.Common.{sym, arith}
use Rattle.rules.specs.Difference.{apart}
use Rattle.rules.specs.Vector.{vector}
use Rattle.rules.proofs.VectorLaws.{is_same, is_ahead, is_behind}
use Rattle.rules.proofs.vector.hear_vector.Goals as goal

pub overflow_sub-far : goal.overflow_sub-far
unfolding apart
overflow_sub-far c = omega (arith, c.apart_by-far.ensures)

-- d is 0
pub returns-then-far-eq0 : goal.returns-then-far-eq0
unfolding vector
returns-then-far-eq0 c = rw (is_same _ _ _ (sym c.apart_by-far.ensures) c.if-far-eq0.true) c.hear_behind.ensures

-- d is ahead
pub returns-then-far-lt32768 : goal.returns-then-far-lt32768
unfolding vector
returns-then-far-lt32768 c =
    rw (is_ahead _ _ _ (sym c.apart_by-far.ensures) c.if-far-eq0.false c.if-far-lt32768.true) c.hear_ahead.ensures

-- d is behind
pub returns : goal.returns
unfolding vector
returns c = rw (is_behind _ _ _ (sym c.apart_by-far.ensures) c.if-far-lt32768.false) c.hear_behind-2.ensures
