-- Of the first moves of a slide those are asked that lie below the first packet's place.
use Rattle.std.proofs.Common.{◌≤◌, arith, rules}
use Rattle.rules.specs.Difference.{apart}
use Rattle.rules.specs.FirstPlace.{traced}
use Rattle.rules.proofs.FirstLaws.{stays, moves, nth_holes}
use Rattle.rules.proofs.Window.trace.Goals.{Else-n-now}
use Rattle.rules.proofs.Window.trace.Goals as goal

-- what the second test says where it fails
on : (c : Else-n-now) → let a = c.args in (1 ≤ a.first.0) × (1 ≤ apart a.self.newest a.now)
on c = moves _ _ _ (search rules) (search rules) c.if-n-now.false

pub carry-carried-requires-clause-le_d : goal.carry-carried-requires-clause-le_d
carry-carried-requires-clause-le_d c =
    let there = on (goal.at.carry-carried-requires-clause-le_d c).Else-n-now in
    omega (arith, c.apart_by-d.ensures, there.1)

pub carry-carried-requires-clause-d_bound : goal.carry-carried-requires-clause-d_bound
unfolding apart
carry-carried-requires-clause-d_bound c = omega (arith, c.apart_by-d.ensures)

-- the first packet
pub returns-then-self : goal.returns-then-self
unfolding traced
returns-then-self c = rw (c.if-self.true, c.open.ensures)

-- no first place in the window, or the newest number stays
pub returns-then-n-now : goal.returns-then-n-now
unfolding traced
returns-then-n-now c =
    let a = c.args in
    let same = stays a.self.history a.self.newest a.now a.first a.self.marks c.if-n-now.true in
    rw (c.if-self.false, same.0, same.1)

-- one in it
pub returns : goal.returns
unfolding traced
returns c =
    let a = c.args in
    let there = on (goal.at.returns c).Else-n-now in
    simp (
      c.if-self.false,
      c.carry-carried.ensures,
      c.slide-early.ensures.loses,
      c.leaving_below-left.ensures,
      c.apart_by-d.ensures,
      nth_holes a.self.history (apart a.self.newest a.now) a.first.0 there.0 a.self.marks,
    )
