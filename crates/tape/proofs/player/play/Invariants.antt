-- The invariant and the measure of the loop over the events.
use Rattle.std.proofs.Common.{length, ◌-◌}
use Rattle.tape.proofs.Played.{Playing}
use Rattle.tape.proofs.player.play.Given as goal

-- the page holds the lines so far, and the rest is still to come
abbrev pub invariant-loop-line : goal.invariant-loop-line
invariant-loop-line l = Playing l.tape l.page l.at l.written l.bench

-- the octets still to come
abbrev pub decreases-loop-line : goal.decreases-loop-line
decreases-loop-line l = length l.tape - l.at
