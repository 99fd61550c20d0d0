use Rattle.lines.proofs.Counting.{Counting}
use Rattle.lines.proofs.page.counts.Given as goal

-- the first i counters are written
abbrev pub invariant-loop-i : goal.invariant-loop-i
invariant-loop-i l = Counting l.counters l.fn.page l.at l.page l.end l.i
