use Rattle.std.proofs.Common.{◌-◌}
use Rattle.streams.proofs.Walking.{Walking}
use Rattle.streams.proofs.table.seek.Given as goal

-- the entries from `from` up to `at` are good and none of them matches, and `front` is that of the entry there
abbrev pub invariant-loop-at : goal.invariant-loop-at
invariant-loop-at l = Walking l.table l.h l.fn.from l.front (record { at = l.at; passed = l.passed })

-- what is left of the table
abbrev pub decreases-loop-at : goal.decreases-loop-at
decreases-loop-at l = l.n - l.at
