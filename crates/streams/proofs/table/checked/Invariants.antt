use Rattle.std.proofs.Common.{◌-◌, ◌≡◌}
use Rattle.streams.specs.Walk.{verdict_from}
use Rattle.streams.proofs.table.checked.Given as goal

-- the entries from `at` on decide, with `passed` before them
abbrev pub invariant-loop-at : goal.invariant-loop-at
invariant-loop-at l = verdict_from l.table l.fn.from ≡ verdict_from l.table (record { at = l.at; passed = l.passed })

-- what is left of the table
abbrev pub decreases-loop-at : goal.decreases-loop-at
decreases-loop-at l = l.n - l.at
