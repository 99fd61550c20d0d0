-- The checks in the paper's order, from the last to the first.
use Rattle.octets.specs.Checks.{Verdict, verdict, answered}
use Rattle.octets.proofs.Order.{first_check}
use Rattle.setup.specs.Range.{setup_checks, checked}
use Rattle.setup.proofs.range.check_numbers.Goals as goal

pub returns : goal.returns
unfolding checked setup_checks verdict
returns c difference =
    rw (
      c.unless.ensures,
      c.unless-from_taken.ensures,
      c.unless-from_usage.ensures,
      c.unless-from_history.ensures,
      c.within-4.ensures,
      c.unless-from_time.ensures,
      c.within-3.ensures,
      c.unless-from_rate.ensures,
      c.within-2.ensures,
      c.unless-from_paths.ensures,
      c.within.ensures,
    )
    (simp (first_check (λ (v : Verdict). answered v (tt {0}))))
