-- A product taken modulo 2^64 gives the same difference modulo 2^64.
use native.Mathlib.Nat.{mod-add-mod}
use Rattle.counters.specs.LatentErrors.{less, figure}
use Rattle.counters.proofs.latent_errors.figure.Goals as goal

pub returns : goal.returns
unfolding less figure
returns c = rw (mod-add-mod, c.saturating_sub-others.ensures)
