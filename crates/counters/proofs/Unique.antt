-- Of each call, two answers that its promise allows are equal. Assumes nothing.
use Rattle.std.proofs.Common.{◌≡◌, ℕ, Bool}
use Rattle.octets.proofs.Unique.{one}
use Rattle.rules.specs.declared.Effect.{Effect}
use Rattle.counters.specs.declared.Counters.{Counters}
use Rattle.counters.specs.Counting.{StartsAtZero, Counts, CountsReset}
use Rattle.counters.specs.LatentErrors.{GivesFigure, TellsError, CountsLatentReset}

pub starts_at_zero_one : {a b : Counters} → StartsAtZero a → StartsAtZero b → a ≡ b
starts_at_zero_one = one

module _ (k : Counters) where
  pub counts_one : (tagless holes : ℕ) (effect : Effect) {a b : Counters} → Counts k tagless holes effect a
      → Counts k tagless holes effect b → a ≡ b
  counts_one tagless holes effect = one

  pub counts_reset_one : {a b : Counters} → CountsReset k a → CountsReset k b → a ≡ b
  counts_reset_one = one

  pub gives_figure_one : (paths : ℕ) {a b : ℕ} → GivesFigure k paths a → GivesFigure k paths b → a ≡ b
  gives_figure_one paths = one

  pub tells_error_one : (base paths difference : ℕ) {a b : Bool} → TellsError base k paths difference a
      → TellsError base k paths difference b → a ≡ b
  tells_error_one base paths difference = one

  pub counts_latent_reset_one : {a b : Counters} → CountsLatentReset k a → CountsLatentReset k b → a ≡ b
  counts_latent_reset_one = one
