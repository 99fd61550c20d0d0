-- The timer's rule by what it asks: full ticks where that holds, and else the ticks that were left. Assumes nothing.
use mathlib.Core.Path.{◌≡◌}
use mathlib.Core.Bool.{Bool, true, false, ◌||◌}
use Rattle.setup.specs.declared.Setup.{Setup}
use Rattle.setup.specs.Range.{is_individual, full_of}
use Rattle.recovery.specs.declared.Left.{Left}
use Rattle.recovery.specs.Timer.{restarted}

module _ (passes : Bool) (setup : Setup) (left : Left) {asked : Bool} (same : asked ≡ (passes || is_individual setup)) where
  pub full_when : asked ≡ true → record { 0 = (full_of setup).0 } ≡ restarted passes setup left
  unfolding restarted
  full_when holds = rw (← same, holds)

  pub left_when : asked ≡ false → left ≡ restarted passes setup left
  unfolding restarted
  left_when fails = rw (← same, fails)
