-- A fresh state is sound. Assumes nothing.
use Rattle.std.specs.Prelude.{Ok}
use mathlib.Core.Path.{◌≡◌}
use mathlib.Core.Bool.{true}
use Rattle.setup.specs.declared.Setup.{Setup}
use Rattle.setup.specs.Range.{in_range}
use Rattle.setup.proofs.InRange.{had_in_range}
use Rattle.recovery.specs.declared.State.{State}
use Rattle.recovery.specs.Resets.{fresh_state, begun_from}
use Rattle.recovery.specs.Soundness.{sound}
use Rattle.recovery.proofs.SoundKept.{cleared_sound}

pub fresh_sound : (setup : Setup) → in_range setup ≡ true → sound (fresh_state setup) ≡ true
unfolding fresh_state
fresh_sound setup e = cleared_sound setup _ _ e

pub begun_sound : (setup : Setup) (s : State) → begun_from setup ≡ Ok s → sound s ≡ true
unfolding begun_from
begun_sound setup s e =
    let had = had_in_range setup e in
    rw had.1 (fresh_sound setup had.0)
