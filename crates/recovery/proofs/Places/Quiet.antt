-- A tick that does not time out and a latent reset leave all that the places speak of. Assumes nothing.
use Rattle.std.specs.Prelude.{Ok}
use mathlib.Core.Path.{◌≡◌, refl, ap}
use mathlib.Core.Bool.{true}
use Rattle.recovery.specs.declared.State.{State}
use Rattle.recovery.specs.declared.Stepped.{Stepped}
use Rattle.recovery.specs.declared.Ticked.{Ticked}
use Rattle.recovery.specs.declared.Ticked.TheVariants.{Reset}
use Rattle.recovery.specs.Soundness.{sound}
use Rattle.recovery.specs.Timer.{tick_of}
use Rattle.recovery.specs.LatentErrors.{rebased}
use Rattle.counters.proofs.Growth.{latent_resets_stay}
use Rattle.recovery.proofs.SpanCalls.{quiet_tick, timeout_tick}

abbrev pub Alike : State → State → Type 0
Alike s next =
    (next.setup ≡ s.setup)
    × (next.take_any ≡ s.take_any)
    × (next.newest ≡ s.newest)
    × (next.marks ≡ s.marks)
    × (next.first ≡ s.first)
    × (next.counters.passed ≡ s.counters.passed)
    × (next.counters.lost ≡ s.counters.lost)
    × (next.counters.before_first ≡ s.counters.before_first)

pub tick_alike : (s : State) → sound s ≡ true → ((tick_of s).answer ≡ Ok Reset → ⊥) → Alike s (tick_of s).state
tick_alike s ok on =
    let more : s.left.0 ≡ 1 → ⊥ = λ one. on (ap (λ (r : Stepped Ticked). r.answer) (timeout_tick s ok one)) in
    rw (quiet_tick s ok more) (refl, refl, refl, refl, refl, refl, refl, refl)

pub latent_alike : (s : State) → Alike s (rebased s)
unfolding rebased
latent_alike s =
    let same = latent_resets_stay s.counters in
    (refl, refl, refl, refl, refl, same.same_passed, same.same_lost, same.same_before)
