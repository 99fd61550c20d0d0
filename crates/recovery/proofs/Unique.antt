-- Of each call, two answers that its promise allows are equal. Assumes nothing.
use Prim.Native.Nat.{ℕ}
use Rattle.std.specs.Prelude.{Result}
use mathlib.Core.Path.{◌≡◌}
use mathlib.Core.Bool.{Bool}
use Rattle.octets.specs.declared.Refusal.{Refusal}
use Rattle.octets.proofs.Unique.{one}
use Rattle.setup.specs.declared.Setup.{Setup}
use Rattle.marks.specs.declared.Marks.{Marks}
use Rattle.rules.specs.declared.First.{First}
use Rattle.counters.specs.declared.Counters.{Counters}
use Rattle.recovery.specs.declared.Left.{Left}
use Rattle.recovery.specs.declared.State.{State}
use Rattle.recovery.specs.declared.Stepped.{Stepped}
use Rattle.recovery.specs.declared.Packet.{Packet}
use Rattle.recovery.specs.declared.Verdict.{Verdict}
use Rattle.recovery.specs.declared.Ticked.{Ticked}
use Rattle.recovery.specs.declared.Latent.{Latent}
use Rattle.recovery.specs.Soundness.{TellsSound}
use Rattle.recovery.specs.Resets.{Begins, Resets}
use Rattle.recovery.specs.Packets.{Hears}
use Rattle.recovery.specs.Timer.{Times, Remain}
use Rattle.recovery.specs.Storage.{Stores}
use Rattle.recovery.specs.LatentErrors.{LatentResets, LatentTests}

pub begins_one : (setup : Setup) {a b : Result State Refusal} → Begins setup a → Begins setup b → a ≡ b
begins_one setup = one

pub remain_one : (left : Left) {a b : ℕ} → Remain left a → Remain left b → a ≡ b
remain_one left = one

pub stores_one : (setup : Setup) (newest : ℕ) (marks : Marks) (first : First) (take_any : Bool) (left : ℕ) (counters : Counters) (base : ℕ)
    {a b : State} → Stores setup newest marks first take_any left counters base a
    → Stores setup newest marks first take_any left counters base b → a ≡ b
stores_one setup newest marks first take_any left counters base = one

module _ (s : State) where
  pub tells_sound_one : {a b : Bool} → TellsSound s a → TellsSound s b → a ≡ b
  tells_sound_one = one

  pub hears_one : (packet : Packet) {a b : Stepped Verdict} → Hears s packet a → Hears s packet b → a ≡ b
  hears_one packet = one

  pub times_one : {a b : Stepped Ticked} → Times s a → Times s b → a ≡ b
  times_one = one

  pub resets_one : {a b : Stepped Unit} → Resets s a → Resets s b → a ≡ b
  resets_one = one

  pub latent_resets_one : {a b : Stepped Unit} → LatentResets s a → LatentResets s b → a ≡ b
  latent_resets_one = one

  pub latent_tests_one : {a b : Result Latent Refusal} → LatentTests s a → LatentTests s b → a ≡ b
  latent_tests_one = one
