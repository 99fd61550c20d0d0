-- What each call answers of a sound state. Assumes nothing.
use Rattle.std.specs.Prelude.{Ok}
use mathlib.Core.Path.{◌≡◌}
use mathlib.Core.Bool.{true, cond}
use Rattle.recovery.specs.declared.State.{State}
use Rattle.recovery.specs.declared.Packet.{Packet}
use Rattle.recovery.specs.declared.Latent.TheVariants.{Agrees, Error}
use Rattle.recovery.specs.Soundness.{sound}
use Rattle.recovery.specs.Resets.{reset_state, reset_of}
use Rattle.recovery.specs.Timer.{timed, tick_of}
use Rattle.recovery.specs.Packets.{heard, packet_of}
use Rattle.recovery.specs.LatentErrors.{rebased, latent_error, latent_reset_of, latent_test_of}
use Rattle.octets.proofs.Bools.{choose_first}

module _ (s : State) (ok : sound s ≡ true) where
  pub packet_answers : (p : Packet) → packet_of s p ≡ heard s p
  unfolding packet_of
  packet_answers p = choose_first _ _ ok

  pub tick_answers : tick_of s ≡ timed s
  unfolding tick_of
  tick_answers = choose_first _ _ ok

  pub reset_answers : reset_of s ≡ record { answer = Ok (tt {0}); state = reset_state s }
  unfolding reset_of
  reset_answers = choose_first _ _ ok

  pub latent_reset_answers : latent_reset_of s ≡ record { answer = Ok (tt {0}); state = rebased s }
  unfolding latent_reset_of
  latent_reset_answers = choose_first _ _ ok

  pub latent_test_answers : latent_test_of s ≡ Ok (cond (latent_error s) Error Agrees)
  unfolding latent_test_of
  latent_test_answers = choose_first _ _ ok
