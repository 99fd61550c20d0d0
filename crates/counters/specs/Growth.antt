-- What the third demand says of the counters: "stored passed and lost grow by these counts modulo 2^64, passed also by packets taken
-- without a number", and CR 7 of before-first. The definitions of `Counting` and `LatentErrors` are held to it by three claims, which
-- proofs/Growth proves. Assumes nothing.
use Rattle.std.specs.Prelude.{◌≡◌, ℕ, ◌+◌, ◌%◌, ◌^◌, cond}
use Rattle.rules.specs.declared.Effect.{Effect}
use Rattle.counters.specs.declared.Counters.{Counters}
use Rattle.counters.specs.Counting.{counted, reset_counted}
use Rattle.counters.specs.LatentErrors.{latent_counted}

-- "grow by these counts modulo 2^64": a counter has grown by n
abbrev pub Grown : ℕ → ℕ → ℕ → Type 0
Grown before n now = now % 2 ^ 64 ≡ (before + n) % 2 ^ 64

-- a packet: passed has grown by one if it passes, with a number or without, lost by the places that it loses, and before-first by the holes
pub record GrownByPacket (k : Counters) (holes : ℕ) (effect : Effect) (now : Counters) : Type 0 where
  pub passed_grown : Grown k.passed (cond effect.passes 1 0) now.passed
  pub lost_grown : Grown k.lost effect.lost now.lost
  pub before_grown : Grown k.before_first holes now.before_first

-- a reset and a latent reset count no packet and no place: passed, lost and before-first stay
pub record Stays (k now : Counters) : Type 0 where
  pub same_passed : now.passed ≡ k.passed
  pub same_lost : now.lost ≡ k.lost
  pub same_before : now.before_first ≡ k.before_first

-- so for every packet, whether it has a number or not
abbrev pub PacketsGrow : Type 0
PacketsGrow =
    (k : Counters) (tagless holes : ℕ) (effect : Effect) → GrownByPacket k holes effect (counted k tagless holes effect)

-- for every reset
abbrev pub ResetsStay : Type 0
ResetsStay = (k : Counters) → Stays k (reset_counted k)

-- and for every latent reset
abbrev pub LatentResetsStay : Type 0
LatentResetsStay = (k : Counters) → Stays k (latent_counted k)
