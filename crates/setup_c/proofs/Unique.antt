-- Of each call, two answers that its promise allows are equal. Assumes nothing.
use Prim.Native.Nat.{ℕ}
use mathlib.Core.Path.{◌≡◌}
use Rattle.octets.proofs.Unique.{one}
use Rattle.setup.specs.declared.Setup.{Setup}
use Rattle.setup_c.specs.Setups.{ConvertsTo, ChecksSetupTo}

pub converts_to_one : (milliseconds rate : ℕ) {a b : ℕ} → ConvertsTo milliseconds rate a → ConvertsTo milliseconds rate b → a ≡ b
converts_to_one milliseconds rate = one

pub checks_setup_to_one : (setup : Setup) {a b : ℕ} → ChecksSetupTo setup a → ChecksSetupTo setup b → a ≡ b
checks_setup_to_one setup = one
