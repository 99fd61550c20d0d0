-- Of each call, two answers that its promise allows are equal. Assumes nothing.
use Prim.Native.Nat.{ℕ}
use Rattle.std.specs.Prelude.{Result}
use mathlib.Core.Path.{◌≡◌}
use Rattle.octets.proofs.Unique.{one}
use Rattle.octets.specs.declared.Refusal.{Refusal}
use Rattle.setup.specs.declared.Milliseconds.{Milliseconds}
use Rattle.setup.specs.declared.Ticks.{Ticks}
use Rattle.setup.specs.declared.Setup.{Setup}
use Rattle.setup.specs.Values.{Makes}
use Rattle.setup.specs.Conversion.{Converts, Counts}
use Rattle.setup.specs.Range.{ChecksNumbers, ChecksSetup, GivesFull}

pub makes_one : (rule taken usage history milliseconds rate paths difference : ℕ) {a b : Setup}
    → Makes rule taken usage history milliseconds rate paths difference a
    → Makes rule taken usage history milliseconds rate paths difference b
    → a ≡ b
makes_one rule taken usage history milliseconds rate paths difference = one

pub converts_one : (timeout : Milliseconds) (rate : ℕ) {a b : Ticks} → Converts timeout rate a → Converts timeout rate b → a ≡ b
converts_one timeout rate = one

pub counts_one : (ticks : Ticks) {a b : ℕ} → Counts ticks a → Counts ticks b → a ≡ b
counts_one ticks = one

pub checks_numbers_one : (rule taken usage history milliseconds rate paths : ℕ) {a b : Result Unit Refusal}
    → ChecksNumbers rule taken usage history milliseconds rate paths a
    → ChecksNumbers rule taken usage history milliseconds rate paths b
    → a ≡ b
checks_numbers_one rule taken usage history milliseconds rate paths p q = one (p 0) (q 0)

pub checks_setup_one : (setup : Setup) {a b : Result Unit Refusal} → ChecksSetup setup a → ChecksSetup setup b → a ≡ b
checks_setup_one setup = one

pub gives_full_one : (setup : Setup) {a b : Ticks} → GivesFull setup a → GivesFull setup b → a ≡ b
gives_full_one setup = one
