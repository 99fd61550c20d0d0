-- Two answers that the promise allows are equal. Assumes nothing.
use Prim.Native.Nat.{ℕ}
use mathlib.Core.Path.{◌≡◌}
use Rattle.octets.proofs.Unique.{one}
use Rattle.version_c.specs.Versions.{Tells}

pub tells_one : {a b : ℕ} → Tells a → Tells b → a ≡ b
tells_one = one
