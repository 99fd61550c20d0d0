-- Two answers that the promise of this room allows are equal. Assumes nothing.
use Prim.Native.Nat.{ℕ}
use mathlib.Core.Path.{◌≡◌}
use mathlib.Core.List.{List}
use Rattle.octets.proofs.Unique.{one}
use Rattle.crc.specs.Division.{Sums}

pub sums_one : (o : List ℕ) {r r' : ℕ} → Sums o r → Sums o r' → r ≡ r'
sums_one o = one
