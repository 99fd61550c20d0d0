-- Any two answers that the promise of this room allows are equal. Assumes nothing.
use Prim.Native.Nat.{ℕ}
use mathlib.Core.Path.{◌≡◌}
use mathlib.Core.List.{List}
use Rattle.std.specs.Prelude.{Result}
use Rattle.octets.proofs.Unique.{one}
use Rattle.ipv4.specs.declared.Header.{Header}
use Rattle.ipv4.specs.declared.Unread.{Unread}
use Rattle.ipv4.specs.Reader.{Reads}

pub reads_one : (p : List ℕ) {r r' : Result Header Unread} → Reads p r → Reads p r' → r ≡ r'
reads_one p = one
