-- Any two answers that a promise of this room allows are equal. Assumes nothing.
use Prim.Native.Nat.{ℕ}
use mathlib.Core.Path.{◌≡◌}
use mathlib.Core.List.{List}
use Rattle.std.specs.Prelude.{Option, Result}
use Rattle.octets.specs.declared.Refusal.{Refusal}
use Rattle.octets.proofs.Unique.{one}
use Rattle.streams.specs.Table.{ChecksTable, LooksUp}

pub checks_table_one : (t : List ℕ) {r r' : Result (Unit {0}) Refusal} → ChecksTable t r → ChecksTable t r' → r ≡ r'
checks_table_one t = one

pub looks_up_one : (t o : List ℕ) {r r' : Result (Option ℕ) Refusal} → LooksUp t o r → LooksUp t o r' → r ≡ r'
looks_up_one t o = one
