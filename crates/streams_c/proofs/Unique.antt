-- Of each call, two answers that its promise allows are equal, and so is all that was lent to it. Assumes nothing.
use Prim.Native.Nat.{ℕ}
use mathlib.Core.Path.{◌≡◌}
use mathlib.Core.List.{List}
use Rattle.octets.proofs.Unique.{one}
use Rattle.streams_c.specs.Tables.{ChecksTableTo, LooksUpTo}

pub checks_table_to_one : (t : List ℕ) {a b : ℕ} → ChecksTableTo t a → ChecksTableTo t b → a ≡ b
checks_table_to_one t = one

pub looks_up_to_one : (t o : List ℕ) (before : ℕ) {a b i j : ℕ} → LooksUpTo t o before a i → LooksUpTo t o before b j → (a ≡ b) × (i ≡ j)
looks_up_to_one t o before p q = (one p.answer q.answer, one p.handle q.handle)
