-- Of a tape and a buffer, two answers that the promise allows are equal, and so are two later buffers. Assumes nothing.
use Rattle.std.specs.Prelude.{Result}
use Prim.Native.Nat.{ℕ}
use mathlib.Core.Path.{◌≡◌}
use mathlib.Core.List.{List}
use Rattle.octets.specs.declared.Refusal.{Refusal}
use Rattle.octets.proofs.Unique.{one}
use Rattle.tape.specs.Player.{Runs}

pub runs_one : {tape out : List ℕ} {r r' : Result ℕ Refusal} {l l' : List ℕ} → Runs tape out r l → Runs tape out r' l' → (r ≡ r') × (l ≡ l')
runs_one p q = (one p.answer q.answer, one p.buffer q.buffer)
