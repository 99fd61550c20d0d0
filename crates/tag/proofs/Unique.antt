-- Any two answers that a promise of this room allows are equal, and so are any two later buffers. Assumes nothing.
use Prim.Native.Nat.{ℕ}
use mathlib.Core.Path.{◌≡◌}
use mathlib.Core.List.{List}
use Rattle.std.specs.Prelude.{Result}
use Rattle.octets.specs.declared.Refusal.{Refusal}
use Rattle.octets.specs.Checks.{Verdict}
use Rattle.octets.proofs.Unique.{one}
use Rattle.encoding.specs.declared.Encoding.{Encoding}
use Rattle.tag.specs.Output.{Writes}
use Rattle.tag.specs.Insertion.{Inserts}
use Rattle.tag.specs.Removal.{Removes}

pub writes_one : {v : Verdict} {result out : List ℕ} {r r' : Result ℕ Refusal} {l l' : List ℕ}
    → Writes v result out r l → Writes v result out r' l' → (r ≡ r') × (l ≡ l')
writes_one p q = (one p.answer q.answer, one p.buffer q.buffer)

module _ (e : Encoding) (o : List ℕ) {out : List ℕ} {r r' : Result ℕ Refusal} {l l' : List ℕ} where
  pub inserts_one : (n id : ℕ) → Inserts e o n id out r l → Inserts e o n id out r' l' → (r ≡ r') × (l ≡ l')
  inserts_one n id = writes_one

  pub removes_one : Removes e o out r l → Removes e o out r' l' → (r ≡ r') × (l ≡ l')
  removes_one = writes_one
