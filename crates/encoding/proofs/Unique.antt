-- Any two answers that a promise of this room allows are equal. Assumes nothing.
use Prim.Native.Nat.{ℕ}
use mathlib.Core.Path.{◌≡◌}
use mathlib.Core.Bool.{Bool}
use mathlib.Core.List.{List}
use Rattle.std.specs.Prelude.{Result}
use Rattle.octets.specs.declared.Refusal.{Refusal}
use Rattle.octets.proofs.Unique.{one}
use Rattle.encoding.specs.declared.Encoding.{Encoding}
use Rattle.encoding.specs.declared.Packet.{Packet}
use Rattle.encoding.specs.Encodings.{InFront, Stands, Marks, Makes}
use Rattle.encoding.specs.Reader.{ReadsIn}

module _ (e : Encoding) where
  pub in_front_one : {r r' : Bool} → InFront e r → InFront e r' → r ≡ r'
  in_front_one = one

  pub stands_one : (front back : ℕ) {r r' : ℕ} → Stands e front back r → Stands e front back r' → r ≡ r'
  stands_one front back = one

  pub marks_one : {r r' : ℕ} → Marks e r → Marks e r' → r ≡ r'
  marks_one = one

  pub makes_one : (number id size : ℕ) {r r' : List ℕ} → Makes e number id size r → Makes e number id size r' → r ≡ r'
  makes_one number id size = one

  pub reads_in_one : (o : List ℕ) {r r' : Result Packet Refusal} → ReadsIn e o r → ReadsIn e o r' → r ≡ r'
  reads_in_one o = one
