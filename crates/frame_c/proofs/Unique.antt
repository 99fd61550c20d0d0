-- Of each call, two answers that its promise allows are equal, and so is all that was lent to it. Assumes nothing.
use Prim.Native.Nat.{ℕ}
use mathlib.Core.Path.{◌≡◌}
use mathlib.Core.List.{List}
use Rattle.octets.proofs.Unique.{one}
use Rattle.encoding.specs.declared.Encoding.{Encoding}
use Rattle.frame_c.specs.Frames.{ReadsTo, PayloadOctets}

pub reads_to_one : (e : Encoding) (n : ℕ) (o out : List ℕ) {a b : ℕ} {l m : List ℕ} → ReadsTo e n o out a l → ReadsTo e n o out b m
    → (a ≡ b) × (l ≡ m)
reads_to_one e n o out p q = (one p.answer q.answer, one p.words q.words)

pub payload_octets_one : (o : List ℕ) {a b : ℕ} → PayloadOctets o a → PayloadOctets o b → a ≡ b
payload_octets_one o = one
