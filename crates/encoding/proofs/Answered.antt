-- What the answer of a reading in an encoding tells of the frame. Assumes nothing.
use Prim.Native.Nat.{ℕ}
use mathlib.Core.Path.{◌≡◌}
use mathlib.Core.List.{List}
use Rattle.std.specs.Prelude.{Result, Ok, Err, is_some}
use Rattle.octets.specs.declared.Refusal.{Refusal}
use Rattle.octets.proofs.Bools.{by_cases}
use Rattle.frame.specs.declared.Header.{Header}
use Rattle.frame.specs.Reader.{reading}
use Rattle.encoding.specs.declared.Encoding.{Encoding}
use Rattle.encoding.specs.declared.Packet.{Packet}
use Rattle.encoding.specs.Encodings.{carries, sequence}
use Rattle.encoding.specs.Reader.{carrying, reading_in}

module _ (e : Encoding) (o : List ℕ) where
  -- a header is the one that every stream reads, and beside it stands what the frame carries
  pub header_of : {p : Packet} → Ok p ≡ reading_in e o → (Ok p.header ≡ reading o) × (p.sequence ≡ sequence e o)
  unfolding reading_in
  header_of {p} q = by_reading (reading o) q
    where
      by_reading : (r : Result Header Refusal) → Ok p ≡ carrying r (sequence e o) → (Ok p.header ≡ r) × (p.sequence ≡ sequence e o)
      by_reading (Ok g) q = (cc, cc)
      by_reading (Err n) q = (cc, cc)

  pub refusal_of : {n : Refusal} → Err n ≡ reading_in e o → Err n ≡ reading o
  unfolding reading_in
  refusal_of {n} p = by_reading (reading o) p
    where
      by_reading : (r : Result Header Refusal) → Err n ≡ carrying r (sequence e o) → Err n ≡ r
      by_reading (Ok g) q = cc
      by_reading (Err m) q = cc

  -- and the other way round
  pub reads_as : {h : Header} → Ok h ≡ reading o → reading_in e o ≡ Ok (record { header = h; sequence = sequence e o })
  unfolding reading_in
  reads_as r = rw (← r)

  -- whether it carries a number
  pub numbered_told : is_some (sequence e o) ≡ carries e o
  unfolding sequence
  numbered_told = by_cases (carries e o) (λ c. rw c) (λ c. rw c)
