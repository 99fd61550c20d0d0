-- Of each call, two answers that its promise allows are equal, and so is all that was lent to it; `ahz_crc32` has the law of its room,
-- `sums_one`. Assumes nothing.
use Prim.Native.Nat.{ℕ}
use mathlib.Core.Path.{◌≡◌}
use mathlib.Core.List.{List}
use Rattle.octets.proofs.Unique.{one}
use Rattle.words.proofs.Unique.{writes_to_one}
use Rattle.fcs_c.specs.Sequences.{ChecksTo, PartOctets, AppendsTo}

pub checks_to_one : (o : List ℕ) {a b : ℕ} → ChecksTo o a → ChecksTo o b → a ≡ b
checks_to_one o = one

pub part_octets_one : (o : List ℕ) {a b : ℕ} → PartOctets o a → PartOctets o b → a ≡ b
part_octets_one o = one

pub appends_to_one : (o out : List ℕ) {before a b : ℕ} {l m : List ℕ} {i j : ℕ} → AppendsTo o out before a l i
    → AppendsTo o out before b m j → (a ≡ b) × (l ≡ m) × (i ≡ j)
appends_to_one o out = writes_to_one
