-- Of each call, two answers that its promise allows are equal, and so are two generators afterwards. Assumes nothing.
use Prim.Native.Nat.{ℕ}
use mathlib.Core.Path.{◌≡◌}
use Rattle.octets.proofs.Unique.{one}
use Rattle.numbering_c.specs.Generators.{ZeroesTo, GeneratesTo}

pub zeroes_to_one : {a b : ℕ} → ZeroesTo a → ZeroesTo b → a ≡ b
zeroes_to_one = one

pub generates_to_one : (before : ℕ) {a b i j : ℕ} → GeneratesTo before a i → GeneratesTo before b j → (a ≡ b) × (i ≡ j)
generates_to_one before p q = (one p.answer q.answer, one p.generator q.generator)
