-- Of each call, two answers that its promise allows are equal, and so is all that was lent to it. Assumes nothing.
use Prim.Native.Nat.{ℕ}
use mathlib.Core.Path.{◌≡◌}
use mathlib.Core.List.{List}
use Rattle.octets.proofs.Unique.{one}
use Rattle.cards_c.specs.Charge.{NextTo, CardOctets, RestOctets}

pub next_to_one : (o : List ℕ) (before : ℕ) {a b i j : ℕ} → NextTo o before a i → NextTo o before b j → (a ≡ b) × (i ≡ j)
next_to_one o before p q = (one p.answer q.answer, one p.value q.value)

pub card_octets_one : (o : List ℕ) {a b : ℕ} → CardOctets o a → CardOctets o b → a ≡ b
card_octets_one o = one

pub rest_octets_one : (o : List ℕ) {a b : ℕ} → RestOctets o a → RestOctets o b → a ≡ b
rest_octets_one o = one
