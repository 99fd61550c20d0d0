-- Two answers that a promise allows are equal. Assumes nothing.
use mathlib.Core.Path.{◌≡◌}
use mathlib.Core.List.{List}
use Prim.Native.Nat.{ℕ}
use Rattle.std.specs.Prelude.{Result}
use Rattle.octets.specs.declared.Refusal.{Refusal}
use Rattle.octets.proofs.Unique.{one, handed_one}
use Rattle.cards.specs.Payload.{Next, HandsCard, HandsRest}
use Rattle.cards.specs.declared.Card.{Card}

pub next_one : (o : List ℕ) (r s : Result Card Refusal) → Next o r → Next o s → r ≡ s
next_one o r s = one

module _ (o : List ℕ) {at : ℕ × ℕ} {p p' : List ℕ} {q q' : ℕ × ℕ} where
  pub hands_card_one : HandsCard o at p q → HandsCard o at p' q' → (p ≡ p') × (q ≡ q')
  hands_card_one = handed_one

  pub hands_rest_one : HandsRest o at p q → HandsRest o at p' q' → (p ≡ p') × (q ≡ q')
  hands_rest_one = handed_one
