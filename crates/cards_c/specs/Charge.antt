-- Document 01, "Charge cards", for C: what the calls answer and write, by the definitions of `cards`. Assumes nothing.
use Rattle.std.specs.Prelude.{ℕ, ◌≡◌, List, length, Result, Ok, Err}
use Rattle.octets.specs.declared.Refusal.{Refusal}
use Rattle.octets.specs.Refusals.{number}
use Rattle.cards.specs.declared.Card.{Card}
use Rattle.cards.specs.declared.Card.TheVariants as card
use Rattle.cards.specs.Payload.{next_card, card_part, rest_part}

-- a card, an end, or the refusal, as a number
abbrev pub of_card : Result Card Refusal → ℕ
of_card (Ok (card.FlushOrder blocks)) = 100
of_card (Ok (card.RawCode code)) = 101
of_card (Ok (card.Millivolts count)) = 102
of_card (Ok card.End) = 103
of_card (Err refusal) = number refusal

-- the lent value after a card: "blocks asked", the raw code or the millivolts; an end and a refusal leave it
abbrev pub value_by : Result Card Refusal → ℕ → ℕ
value_by (Ok (card.FlushOrder blocks)) before = blocks
value_by (Ok (card.RawCode code)) before = code
value_by (Ok (card.Millivolts count)) before = count
value_by (Ok card.End) before = before
value_by (Err refusal) before = before

-- the promises: of `ahz_card`
pub record NextTo (o : List ℕ) (before r after : ℕ) : Type 0 where
  pub answer : r ≡ of_card (next_card o)
  pub value : after ≡ value_by (next_card o) before

-- of `ahz_card_octets`: the length of the part that `part` hands back, the payload's first octets
abbrev pub CardOctets : List ℕ → ℕ → Type 0
CardOctets o r = r ≡ length (card_part o)

-- of `ahz_rest_octets`: the length of the part that `rest` hands back, its last ones
abbrev pub RestOctets : List ℕ → ℕ → Type 0
RestOctets o r = r ≡ length (rest_part o)
