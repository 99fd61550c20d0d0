-- Document 01, "Charge cards": a walk through a payload, from one rest to the next ("The next card comes back as a part of the caller's
-- payload, with the rest after it"): the cards that it reaches, and the end or the refusal that it stops at. `CardsTaken` and `WalksMean`
-- are claims, which proofs/Walk proves. Assumes nothing.
use Rattle.std.specs.Prelude.{ℕ, zero, suc, ◌<◌, ◌≡◌, true, false, cond, length, Result, Ok, Err}
use mathlib.Core.List.{List, [], ◌∷◌, ◌++◌, flatten, map}
use Rattle.cards.specs.Payload.{next_card, is_card, card_part, rest_part}
use Rattle.octets.specs.declared.Refusal.{Refusal}
use Rattle.cards.specs.declared.Card.{Card}

-- "The next card comes back as a part of the caller's payload, with the rest after it": the two are the payload, the rest is shorter, so
-- that a loop from one rest to the next ends, and the part, read by itself, is that card
pub record CardTaken (o : List ℕ) : Type 0 where
  pub whole : card_part o ++ rest_part o ≡ o
  pub shorter : length (rest_part o) < length o
  pub own : next_card (card_part o) ≡ next_card o

-- so at every card
abbrev pub CardsTaken : Type 0
CardsTaken = (o : List ℕ) → is_card (next_card o) ≡ true → CardTaken o

-- what a walk has come to
pub record Walk : Type 0 where
  -- the cards, first to last
  pub cards : List Card
  -- the octets of each
  pub parts : List (List ℕ)
  -- what the walk stops at, and the octets from there on
  pub verdict : Result Card Refusal
  pub left : List ℕ

-- no card, so the walk stops here
abbrev pub stop : List ℕ → Walk
stop o = record { cards = []; parts = []; verdict = next_card o; left = o }

-- the card that an answer is, in a row of its own
abbrev pub the_card : Result Card Refusal → List Card
the_card (Ok c) = c ∷ []
the_card (Err refusal) = []

-- the next card, and then the walk through its rest
abbrev pub step : List ℕ → Walk → Walk
step o w = record { cards = the_card (next_card o) ++ w.cards; parts = card_part o ∷ w.parts; verdict = w.verdict; left = w.left }

-- the walk, cut off after n cards. As many as the payload has octets are always enough (`goes` of WalkMeans)
unfoldable pub walk_in : ℕ → List ℕ → Walk
walk_in zero o = stop o
walk_in (suc n) o = cond (is_card (next_card o)) (step o (walk_in n (rest_part o))) (stop o)

-- the whole walk
unfoldable pub walk : List ℕ → Walk
unfolding walk_in
walk o = walk_in (length o) o

-- what a walk means: it ends for every payload, and reaches every card exactly once
pub record WalkMeans (o : List ℕ) : Type 0 where
  -- at a card it is that card and the walk through its rest, and it stops at anything else
  pub goes : is_card (next_card o) ≡ true → walk o ≡ step o (walk (rest_part o))
  pub stops : is_card (next_card o) ≡ false → walk o ≡ stop o
  -- the cards' octets, in order, and what is left are the payload
  pub whole : flatten (walk o).parts ++ (walk o).left ≡ o
  -- each part, read by itself, is its card
  pub own : map next_card (walk o).parts ≡ map Ok (walk o).cards
  -- it ends at what stands next in what is left, an end or a refusal
  pub last : (walk o).verdict ≡ next_card (walk o).left
  pub ends : is_card (walk o).verdict ≡ false

-- so for every payload
abbrev pub WalksMean : Type 0
WalksMean = (o : List ℕ) → WalkMeans o
