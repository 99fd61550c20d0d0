-- A card taken, and a walk, mean what `specs/Walk` says. Assumes nothing.
use Prim.Native.Nat.{ℕ, zero, suc, ◌≤◌, ◌<◌}
use mathlib.Core.Path.{◌≡◌, refl, sym, ap, ap₂, ◌∙◌}
use mathlib.Core.Bool.{Bool, true, false, cond, false≢true}
use mathlib.Core.List.{List, ◌∷◌, ◌++◌, append_assoc, flatten, map}
use native.Mathlib.Omega.{arith}
use lib.ListN.{length, take-append-drop, length-drop}
use borrow.Author.Tests.{ltb-true, le-ltb}
use Rattle.std.specs.Prelude.{Result, Ok, Err}
use Rattle.octets.specs.declared.Refusal.{Refusal}
use Rattle.cards.specs.Payload.{next_card, width, is_card, card_part, rest_part}
use Rattle.cards.specs.Walk.{CardsTaken, Walk, walk, walk_in, stop, the_card, step, WalksMean}
use Rattle.cards.specs.declared.Card.{Card}
use Rattle.octets.proofs.Bools.{either}
use Rattle.cards.proofs.Width.{width_fits}
use Rattle.cards.proofs.Alone.{own_card}

pub cards_taken : CardsTaken
cards_taken o card =
    let some : 0 < width (next_card o) = ltb-true 0 (width (next_card o)) card in
    record {
      whole = rw card (take-append-drop (width (next_card o)) o);
      shorter = rw card (simp length-drop (omega (arith, width_fits o)));
      own = own_card o card;
    }

-- ---- one step of a walk, whatever the bound
step_in : (n : ℕ) (o : List ℕ) → is_card (next_card o) ≡ true → walk_in (suc n) o ≡ step o (walk_in n (rest_part o))
unfolding walk_in
step_in n o card = ap (λ (b : Bool). cond b (step o (walk_in n (rest_part o))) (stop o)) card

stop_in : (n : ℕ) (o : List ℕ) → is_card (next_card o) ≡ false → walk_in n o ≡ stop o
unfolding walk_in
stop_in zero o none = refl
stop_in (suc n) o none = ap (λ (b : Bool). cond b (step o (walk_in n (rest_part o))) (stop o)) none

dry : (o : List ℕ) → length o ≤ 0 → is_card (next_card o) ≡ false
dry o h = le-ltb 0 (width (next_card o)) (omega (arith, width_fits o))

-- a bound of the payload's length or more does not matter
enough : (n m : ℕ) (o : List ℕ) → length o ≤ n → length o ≤ m → walk_in n o ≡ walk_in m o
unfolding walk_in
enough zero m o h k = sym (stop_in m o (dry o h))
enough (suc n) zero o h k = stop_in (suc n) o (dry o k)
enough (suc n) (suc m) o h k =
    either (λ w. w ≡ walk_in (suc m) o) (is_card (next_card o))
    (λ card.
    let l = (cards_taken o card).shorter in
    ap (step o) (enough n m (rest_part o) (omega arith) (omega arith)) ∙ sym (step_in m o card))
    (λ none. sym (stop_in (suc m) o none))

-- To show something of every payload's walk, show it where the walk stops, and at a card, of which the walk through the rest has it.
along : (P : List ℕ → Walk → Type 0)
    → ((o : List ℕ) → is_card (next_card o) ≡ false → P o (stop o))
    → ((o : List ℕ) (w : Walk) → is_card (next_card o) ≡ true → P (rest_part o) w → P o (step o w))
    → (o : List ℕ) → P o (walk o)
unfolding walk
along P stops steps o = go (length o) o (omega arith)
  where
    go : (n : ℕ) (o : List ℕ) → length o ≤ n → P o (walk_in n o)
    go zero o h = stops o (dry o h)
    go (suc n) o h =
        either (P o) (is_card (next_card o))
        (λ card. let l = (cards_taken o card).shorter in steps o (walk_in n (rest_part o)) card (go n (rest_part o) (omega arith)))
        (stops o)

-- an answer that is a card, before other cards
one_more : (r : Result Card Refusal) → is_card r ≡ true → (cs : List Card) → map Ok (the_card r ++ cs) ≡ r ∷ map Ok cs
one_more (Ok c) card cs = refl
one_more (Err k) card cs = absurd (false≢true card)

pub walks_mean : WalksMean
unfolding walk flatten
walks_mean o =
    record {
      goes = λ card. let l = (cards_taken o card).shorter in
          enough (length o) (suc (length o)) o (omega arith) (omega arith)
          ∙ step_in (length o) o card
          ∙ ap (step o) (enough (length o) (length (rest_part o)) (rest_part o) (omega arith) (omega arith));
      stops = stop_in (length o) o;
      whole =
          along (λ o w. flatten w.parts ++ w.left ≡ o) (λ o none. refl)
          (λ o w card h.
          append_assoc (card_part o) (flatten w.parts) w.left ∙ ap (λ (l : List ℕ). card_part o ++ l) h ∙ (cards_taken o card).whole)
          o;
      own =
          along (λ o w. map next_card w.parts ≡ map Ok w.cards) (λ o none. refl)
          (λ o w card h.
          ap₂ (λ (r : Result Card Refusal) (rs : List (Result Card Refusal)). r ∷ rs) (own_card o card) h
          ∙ sym (one_more (next_card o) card w.cards))
          o;
      last = along (λ o w. w.verdict ≡ next_card w.left) (λ o none. refl) (λ o w card h. h) o;
      ends = along (λ o w. is_card w.verdict ≡ false) (λ o none. none) (λ o w card h. h) o;
    }
