-- Document 01, "Charge cards": what stands next in a payload, the card as a part of it, and the rest after that card.
-- Octets are a list of numbers. Assumes nothing.
use Rattle.std.specs.Prelude.{ℕ, ◌≡◌, Bool, cond, not, ◌||◌, List, [], ◌∷◌, length, take, drop, ltb, eqb, Result, Ok, Err}
use Rattle.octets.specs.Number.{be16, be32}
use Rattle.octets.specs.Part.{HandedBack}
use Rattle.octets.specs.declared.Refusal.{Refusal}
use Rattle.octets.specs.declared.Refusal.TheVariants.{CardKind, CardCut}
use Rattle.octets.specs.Checks.{Check, ◌⇒◌, verdict, answered}
use Rattle.cards.specs.declared.Card.{Card}
use Rattle.cards.specs.declared.Card.TheVariants.{FlushOrder, RawCode, Millivolts, End}

-- "an empty payload or 00 is "end"": an empty payload has the kind 00
abbrev pub next_kind : List ℕ → ℕ
next_kind [] = 0x00
next_kind (kind ∷ body) = kind

-- "00 ends; 10 hex flush order, 4 octets (blocks asked); 11 hex raw code, 2; 12 hex millivolts, 2": whether there is such a kind
abbrev pub known : ℕ → Bool
known kind = eqb kind 0x00 || eqb kind 0x10 || eqb kind 0x11 || eqb kind 0x12

-- how many octets come after it: "flush order, 4 octets", "raw code, 2", "millivolts, 2"
abbrev pub octets_after : ℕ → ℕ
octets_after kind = cond (eqb kind 0x00) 0 (cond (eqb kind 0x10) 4 2)

-- and the card that they give
abbrev pub of_kind : ℕ → List ℕ → Card
of_kind kind body =
    cond (eqb kind 0x00) End
    (cond (eqb kind 0x10) (FlushOrder (be32 body 0))
    (cond (eqb kind 0x11) (RawCode (be16 body 0))
    (Millivolts (be16 body 0))))

-- what stands next by its kind, whatever the checks say
abbrev pub standing : List ℕ → Card
standing o = of_kind (next_kind o) (drop 1 o)

-- "then 20, then 21": "card kind; card cut"
abbrev pub card_checks : List ℕ → List Check
card_checks o =
    not (known (next_kind o)) ⇒ CardKind
    ∷ ltb (length (drop 1 o)) (octets_after (next_kind o)) ⇒ CardCut
    ∷ []

-- "The next card": what stands next where no check refuses it, or the refusal
unfoldable pub next_card : List ℕ → Result Card Refusal
unfolding verdict
next_card o = answered (verdict (card_checks o)) (standing o)

-- how many octets a card takes, its kind with them; an end and a refusal take none
abbrev pub width : Result Card Refusal → ℕ
width (Ok (FlushOrder blocks)) = 5
width (Ok (RawCode code)) = 3
width (Ok (Millivolts count)) = 3
width (Ok End) = 0
width (Err refusal) = 0

-- neither an end nor a refusal
abbrev pub is_card : Result Card Refusal → Bool
is_card r = ltb 0 (width r)

-- "The next card comes back as a part of the caller's payload, with the rest after it"; "A call that hands back a part gives an empty part
-- on a refusal or end"
abbrev pub card_part : List ℕ → List ℕ
card_part o = take (width (next_card o)) o

-- "with the rest after it"
abbrev pub rest_part : List ℕ → List ℕ
rest_part o = cond (is_card (next_card o)) (drop (width (next_card o)) o) []

-- the promises: of `next`
abbrev pub Next : List ℕ → Result Card Refusal → Type 0
Next o r = r ≡ next_card o

-- of `part`: the payload and the part, each with where it lies
abbrev pub HandsCard : List ℕ → ℕ × ℕ → List ℕ → ℕ × ℕ → Type 0
HandsCard o at part place = HandedBack at (card_part o) 0 part place

-- of `rest`, likewise
abbrev pub HandsRest : List ℕ → ℕ × ℕ → List ℕ → ℕ × ℕ → Type 0
HandsRest o at part place = HandedBack at (rest_part o) (width (next_card o)) part place
