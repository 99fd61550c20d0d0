-- Worked examples, computed from the written rules: what stands next, and a walk. Assumes nothing.
use mathlib.Core.Path.{◌≡◌, refl}
use mathlib.Core.List.{List, [], ◌∷◌, map}
use Prim.Native.Nat.{ℕ}
use Rattle.std.specs.Prelude.{Result, Ok, Err}
use Rattle.octets.specs.declared.Refusal.{Refusal}
use Rattle.octets.specs.declared.Refusal.TheVariants.{CardKind, CardCut}
use Rattle.octets.specs.Number.{be16, be32}
use Rattle.cards.specs.Payload.{next_card}
use Rattle.cards.specs.Walk.{walk}
use Rattle.cards.specs.declared.Card.{Card}
use Rattle.cards.specs.declared.Card.TheVariants as card

pub record Case : Type 0 where
  pub given : List ℕ
  pub answer : Result Card Refusal

-- what stands next
abbrev payloads : List Case
payloads =
    record { given = []; answer = Ok card.End }
    ∷ record { given = 0x00 ∷ 0x11 ∷ 0 ∷ 1 ∷ []; answer = Ok card.End }
    ∷ record { given = 0x10 ∷ 1 ∷ 2 ∷ 3 ∷ 4 ∷ []; answer = Ok (card.FlushOrder 0x01020304) }
    ∷ record { given = 0x10 ∷ 1 ∷ 2 ∷ 3 ∷ []; answer = Err CardCut }
    ∷ record { given = 0x11 ∷ 1 ∷ 2 ∷ []; answer = Ok (card.RawCode 258) }
    ∷ record { given = 0x11 ∷ 1 ∷ []; answer = Err CardCut }
    ∷ record { given = 0x12 ∷ 1 ∷ 2 ∷ []; answer = Ok (card.Millivolts 258) }
    ∷ record { given = 0x12 ∷ []; answer = Err CardCut }
    ∷ record { given = 0x13 ∷ []; answer = Err CardKind }
    ∷ record { given = 0x0f ∷ 0 ∷ 0 ∷ 0 ∷ 0 ∷ []; answer = Err CardKind }
    ∷ []

pub next_cases : map (λ k. next_card k.given) payloads ≡ map (λ k. k.answer) payloads
unfolding be16 be32 next_card
next_cases = refl

pub a_walk : walk (0x12 ∷ 0x2e ∷ 0xe0 ∷ 0x10 ∷ 0 ∷ 0 ∷ 0 ∷ 9 ∷ 0x11 ∷ 0 ∷ 10 ∷ 0x00 ∷ 0xff ∷ []) ≡ record {
  cards = card.Millivolts 12000 ∷ card.FlushOrder 9 ∷ card.RawCode 10 ∷ [];
  parts = (0x12 ∷ 0x2e ∷ 0xe0 ∷ []) ∷ (0x10 ∷ 0 ∷ 0 ∷ 0 ∷ 9 ∷ []) ∷ (0x11 ∷ 0 ∷ 10 ∷ []) ∷ [];
  verdict = Ok card.End;
  left = 0x00 ∷ 0xff ∷ [];
}
unfolding walk next_card be16 be32
a_walk = refl
