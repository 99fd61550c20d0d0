-- A card's part, read by itself, is that card. Assumes nothing.
use Prim.Native.Nat.{ℕ, suc, ◌+◌, ◌≤◌, ◌<◌}
use mathlib.Core.Path.{◌≡◌, refl, sym, ap, ◌∙◌}
use mathlib.Core.Bool.{true, true≢false}
use mathlib.Core.List.{List}
use native.Mathlib.Nat.{le_of_eq}
use native.Mathlib.Omega.{arith}
use lib.ListN.{length, get_or, take, drop}
use lib.Seq.{get_or-take, get_or-drop, length-take-le}
use lib.Dec.{lit<}
use Rattle.std.specs.Prelude.{Ok}
use Rattle.octets.specs.Number.{be16, be32}
use Rattle.cards.specs.Payload.{next_kind, known, octets_after, of_kind, next_card, width, is_card, card_part}
use Rattle.cards.specs.declared.Card.TheVariants.{FlushOrder, RawCode, Millivolts}
use Rattle.cards.proofs.Kind.{first_octet, whole, there, each}

module _ (o : List ℕ) where
  kept : (n i : ℕ) → 1 + i < n → get_or (drop 1 (take n o)) i 0 ≡ get_or (drop 1 o) i 0
  kept n i h = get_or-drop 1 (take n o) i 0 ∙ get_or-take n o (1 + i) 0 h ∙ sym (get_or-drop 1 o i 0)

  kept16 : be16 (drop 1 (take 3 o)) 0 ≡ be16 (drop 1 o) 0
  unfolding be16
  kept16 = simp (kept 3 0 (lit< tt), kept 3 1 (lit< tt))

  kept32 : be32 (drop 1 (take 5 o)) 0 ≡ be32 (drop 1 o) 0
  unfolding be32
  kept32 = simp (kept 5 0 (lit< tt), kept 5 1 (lit< tt), kept 5 2 (lit< tt), kept 5 3 (lit< tt))

  -- the octets of a kind, by themselves, are a whole card of that kind
  alone : (k : ℕ) → next_kind o ≡ k → known k ≡ true → suc (octets_after k) ≤ length o
      → let front = take (suc (octets_after k)) o in Ok (of_kind k (drop 1 front)) ≡ next_card front
  alone k at is long =
      let n = suc (octets_after k) in
      let same : next_kind (take n o) ≡ k = first_octet (take n o) ∙ get_or-take n o 0 0 (omega arith) ∙ sym (first_octet o) ∙ at in
      whole (take n o) same is (there (take n o) (le_of_eq (sym (length-take-le n o long))))

  pub own_card : is_card (next_card o) ≡ true → next_card (card_part o) ≡ next_card o
  own_card =
      each (λ c. is_card c ≡ true → next_card (take (width c) o) ≡ c) o
      (λ e. absurd (true≢false (sym e)))
      (λ e. absurd (true≢false (sym e)))
      (λ e. absurd (true≢false (sym e)))
      (λ at long e. sym (alone 0x10 at refl long) ∙ ap (λ (n : ℕ). Ok (FlushOrder n)) kept32)
      (λ at long e. sym (alone 0x11 at refl long) ∙ ap (λ (n : ℕ). Ok (RawCode n)) kept16)
      (λ at long e. sym (alone 0x12 at refl long) ∙ ap (λ (n : ℕ). Ok (Millivolts n)) kept16)
