-- A card lies within its payload, and the rest after it is what `rest_part` says. Assumes nothing.
use Prim.Native.Nat.{ℕ, ◌≤◌, ◌<◌, zero-le}
use mathlib.Core.Path.{◌≡◌}
use mathlib.Core.List.{List, []}
use native.Mathlib.Omega.{arith}
use lib.ListN.{length, drop}
use borrow.Author.Tests.{lt-ltb, le-ltb}
use Rattle.cards.specs.Payload.{next_card, width, rest_part}
use Rattle.cards.proofs.Kind.{each}

pub width_fits : (o : List ℕ) → width (next_card o) ≤ length o
width_fits o = each (λ c. width c ≤ length o) o zero-le zero-le zero-le (λ k h. h) (λ k h. h) (λ k h. h)

module _ (o : List ℕ) {n : ℕ} (e : n ≡ width (next_card o)) where
  pub within : n ≤ length o
  within = omega (arith, width_fits o)

  pub rest_after : 0 < n → drop n o ≡ rest_part o
  rest_after h = rw (← e) (simp (lt-ltb 0 n h))

  pub rest_none : n ≤ 0 → [] ≡ rest_part o
  rest_none h = rw (← e) (simp (le-ltb 0 n h))
