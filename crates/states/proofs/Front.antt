-- The first thirty-one of lent words say what all of them say. Assumes nothing.
use Rattle.std.specs.Array.{IsFirstChunk}
use Rattle.std.specs.Prelude.{Option}
use Prim.Native.Nat.{ℕ, ◌≤◌, ◌<◌}
use mathlib.Core.Path.{◌≡◌, ◌∙◌}
use mathlib.Core.List.{List}
use lib.ListN.{length, take}
use lib.Dec.{lit<}
use lib.Seq.{get_or-take, length-take-le}
use borrow.Author.Tests.{le-leb}
use Rattle.recovery.specs.declared.State.{State}
use Rattle.states.specs.Fields.{word, held, none_past, short, state_of, ready, short_in, ReadsState, ReadsShort}

module _ (w : List ℕ) (enough : 31 ≤ length w) where
  at : (k : ℕ) → k < 31 → word k (take 31 w) ≡ word k w
  at k l = get_or-take 31 w k 0 l

  pub ready_front : ready (take 31 w) ≡ ready w
  unfolding held
  ready_front =
      rw (
        length-take-le 31 w enough,
        le-leb 31 (length w) enough,
        at 0 (lit< tt),
        at 1 (lit< tt),
        at 2 (lit< tt),
        at 3 (lit< tt),
        at 4 (lit< tt),
        at 5 (lit< tt),
        at 6 (lit< tt),
        at 7 (lit< tt),
        at 8 (lit< tt),
        at 9 (lit< tt),
        at 18 (lit< tt),
        at 19 (lit< tt),
      )

  pub state_front : state_of (take 31 w) ≡ state_of w
  unfolding state_of
  state_front =
      rw (
        at 1 (lit< tt),
        at 2 (lit< tt),
        at 3 (lit< tt),
        at 4 (lit< tt),
        at 5 (lit< tt),
        at 6 (lit< tt),
        at 7 (lit< tt),
        at 8 (lit< tt),
        at 9 (lit< tt),
        at 10 (lit< tt),
        at 11 (lit< tt),
        at 12 (lit< tt),
        at 13 (lit< tt),
        at 14 (lit< tt),
        at 15 (lit< tt),
        at 16 (lit< tt),
        at 17 (lit< tt),
        at 18 (lit< tt),
        at 19 (lit< tt),
        at 20 (lit< tt),
        at 21 (lit< tt),
        at 22 (lit< tt),
        at 23 (lit< tt),
        at 24 (lit< tt),
        at 25 (lit< tt),
        at 26 (lit< tt),
        at 27 (lit< tt),
        at 28 (lit< tt),
        at 29 (lit< tt),
        at 30 (lit< tt),
      )

  pub past_front : none_past (take 31 w) ≡ none_past w
  past_front =
      rw (
        at 11 (lit< tt),
        at 12 (lit< tt),
        at 13 (lit< tt),
        at 14 (lit< tt),
        at 15 (lit< tt),
        at 16 (lit< tt),
        at 17 (lit< tt),
      )

  pub short_front : short (take 31 w) ≡ short w
  short_front = rw (at 4 (lit< tt), past_front)

  pub over_front : (s : State) → short_in (take 31 w) s ≡ short_in w s
  over_front s =
      rw (
        at 11 (lit< tt),
        at 12 (lit< tt),
        at 13 (lit< tt),
        at 14 (lit< tt),
        at 15 (lit< tt),
        at 16 (lit< tt),
        at 17 (lit< tt),
      )

-- so what is read of them is read of all
module _ {w words : List ℕ} (front : IsFirstChunk w words 31) where
  pub read_front : {r : Option State} → ReadsState words r → ReadsState w r
  read_front p = p ∙ rw (front.same, ready_front w front.enough, state_front w front.enough)

  pub read_short_front : {r : Option State} → ReadsShort words r → ReadsShort w r
  read_short_front p = p ∙ rw (front.same, short_front w front.enough, ready_front w front.enough, state_front w front.enough)

  pub keep_front : (s : State) → short_in words s ≡ short_in w s
  keep_front s = rw front.same (over_front w front.enough s)
