-- What each check of an event decides, in the order of the list. Assumes nothing.
use Rattle.std.specs.Prelude.{Ok, Err}
use Prim.Native.Nat.{ℕ, ◌+◌, ◌≤◌, ◌<◌}
use mathlib.Core.Path.{◌≡◌}
use mathlib.Core.Bool.{Bool, true, false, not, ◌&&◌, ◌||◌}
use mathlib.Core.List.{List}
use lib.ListN.{length, get_or}
use lib.Dec.{eqb}
use borrow.Author.Tests.{lt-ltb, le-ltb}
use Rattle.octets.specs.declared.Refusal.TheVariants.{EventKind, EventCut, SetupMisplaced}
use Rattle.octets.specs.Checks.{verdict}
use Rattle.octets.proofs.Bools.{chosen}
use Rattle.events.specs.Event.{known, width, checks, Refuses}

module _ (tape : List ℕ) (at : ℕ) (set_up : Bool) {kind : ℕ} (read : kind ≡ get_or tape at 0) where
  -- a kind that there is none of
  pub no_kind : known kind ≡ false → Refuses tape at set_up (Err EventKind)
  unfolding checks verdict
  no_kind e = rw (← read, e)

  module _ (is : known kind ≡ true) where
    -- an event that is cut
    pub short : length tape < at + 1 + width kind → Refuses tape at set_up (Err EventCut)
    unfolding checks verdict
    short l = rw (← read, is, lt-ltb _ _ l)

    -- a whole event of a known kind
    module _ (l : at + 1 + width kind ≤ length tape) where
      -- a setup that is missing or repeated
      pub misplaced : ((set_up && eqb kind 15) || (not set_up && not (eqb kind 15))) ≡ true → Refuses tape at set_up (Err SetupMisplaced)
      unfolding checks verdict
      misplaced e = rw (← read, is, le-ltb _ _ l, ← chosen set_up (eqb kind 15) (not (eqb kind 15)), e)

      -- all is well
      pub in_place : ((set_up && eqb kind 15) || (not set_up && not (eqb kind 15))) ≡ false → Refuses tape at set_up (Ok tt)
      unfolding checks verdict
      in_place e = rw (← read, is, le-ltb _ _ l, ← chosen set_up (eqb kind 15) (not (eqb kind 15)), e)
