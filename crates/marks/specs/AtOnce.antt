-- What a slide comes to when all its places are moved in one go: `slid` and `lost_in` of Window are held to it by the claim `SlidesAtOnce`,
-- which proofs/AtOnce proves. Assumes nothing.
use Rattle.std.specs.Prelude.{ℕ, zero, suc, ◌+◌, ◌-◌, ◌*◌, ◌%◌, ◌^◌, ◌≤◌, min, ◌≡◌}
use Rattle.marks.specs.declared.Marks.{Marks}
use Rattle.marks.specs.declared.Slid.{Slid}
use Rattle.marks.specs.Window.{number, marks_of, mark, reach, slid, lost_in}

-- how many of the n marks from k on are set
unfoldable pub ones_among : ℕ → ℕ → Marks → ℕ
ones_among k zero marks = 0
ones_among k (suc n) marks = mark k marks + ones_among (suc k) n marks

-- the marks moved d places at once, and those at r and above cut off
unfoldable pub moved_by : ℕ → ℕ → Marks → Marks
moved_by r d marks = marks_of (number marks * 2 ^ d % 2 ^ r)

-- "the marks move d places" in one go: they are cut off at r, and of the d that leave, which are the last marks below r and clear ones
-- behind them, all are lost but those that were set
pub record Goes (r d : ℕ) (marks : Marks) (went : Slid) : Type 0 where
  pub moves : went.marks ≡ moved_by r d marks
  pub loses : went.lost + ones_among (r - min d r) (min d r) marks ≡ d

-- so for every history length and every slide of at least one place. A slide of no places cuts nothing off
abbrev pub SlidesAtOnce : Type 0
SlidesAtOnce =
    (h d : ℕ) (marks : Marks) → 1 ≤ d → Goes (reach h) d marks (record { marks = slid h d marks; lost = lost_in h d marks })
