-- "Take-any, vector or match" (document 01, "Numbering and recovery"). Assumes nothing.
use Rattle.std.specs.Prelude.{ℕ, ◌≡◌, Bool, cond}
use Rattle.marks.specs.declared.Marks.{Marks}
use Rattle.marks.specs.Window.{none, set}
use Rattle.rules.specs.declared.Effect.{Effect}
use Rattle.rules.specs.Effects.{accepted}

-- "mark 0 set under vector only"
unfoldable pub first_marks : Bool → Marks
first_marks vector = cond vector (set 0 none) none

-- "newest = number, mark 0 set under vector only, take-any off, passed"
unfoldable pub first : Bool → ℕ → Effect
first vector number = accepted number (first_marks vector) 0

-- the promise of `hear_first`
abbrev pub HearsFirst : Bool → ℕ → Effect → Type 0
HearsFirst vector number r = r ≡ first vector number
