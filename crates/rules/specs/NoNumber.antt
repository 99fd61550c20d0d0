-- "No number" (document 01, "Numbering and recovery"). Assumes nothing.
use Rattle.std.specs.Prelude.{ℕ, ◌≡◌, cond, eqb}
use Rattle.marks.specs.declared.Marks.{Marks}
use Rattle.rules.specs.declared.Effect.{Effect}
use Rattle.rules.specs.Effects.{accepted, discarded}

-- "passed if taken, else discarded"
unfoldable pub unnumbered : ℕ → ℕ → Marks → Effect
unnumbered taken newest marks = cond (eqb taken 1) (accepted newest marks 0) (discarded newest marks 0)

-- the promise of `hear_no_number`
abbrev pub HearsNoNumber : ℕ → ℕ → Marks → Effect → Type 0
HearsNoNumber taken newest marks r = r ≡ unnumbered taken newest marks
