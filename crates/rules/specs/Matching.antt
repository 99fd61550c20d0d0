-- "Match otherwise" (document 01, "Numbering and recovery"). Assumes nothing.
use Rattle.std.specs.Prelude.{ℕ, ◌≡◌, cond, eqb}
use Rattle.marks.specs.declared.Marks.{Marks}
use Rattle.rules.specs.declared.Effect.{Effect}
use Rattle.rules.specs.Difference.{difference, out_of_order}
use Rattle.rules.specs.Effects.{accepted, discarded}

-- "discarded if equal to newest; else order +1 unless d = 1, newest = number, passed"
unfoldable pub match : ℕ → Marks → ℕ → Effect
match newest marks number =
    cond (eqb number newest)
    (discarded newest marks 0)
    (accepted number marks (out_of_order (difference newest number)))

-- the promise of `hear_match`
abbrev pub HearsMatch : ℕ → Marks → ℕ → Effect → Type 0
HearsMatch newest marks number r = r ≡ match newest marks number
