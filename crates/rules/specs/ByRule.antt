-- A packet with a number (document 01, "Numbering and recovery"). Assumes nothing.
use Rattle.std.specs.Prelude.{ℕ, ◌≡◌, Bool, cond, eqb}
use Rattle.marks.specs.declared.Marks.{Marks}
use Rattle.rules.specs.declared.Effect.{Effect}
use Rattle.rules.specs.declared.Window.{Window}
use Rattle.rules.specs.TakeAny.{first}
use Rattle.rules.specs.Vector.{vector}
use Rattle.rules.specs.Matching.{match}

-- "Take-any, vector or match", "Vector otherwise", "Match otherwise"
unfoldable pub by_rule : Bool → ℕ → Bool → ℕ → Marks → ℕ → Effect
by_rule is_vector h take_any newest marks number =
    cond take_any (first is_vector number) (cond is_vector (vector h newest marks number) (match newest marks number))

-- the promise of `Window::hear_numbered`: "rule (0 vector, 1 match)"
abbrev pub HearsNumbered : Window → ℕ → Effect → Type 0
HearsNumbered w number r = r ≡ by_rule (eqb w.rule 0) w.history w.take_any w.newest w.marks number
