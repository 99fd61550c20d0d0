-- What one packet does: whether it passes, the newest number and the marks after it, and what it adds to the counts (document 01,
-- "Numbering and recovery"). Assumes nothing.
use Rattle.std.specs.Prelude.{ℕ, true, false}
use Rattle.marks.specs.declared.Marks.{Marks}
use Rattle.rules.specs.declared.Effect.{Effect}

-- "passed", with nothing counted but that and order
abbrev pub accepted : ℕ → Marks → ℕ → Effect
accepted newest marks order = record { passes = true; newest = newest; marks = marks; order = order; rogue = 0; lost = 0 }

-- "discarded": newest and marks stay
abbrev pub discarded : ℕ → Marks → ℕ → Effect
discarded newest marks rogue = record { passes = false; newest = newest; marks = marks; order = 0; rogue = rogue; lost = 0 }
