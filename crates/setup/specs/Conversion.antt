-- Milliseconds and ticks (document 01, "Numbering and recovery"): "two kinds of number that can't be mixed", and the one way from the
-- first to the second. Assumes nothing.
use Rattle.std.specs.Prelude.{ℕ, ◌+◌, ◌*◌, ◌/◌, ◌≡◌}
use Rattle.setup.specs.declared.Milliseconds.{Milliseconds}
use Rattle.setup.specs.declared.Ticks.{Ticks}

-- "Full ticks = ms x ticks per second / 1000, rounded up"
unfoldable pub full_ticks : ℕ → ℕ → ℕ
full_ticks ms per_second = (ms * per_second + 999) / 1000

-- the conversion, over the two kinds
unfoldable pub ticks_of : Milliseconds → ℕ → Ticks
ticks_of timeout per_second = record { 0 = full_ticks timeout.0 per_second }

-- the promises: of `Milliseconds::ticks`
abbrev pub Converts : Milliseconds → ℕ → Ticks → Type 0
Converts timeout per_second r = r ≡ ticks_of timeout per_second

-- of `Ticks::count`
abbrev pub Counts : Ticks → ℕ → Type 0
Counts ticks r = r ≡ ticks.0
