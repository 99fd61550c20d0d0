-- A setup from its numbers (document 01, "Numbering and recovery"). Assumes nothing.
use Rattle.std.specs.Prelude.{ℕ, ◌≡◌}
use Rattle.setup.specs.declared.Setup.{Setup}

-- "Setup holds: rule .., whether packets without a number are taken, history length H .., timeout .. ms, ticks per second .., paths ..,
-- latent difference"; and behind taken, by CR 2, a use
abbrev pub setup_of : (rule taken usage history milliseconds rate paths difference : ℕ) → Setup
setup_of rule taken usage history milliseconds rate paths difference =
    record {
      rule = rule;
      taken = taken;
      usage = usage;
      history = history;
      timeout = record { 0 = milliseconds };
      rate = rate;
      paths = paths;
      difference = difference;
    }

-- the promise of `Setup::of`
abbrev pub Makes : (rule taken usage history milliseconds rate paths difference : ℕ) → Setup → Type 0
Makes rule taken usage history milliseconds rate paths difference r =
    r ≡ setup_of rule taken usage history milliseconds rate paths difference
