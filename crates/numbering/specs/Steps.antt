-- The generator (document 01, "Numbering and recovery"): "Generator and recovery state are values: each step takes the state and hands the
-- next one back". Assumes nothing.
use Rattle.std.specs.Prelude.{◌≡◌, ◌+◌, ◌%◌}
use Rattle.numbering.specs.declared.Generator.{Generator}
use Rattle.numbering.specs.declared.Generated.{Generated}

-- "Reset sets 0"; a fresh generator starts there
abbrev pub zeroed : Generator
zeroed = record { number = 0 }

-- "The generator gives its number, then adds one, 65,535 going to 0"
abbrev pub generated : Generator → Generated
generated g = record { number = g.number; next = record { number = (g.number + 1) % 65536 } }

-- the promises: of `Generator::fresh` and `Generator::reset`
abbrev pub Zeroes : Generator → Type 0
Zeroes r = r ≡ zeroed

-- of `Generator::step`
abbrev pub Generates : Generator → Generated → Type 0
Generates g r = r ≡ generated g
