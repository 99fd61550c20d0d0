-- Document 01, "Numbering and recovery", for C: what the calls on a generator answer and write, by the definitions of `numbering`. Assumes
-- nothing.
use Rattle.std.specs.Prelude.{ℕ, ◌≡◌}
use Rattle.numbering.specs.declared.Generator.{Generator}
use Rattle.numbering.specs.Steps.{zeroed, generated}

-- a generator is its number
abbrev pub generator_of : ℕ → Generator
generator_of number = record { number = number }

-- the promises: of the answer of `ahz_generator`, and of the generator that `ahz_generator_reset` leaves: "Reset sets 0"
abbrev pub ZeroesTo : ℕ → Type 0
ZeroesTo number = number ≡ zeroed.number

-- of `ahz_generate`: "The generator gives its number, then adds one, 65,535 going to 0"
pub record GeneratesTo (before r after : ℕ) : Type 0 where
  pub answer : r ≡ (generated (generator_of before)).number
  pub generator : after ≡ (generated (generator_of before)).next.number
