-- Of each call, two answers that its promise allows are equal. Assumes nothing.
use Rattle.std.proofs.Common.{◌≡◌}
use Rattle.octets.proofs.Unique.{one}
use Rattle.numbering.specs.declared.Generator.{Generator}
use Rattle.numbering.specs.declared.Generated.{Generated}
use Rattle.numbering.specs.Steps.{Zeroes, Generates}

pub zeroes_one : {a b : Generator} → Zeroes a → Zeroes b → a ≡ b
zeroes_one = one

pub generates_one : (g : Generator) {a b : Generated} → Generates g a → Generates g b → a ≡ b
generates_one g = one
