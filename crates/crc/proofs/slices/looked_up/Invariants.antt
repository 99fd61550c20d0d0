-- The words added so far, with the steps of what is left.
use Rattle.std.proofs.Common.{◌≡◌, ◌*◌}
use Rattle.crc.specs.Bits.{bits_of, ◌⊕◌}
use Rattle.crc.specs.Tables.{steps}
use Rattle.crc.proofs.slices.looked_up.Given as goal

abbrev pub invariant-loop-k : goal.invariant-loop-k
invariant-loop-k l = bits_of 32 l.sum ⊕ bits_of 32 (steps (4 * l.k) l.rest) ≡ bits_of 32 (steps (4 * l.fn.halves) l.fn.word)
