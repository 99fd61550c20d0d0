-- The register behind the octets so far.
use Rattle.std.proofs.Common.{take, ◌≡◌, ◌*◌}
use Rattle.crc.specs.Tables.{through}
use Rattle.crc.proofs.slices.by_words.Given as goal

abbrev pub invariant-loop-eight : goal.invariant-loop-eight
invariant-loop-eight l = l.past ≡ through l.fn.register (take (8 * l.eight-index) l.octets)
