-- The register behind the octets so far.
use Rattle.std.proofs.Common.{take, ◌≡◌}
use Rattle.crc.specs.Tables.{through}
use Rattle.crc.proofs.table.by_octets.Given as goal

abbrev pub invariant-loop-octet : goal.invariant-loop-octet
invariant-loop-octet l = l.past ≡ through l.fn.register (take l.octet-index l.octets)
