-- Octets past the end count as 0.
use Rattle.std.proofs.Common.{◌+◌, arith}
use Rattle.octets.specs.Number.{be16}
use Rattle.octets.proofs.PastTheEnd.{octet_past, word16_past}
use Rattle.octets.proofs.number.word16.Goals as goal

-- the last octet
pub returns-then-at-s : goal.returns-then-at-s
unfolding be16
returns-then-at-s c = omega (arith, octet_past c.args.s.now (c.args.at + 1) (omega arith))

-- past the end
pub returns : goal.returns
returns c = word16_past c.args.s.now c.args.at (omega arith)
