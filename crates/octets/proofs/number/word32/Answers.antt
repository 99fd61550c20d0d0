-- Octets past the end count as 0.
use Rattle.std.proofs.Common.{rules, arith}
use Rattle.octets.specs.Number.{be32}
use Rattle.octets.proofs.PastTheEnd.{word32_past}
use Rattle.octets.proofs.number.word32.Goals as goal

-- some of them are there
pub returns-then-at-s : goal.returns-then-at-s
unfolding be32
returns-then-at-s c = search rules

-- past the end
pub returns : goal.returns
returns c = word32_past c.args.s.now c.args.at (omega arith)
