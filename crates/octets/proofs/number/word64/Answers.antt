-- Octets past the end count as 0.
use Rattle.std.proofs.Common.{rules, arith}
use Rattle.octets.specs.Number.{be64}
use Rattle.octets.proofs.PastTheEnd.{word64_past}
use Rattle.octets.proofs.number.word64.Goals as goal

-- some of them are there
pub returns-then-at-s : goal.returns-then-at-s
unfolding be64
returns-then-at-s c = search rules

-- past the end
pub returns : goal.returns
returns c = word64_past c.args.s.now c.args.at (omega arith)
