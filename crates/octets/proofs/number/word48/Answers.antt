-- Octets past the end count as 0.
use Rattle.std.proofs.Common.{rules, arith}
use Rattle.octets.specs.Number.{be48}
use Rattle.octets.proofs.PastTheEnd.{word48_past}
use Rattle.octets.proofs.Taken.{first_six}
use Rattle.octets.proofs.number.word48.Goals as goal

-- eight octets are there
pub returns-then-s-at-gt7 : goal.returns-then-s-at-gt7
returns-then-s-at-gt7 c = rw c.whole64.ensures (first_six c.args.s.now (λ k. omega (arith, c.type_inv.s k)) c.args.at)

-- some of them are there
pub returns-then-at-s : goal.returns-then-at-s
unfolding be48
returns-then-at-s c = search rules

-- past the end
pub returns : goal.returns
returns c = word48_past c.args.s.now c.args.at (omega arith)
