-- The two numbers are the eight octets.
use Rattle.std.proofs.Common.{rules}
use Rattle.octets.specs.Number.{be64}
use Rattle.octets.proofs.number.whole64.Goals as goal

pub returns : goal.returns
unfolding be64
returns c = search rules
