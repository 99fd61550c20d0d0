-- The two octets are the number.
use Rattle.std.proofs.Common.{rules}
use Rattle.octets.specs.Number.{be16}
use Rattle.octets.proofs.number.whole16.Goals as goal

pub returns : goal.returns
unfolding be16
returns c = search rules
