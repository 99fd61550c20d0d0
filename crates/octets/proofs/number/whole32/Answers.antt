-- One sum of four octets is the sum of two numbers.
use Rattle.std.proofs.Common.{◌≡◌, ◌+◌, arith}
use Rattle.octets.specs.Number.{be16, be32}
use Rattle.octets.proofs.number.whole32.Goals as goal

pub returns : goal.returns
unfolding be16 be32
returns c = let n : c.args.at + 2 + 1 ≡ c.args.at + 3 = omega arith in rw n (omega arith)
