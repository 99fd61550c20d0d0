-- One more is copied in each turn.
use Rattle.std.proofs.Common.{arith}
use Rattle.octets.proofs.OneMore.{one_more}
use Rattle.octets.proofs.copy.put.Goals as goal

pub loop-i-preserved : goal.loop-i-preserved
loop-i-preserved g c =
    rw c.loop-i.invariant (one_more c.args.src.now c.args.out.now c.loop-i.i (omega arith) (omega arith) c.index-src-i.is)
