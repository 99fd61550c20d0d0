-- Each return is the check that decides, and the rest is `from_tag_place`'s.
use Rattle.std.proofs.Common.{arith}
use Rattle.frame.proofs.Verdicts.{untagged, with_ctag}
use Rattle.frame.proofs.reader.read.Goals as goal

-- no C-TAG
pub from_tag_place-requires : goal.from_tag_place-requires
from_tag_place-requires c = untagged _ (omega arith) (omega arith) (λ e. omega arith)

-- a good C-TAG
pub from_tag_place-requires-2 : goal.from_tag_place-requires-2
from_tag_place-requires-2 c =
    rw c.word16-vlan.ensures
    (with_ctag _ (omega arith) (omega arith) (omega arith) (omega arith) (λ e. omega arith) (λ e. omega arith))
