use Rattle.std.proofs.Common.{◌≡◌, ◌++◌, take, drop}
use Rattle.octets.proofs.copy.put.Given as goal

-- the first i of `src` stand before what `out` had from i on
abbrev pub invariant-loop-i : goal.invariant-loop-i
invariant-loop-i g l = l.out ≡ take l.i l.src ++ drop l.i l.initial.out
