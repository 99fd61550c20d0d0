use Rattle.std.proofs.Common.{length}
use Rattle.punch.proofs.words.+without_zeros.Given as goal

abbrev pub decreases-without_zeros : goal.decreases-without_zeros
decreases-without_zeros l = length l.letters.now
