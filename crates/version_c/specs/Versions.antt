-- The version of the calls for C, as include/ahozurime.h has it: `major` goes up where a program that was written for an earlier one could
-- go wrong, `minor` where something is only added. Assumes nothing.
use Rattle.std.specs.Prelude.{ℕ, ◌+◌, ◌*◌, ◌≡◌}

abbrev pub major : ℕ
major = 5

abbrev pub minor : ℕ
minor = 1

-- the promise of `ahz_version`
abbrev pub Tells : ℕ → Type 0
Tells r = r ≡ major * 65536 + minor
