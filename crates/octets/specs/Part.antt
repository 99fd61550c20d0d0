-- A part of lent octets that a call hands back. Assumes nothing.
use Rattle.std.specs.Prelude.{ℕ, ◌+◌, ◌≡◌, List}

-- "handed back as a part of the lent frame, not copied": what the part holds, and how far into the caller's own octets it starts. `at` is
-- where the caller's octets lie and `place` where the part does, each a block and an offset
pub record HandedBack (at : ℕ × ℕ) (octets : List ℕ) (start : ℕ) (part : List ℕ) (place : ℕ × ℕ) : Type 0 where
  pub holds : part ≡ octets
  pub lies : place ≡ (at.0, at.1 + start)
