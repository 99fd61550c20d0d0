-- A line on a page, and the promise of `write`, `fault` and `counts`. Assumes nothing.
use Rattle.std.specs.Prelude.{ℕ, ◌+◌, ◌≤◌, ◌≡◌, Bool, cond, List, length, leb}
use Rattle.lines.specs.Lines.{longest}
use Rattle.lines.specs.Words.{put_at}

-- the longest line fits behind the place
abbrev pub has_room : List ℕ → ℕ → Bool
has_room page at = leb (at + longest) (length page)

-- where there is room the line stands behind the first `at` octets of the page, and the answer is where it ends; else the page stays,
-- and the answer is the place
pub record WritesLine (line page : List ℕ) (at r : ℕ) (later : List ℕ) : Type 0 where
  pub answer : r ≡ cond (has_room page at) (at + length line) at
  pub buffer : later ≡ cond (has_room page at) (put_at at line page) page
  pub short : r ≤ at + longest
