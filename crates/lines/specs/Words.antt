-- What the contracts of the functions within this crate cite: the words that lines are made of, and a part put behind what a page holds.
-- Assumes nothing.
use Rattle.std.specs.Prelude.{ℕ, ◌+◌, ◌≤◌, ◌≡◌, List, [], ◌∷◌, ◌++◌, length, take, drop, get_or}
use Prim.Native.String.{String}
use Rattle.lines.specs.declared.Line.{Line}
use Rattle.lines.specs.declared.Line.TheVariants.{Ok, Pass, Discard, Tick, Reset, LatentReset, LatentOk, LatentError}
use Rattle.lines.specs.Lines.{octets_of, labels}

-- those of the lines of events, of a fault and the newline
unfoldable pub line_words : List String
line_words =
    "ok\n"
    ∷ "pass\n"
    ∷ "discard\n"
    ∷ "tick\n"
    ∷ "reset\n"
    ∷ "latent reset\n"
    ∷ "latent ok\n"
    ∷ "latent error\n"
    ∷ "fault "
    ∷ "\n"
    ∷ []

-- and the labels of the counters
unfoldable pub words : List String
words = line_words ++ labels

-- a word as its octets
abbrev pub word_at : ℕ → List ℕ
word_at i = octets_of (get_or words i "")

-- which word an event's line is
abbrev pub place : Line → ℕ
place Ok = 0
place Pass = 1
place Discard = 2
place Tick = 3
place Reset = 4
place LatentReset = 5
place LatentOk = 6
place LatentError = 7

-- the page with a part behind its first `at` octets
abbrev pub put_at : ℕ → List ℕ → List ℕ → List ℕ
put_at at part page = take at page ++ (part ++ drop (at + length part) page)

-- the part is put there, and ends at r
pub record Appends (part page : List ℕ) (at r : ℕ) (later : List ℕ) : Type 0 where
  pub ends : r ≡ at + length part
  pub within : r ≤ length page
  pub buffer : later ≡ put_at at part page

-- and of it are at most so many octets
pub record AppendsWithin (most : ℕ) (part page : List ℕ) (at r : ℕ) (later : List ℕ) : Type 0 where
  pub appends : Appends part page at r later
  pub short : r ≤ at + most
