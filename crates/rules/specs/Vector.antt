-- "Vector otherwise": the vector rule for a numbered packet when take-any is off (document 01, "Numbering and recovery"). Assumes nothing.
use Rattle.std.specs.Prelude.{ℕ, ◌≡◌, true, cond, eqb, leb}
use Rattle.marks.specs.declared.Marks.{Marks}
use Rattle.marks.specs.Window.{mark, set, slid, lost_in}
use Rattle.rules.specs.declared.Effect.{Effect}
use Rattle.rules.specs.Difference.{Difference, ahead, behind, difference}
use Rattle.rules.specs.Effects.{accepted, discarded}

-- "If d <= 0: discarded if mark -d is set, else set it, order +1, passed", of d above -H
unfoldable pub late : ℕ → Marks → ℕ → Effect
late newest marks k = cond (eqb (mark k marks) 1) (discarded newest marks 0) (accepted newest (set k marks) 1)

-- "If d > 0: order +1 unless d = 1; the marks move d places, the last mark leaving at each single move, lost +1 if it was clear; the d-1
-- skipped marks are clear, mark 0 set, newest = number, passed", of d below H
unfoldable pub onward : ℕ → ℕ → Marks → ℕ → Effect
onward h number marks k =
    record {
      passes = true;
      newest = number;
      marks = set 0 (slid h k marks);
      order = cond (eqb k 1) 0 1;
      rogue = 0;
      lost = lost_in h k marks;
    }

-- "If d >= H or d <= -H: rogue and discarded"
unfoldable pub by_difference : ℕ → ℕ → Marks → ℕ → Difference → Effect
by_difference h newest marks number (ahead k) = cond (leb h k) (discarded newest marks 1) (onward h number marks k)
by_difference h newest marks number (behind k) = cond (leb h k) (discarded newest marks 1) (late newest marks k)

-- the vector rule: h the history length, then the newest number, the marks and the packet's number
unfoldable pub vector : ℕ → ℕ → Marks → ℕ → Effect
unfolding by_difference
vector h newest marks number = by_difference h newest marks number (difference newest number)

-- the promise of `hear_vector`
abbrev pub HearsVector : ℕ → ℕ → Marks → ℕ → Effect → Type 0
HearsVector h newest marks number r = r ≡ vector h newest marks number
