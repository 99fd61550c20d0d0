-- Of a line, a page and a place, two answers that the promise allows are equal, and so are two later pages. Assumes nothing.
use Prim.Native.Nat.{ℕ}
use mathlib.Core.Path.{◌≡◌}
use mathlib.Core.List.{List}
use Rattle.octets.proofs.Unique.{one}
use Rattle.lines.specs.Page.{WritesLine}

pub writes_line_one : {line page : List ℕ} {at r r' : ℕ} {l l' : List ℕ} → WritesLine line page at r l → WritesLine line page at r' l'
    → (r ≡ r') × (l ≡ l')
writes_line_one p q = (one p.answer q.answer, one p.buffer q.buffer)
