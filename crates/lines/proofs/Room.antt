-- The test for room, and a line with and without it. Assumes nothing.
use Prim.Native.Nat.{ℕ, ◌+◌, ◌-◌, ◌≤◌}
use native.Mathlib.Omega.{arith}
use mathlib.Core.Path.{◌≡◌, sym, ap, ◌∙◌}
use mathlib.Core.Bool.{Bool, true, false}
use mathlib.Core.List.{List, ◌++◌}
use lib.ListN.{length, take}
use lib.Dec.{leb}
use borrow.Author.Tests.{leb-true, leb-false, le-leb, lt-leb}
use Rattle.octets.proofs.Bools.{by_cases}
use Rattle.lines.specs.Lines.{longest}
use Rattle.lines.specs.Words.{put_at, Appends}
use Rattle.lines.specs.Page.{has_room, WritesLine}
use Rattle.lines.proofs.Growth.{put_front, put_length}

-- as the code tests it, without a sum that could wrap
pub tested : (at long : ℕ) → longest ≤ long → leb at (long - longest) ≡ leb (at + longest) long
tested at long p =
    by_cases (leb at (long - longest))
    (λ fits. fits ∙ sym (le-leb (at + longest) long (omega (arith, leb-true at (long - longest) fits))))
    (λ over. over ∙ sym (lt-leb (at + longest) long (omega (arith, leb-false at (long - longest) over))))

module _ (line page : List ℕ) (at : ℕ) where
  pub with_room : {r : ℕ} {later : List ℕ} → at + longest ≤ length page → r ≤ at + longest → Appends line page at r later
      → WritesLine line page at r later
  with_room room short x =
      let has = le-leb (at + longest) (length page) room in record { answer = rw has x.ends; buffer = rw has x.buffer; short = short }

  pub without_room : has_room page at ≡ false → WritesLine line page at at page
  without_room none = record { answer = rw none; buffer = rw none; short = omega arith }

-- where there is room: what the page's front is then, for those who write line after line
pub record Shown (line page : List ℕ) (at r : ℕ) (later : List ℕ) : Type 0 where
  pub ends : r ≡ at + length line
  pub front : take r later ≡ take at page ++ line
  pub same : length later ≡ length page
  pub within : r ≤ length later

pub shown : {line page : List ℕ} {at r : ℕ} {later : List ℕ} → at + longest ≤ length page → WritesLine line page at r later
    → Shown line page at r later
shown {line} {page} {at} {r} {later} room w =
    let has = le-leb (at + longest) (length page) room in
    let ends : r ≡ at + length line = rw has at w.answer in
    let put : later ≡ put_at at line page = rw has at w.buffer in
    let fits : at + length line ≤ length page = omega (arith, w.short) in
    let same : length later ≡ length page = ap length put ∙ put_length line page at fits in
    record {
      ends = ends;
      front = rw (ends, put) (put_front line page at fits);
      same = same;
      within = omega (arith, w.short);
    }

-- what the test says that was made of a page's length
pub said : (at : ℕ) (page : List ℕ) {b : Bool} → b ≡ leb (at + longest) (length page) → b ≡ true → at + longest ≤ length page
said at page e t = leb-true (at + longest) (length page) (sym e ∙ t)
