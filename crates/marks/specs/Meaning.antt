-- What a slide means, mark by mark, said without single moves, and what the setting of a mark means: `slid`, `lost_in` and `set` of Window
-- are held to it by the claims `SlidesMean` and `SetsMean`, which proofs/Meaning proves. Assumes nothing.
use Rattle.std.specs.Prelude.{ℕ, zero, suc, ◌+◌, ◌-◌, ◌≤◌, ◌<◌, ◌≡◌, true, cond, eqb, ltb}
use Rattle.marks.specs.declared.Marks.{Marks}
use Rattle.marks.specs.Window.{most, mark, clear_from, set, slid, lost_in}

-- how many of the n marks from k on are clear
unfoldable pub clear_among : ℕ → ℕ → Marks → ℕ
clear_among k zero marks = 0
clear_among k (suc n) marks = 1 - mark k marks + clear_among (suc k) n marks

-- a slide of d places in a history of h: mark k afterwards is mark k - d before, and "the d-1 skipped marks are clear", with mark 0; the
-- marks that left are the last d of the h, and lost is how many of them were clear
pub record SlideMeans (h d : ℕ) (marks : Marks) : Type 0 where
  pub mark_after : (k : ℕ) → k < h → mark k (slid h d marks) ≡ cond (ltb k d) 0 (mark (k - d) marks)
  pub clear_above : clear_from h marks ≡ true → clear_from h (slid h d marks) ≡ true
  pub left_clear : lost_in h d marks ≡ clear_among (h - d) d marks

-- a mark set: that one is set, and every other stays as it was
pub record SetMeans (k : ℕ) (marks : Marks) : Type 0 where
  pub mark_after : (j : ℕ) → mark j (set k marks) ≡ cond (eqb j k) 1 (mark j marks)
  pub clear_above : (h : ℕ) → k < h → clear_from h marks ≡ true → clear_from h (set k marks) ≡ true

-- so for every history length that there is, and every slide within it
abbrev pub SlidesMean : Type 0
SlidesMean = (h d : ℕ) (marks : Marks) → 1 ≤ h → h ≤ most → d ≤ h → SlideMeans h d marks

-- and for every mark that there is
abbrev pub SetsMean : Type 0
SetsMean = (k : ℕ) (marks : Marks) → k < most → SetMeans k marks
