-- The table of words: each word stands where its ends say. Assumes nothing.
use Prim.Native.Nat.{ℕ, zero, suc, ◌+◌, ◌-◌, ◌≤◌, ◌<◌}
use native.Mathlib.Omega.{arith}
use mathlib.Core.Path.{◌≡◌, refl}
use mathlib.Core.Bool.{Bool, true, false, ◌&&◌}
use mathlib.Core.List.{List, [], ◌∷◌}
use lib.ListN.{length, take, drop, get_or}
use lib.Dec.{leb, eqb, lit≤, lit<}
use Prim.Native.String.{String}
use borrow.Author.Tests.{leb-true, eqb-true}
use Rattle.octets.proofs.Bools.{both}
use Rattle.lines.specs.declared.Line.{Line}
use Rattle.lines.specs.declared.Line.TheVariants.{Ok, Pass, Discard, Tick, Reset, LatentReset, LatentOk, LatentError}
use Rattle.lines.specs.Lines.{octets_of, text, labels}
use Rattle.lines.specs.Words.{line_words, words, word_at, place}

-- as the code has them
abbrev pub table : List ℕ
table =
    octets_of
    "ok\npass\ndiscard\ntick\nreset\nlatent reset\nlatent ok\nlatent error\nfault \npassed= discarded= order= rogue= lost= tagless= resets= latent-resets= before-first="

abbrev pub ends : List ℕ
ends = 0 ∷ 3 ∷ 8 ∷ 16 ∷ 21 ∷ 27 ∷ 40 ∷ 50 ∷ 63 ∷ 69 ∷ 70 ∷ 77 ∷ 88 ∷ 95 ∷ 102 ∷ 108 ∷ 117 ∷ 125 ∷ 140 ∷ 154 ∷ []

-- one computed test over the table: each word is the part of it from the end of the word before to its own end
same : List ℕ → List ℕ → Bool
same [] [] = true
same [] (y ∷ ys) = false
same (x ∷ xs) [] = false
same (x ∷ xs) (y ∷ ys) = eqb x y && same xs ys

cuts : List ℕ → List String → Bool
cuts [] ws = true
cuts (a ∷ []) ws = true
cuts (a ∷ b ∷ es) [] = true
cuts (a ∷ b ∷ es) (w ∷ ws) =
    (leb a b && leb b (length table)) && (same (take (b - a) (drop a table)) (octets_of w) && cuts (b ∷ es) ws)

all_cut : cuts ends words ≡ true
unfolding same cuts words line_words labels
all_cut = refl

-- and what it says of each word
same_is : (xs ys : List ℕ) → same xs ys ≡ true → xs ≡ ys
unfolding same
same_is [] [] e = refl
same_is [] (y ∷ ys) e = let z : ◌≡◌ {A = ℕ} 0 1 = cc in absurd (omega arith)
same_is (x ∷ xs) [] e = let z : ◌≡◌ {A = ℕ} 0 1 = cc in absurd (omega arith)
same_is (x ∷ xs) (y ∷ ys) e = let is = both (eqb x y) (same xs ys) e in rw (eqb-true x y is.0, same_is xs ys is.1)

pub record Stands (es : List ℕ) (ws : List String) (i : ℕ) : Type 0 where
  pub ordered : get_or es i 0 ≤ get_or es (i + 1) 0
  pub within : get_or es (i + 1) 0 ≤ length table
  pub texts : take (get_or es (i + 1) 0 - get_or es i 0) (drop (get_or es i 0) table) ≡ octets_of (get_or ws i "")

from : (es : List ℕ) (ws : List String) → cuts es ws ≡ true → (i : ℕ) → length es ≡ length ws + 1 → i < length ws → Stands es ws i
unfolding cuts
from [] ws cut i e p = absurd (omega arith)
from (a ∷ es) [] cut i e p = absurd (omega arith)
from (a ∷ []) (w ∷ ws) cut i e p = absurd (omega arith)
from (a ∷ b ∷ es) (w ∷ ws) cut zero e p =
    let parts = both (leb a b && leb b (length table)) _ cut in
    let order = both (leb a b) _ parts.0 in
    record {
      ordered = leb-true a b order.0;
      within = leb-true b _ order.1;
      texts = same_is _ _ (both (same (take (b - a) (drop a table)) (octets_of w)) _ parts.1).0;
    }
from (a ∷ b ∷ es) (w ∷ ws) cut (suc i) e p =
    let parts = both (leb a b && leb b (length table)) _ cut in
    let rest = from (b ∷ es) ws (both (same (take (b - a) (drop a table)) (octets_of w)) _ parts.1).1 i (omega arith) (omega arith) in
    let next : suc i + 1 ≡ suc (i + 1) = omega arith in
    record { ordered = rw next rest.ordered; within = rw next rest.within; texts = rw next rest.texts }

pub stands : (i : ℕ) → i < 19 → Stands ends words i
unfolding words line_words labels
stands i p = from ends words all_cut i refl p

-- an event's line is one word, of at most 13 octets
pub record Word (line : Line) : Type 0 where
  pub there : place line < 19
  pub short : length (word_at (place line)) ≤ 13
  pub texts : word_at (place line) ≡ text line

pub line_word : (line : Line) → Word line
unfolding words line_words text
line_word Ok = record { there = lit< tt; short = lit≤ tt; texts = refl }
line_word Pass = record { there = lit< tt; short = lit≤ tt; texts = refl }
line_word Discard = record { there = lit< tt; short = lit≤ tt; texts = refl }
line_word Tick = record { there = lit< tt; short = lit≤ tt; texts = refl }
line_word Reset = record { there = lit< tt; short = lit≤ tt; texts = refl }
line_word LatentReset = record { there = lit< tt; short = lit≤ tt; texts = refl }
line_word LatentOk = record { there = lit< tt; short = lit≤ tt; texts = refl }
line_word LatentError = record { there = lit< tt; short = lit≤ tt; texts = refl }
