-- The marks of the vector rule (document 01, "Numbering and recovery"). All marks together are one number, whose binary digit k is mark k.
-- How they are kept is said by what stands before `mark` alone. Assumes nothing.
use Rattle.std.specs.Prelude.{ℕ, zero, suc, ◌+◌, ◌-◌, ◌*◌, ◌/◌, ◌%◌, ◌^◌, min, max, ◌≡◌, List, [], ◌∷◌, Bool, cond, ◌&&◌, ltb, eqb}
use Rattle.marks.specs.declared.Marks.{Marks}
use Rattle.marks.specs.declared.Slid.{Slid}

-- how many marks there are: the longest "history length H 2 to 64", which CR 4 has raised: "Raise H to 512"
abbrev pub most : ℕ
most = 512

-- how many of them a word has
abbrev pub bits : ℕ
bits = 64

-- the words of marks, that of the newest first
abbrev pub words_of : Marks → List ℕ
words_of marks =
    marks.w0
    ∷ marks.w1
    ∷ marks.w2
    ∷ marks.w3
    ∷ marks.w4
    ∷ marks.w5
    ∷ marks.w6
    ∷ marks.w7
    ∷ []

-- whether two marks have the same words
abbrev pub same_words : Marks → Marks → Bool
same_words a b =
    eqb a.w0 b.w0
    && eqb a.w1 b.w1
    && eqb a.w2 b.w2
    && eqb a.w3 b.w3
    && eqb a.w4 b.w4
    && eqb a.w5 b.w5
    && eqb a.w6 b.w6
    && eqb a.w7 b.w7

-- words as one number, the lowest first
unfoldable pub value_of : List ℕ → ℕ
value_of [] = 0
value_of (w ∷ words) = value_of words * 2 ^ bits + w

-- all marks as one number
unfoldable pub number : Marks → ℕ
number marks = value_of (words_of marks)

-- word i of a number
unfoldable pub word_in : ℕ → ℕ → ℕ
word_in i n = n / 2 ^ (bits * i) % 2 ^ bits

-- and the marks of a number; what eight words have no room for stays in the last
unfoldable pub marks_of : ℕ → Marks
marks_of n =
    record {
      w0 = word_in 0 n;
      w1 = word_in 1 n;
      w2 = word_in 2 n;
      w3 = word_in 3 n;
      w4 = word_in 4 n;
      w5 = word_in 5 n;
      w6 = word_in 6 n;
      w7 = n / 2 ^ (bits * 7);
    }

-- "mark 0 is the newest": mark k is 1 where it is set, 0 where it is clear
unfoldable pub mark : ℕ → Marks → ℕ
mark k marks = number marks / 2 ^ k % 2

-- "marks clear"
unfoldable pub none : Marks
none = marks_of 0

-- "marks at H and above clear"; from 0 on, "no mark"
unfoldable pub clear_from : ℕ → Marks → Bool
clear_from h marks = ltb (number marks) (2 ^ h)

-- "else set it": the marks with mark k set; of a mark that there is not they stay
unfoldable pub set : ℕ → Marks → Marks
unfolding mark
set k marks = cond (ltb k most && eqb (mark k marks) 0) (marks_of (number marks + 2 ^ k)) marks

-- a history length that there can be: itself, or the nearest one. Every H that a setup may have is its own
unfoldable pub reach : ℕ → ℕ
reach h = max 1 (min h most)

-- "the marks move d places, the last mark leaving at each single move": one move, after which mark 0 is clear
unfoldable pub moved : ℕ → Marks → Marks
moved h marks = marks_of (number marks * 2 % 2 ^ reach h)

-- "lost +1 if it was clear": lost by one move, 1 where the mark that leaves was clear
unfoldable pub lost_by : ℕ → Marks → ℕ
unfolding mark
lost_by h marks = 1 - mark (reach h - 1) marks

-- the marks moved d places, one at a time
unfoldable pub slid : ℕ → ℕ → Marks → Marks
slid h zero marks = marks
slid h (suc d) marks = slid h d (moved h marks)

-- lost by those d moves together
unfoldable pub lost_in : ℕ → ℕ → Marks → ℕ
lost_in h zero marks = 0
lost_in h (suc d) marks = lost_by h marks + lost_in h d (moved h marks)

-- the promises: of `none`
abbrev pub StartsClear : Marks → Type 0
StartsClear r = r ≡ none

-- of `clear_from`
abbrev pub ClearsFrom : Marks → ℕ → Bool → Type 0
ClearsFrom marks h r = r ≡ clear_from h marks

-- of `is_set`
abbrev pub IsSet : Marks → ℕ → Bool → Type 0
IsSet marks k r = r ≡ eqb (mark k marks) 1

-- of `set`
abbrev pub Sets : Marks → ℕ → Marks → Type 0
Sets marks k r = r ≡ set k marks

-- of `slide`
pub record Slides (marks : Marks) (h d : ℕ) (r : Slid) : Type 0 where
  pub moves : r.marks ≡ slid h d marks
  pub loses : r.lost ≡ lost_in h d marks
