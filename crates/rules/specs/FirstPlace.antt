-- Where in the window the first packet's place stands, and the holes below it (CR 7, "Holes before the first packet"). Assumes nothing.
use Rattle.std.specs.Prelude.{ℕ, zero, suc, ◌+◌, ◌-◌, ◌≤◌, min, max, ◌≡◌, Bool, cond, not, ◌&&◌, ◌||◌, List, [], ◌∷◌, leb, ltb, eqb}
use Rattle.marks.specs.declared.Marks.{Marks}
use Rattle.marks.specs.Window.{most, moved, lost_by}
use Rattle.marks.specs.Meaning.{clear_among}
use Rattle.rules.specs.declared.First.{First}
use Rattle.rules.specs.declared.Traced.{Traced}
use Rattle.rules.specs.declared.Window.{Window}
use Rattle.rules.specs.Difference.{apart}
use Rattle.rules.specs.Places.{moved_on}

-- it is the n-th of the window's places, counted from the newest: the newest is the 1st, and mark n - 1 is that of the n-th
abbrev pub nth : ℕ → First
nth n = record { 0 = n }

-- it is none of them: no numbered packet was heard yet, the window has left it, or the rule is match
abbrev pub nowhere : First
nowhere = nth 0

-- the first numbered packet: its place is the newest under vector; "take-any and match keep none"
unfoldable pub opened : Bool → First
opened vector = cond vector (nth 1) nowhere

-- a slide of d places in a history of h moves it on with the marks, and it is none of the h places once the window has left it. Where
-- nothing moves it stays, as the marks do
unfoldable pub carried : ℕ → ℕ → First → First
carried h d first =
    cond (eqb first.0 0 || eqb d 0) first (cond (leb (first.0 + d) h) (nth (first.0 + d)) nowhere)

-- "lost +1 if it was clear", and a hole if it also lies "below the first packet's place": the last of the h places leaves at a single move,
-- and it lies below the first where that is another of them
unfoldable pub hole_by : ℕ → First → Marks → ℕ
hole_by h first marks = cond (not (eqb first.0 0) && ltb first.0 h) (lost_by h marks) 0

-- the holes of d single moves together
unfoldable pub holes_in : ℕ → ℕ → First → Marks → ℕ
holes_in h zero first marks = 0
holes_in h (suc d) first marks = hole_by h first marks + holes_in h d (carried h 1 first) (moved h marks)

-- mark by mark: of the last d marks of the h, those behind the n-th that were clear. A claim, which proofs/FirstLaws proves
abbrev pub HolesMean : Type 0
HolesMean =
    (h d n : ℕ) (marks : Marks) → h ≤ most → d ≤ h → 1 ≤ n → n ≤ h
    → holes_in h d (nth n) marks ≡ clear_among (max (h - d) n) (min d (h - n)) marks

-- where it stands by the places: as far below the newest as the window has moved on since the first packet, and nowhere once that is h
unfoldable pub standing : ℕ → ℕ → First
standing h on = cond (ltb on h) (nth (on + 1)) nowhere

-- of the places that have passed; before the first of them it stands nowhere
unfoldable pub standing_after : ℕ → List ℕ → First
standing_after h [] = nowhere
standing_after h (p ∷ ps) = standing h (moved_on (p ∷ ps))

-- a numbered packet, by what it does to the newest number: where that moves on d places the window does, and else it stays. Of the rule, h,
-- take-any, the newest number, the marks and the first place before it, and the newest number after it
unfoldable pub traced : Bool → ℕ → Bool → ℕ → Marks → First → ℕ → Traced
traced vector h take_any newest marks first now =
    cond take_any
    (record { first = opened vector; holes = 0 })
    (record { first = carried h (apart newest now) first; holes = holes_in h (apart newest now) first marks })

-- the promise of `Window::trace`
abbrev pub TracesFirst : Window → First → ℕ → Traced → Type 0
TracesFirst w first now r = r ≡ traced (eqb w.rule 0) w.history w.take_any w.newest w.marks first now
