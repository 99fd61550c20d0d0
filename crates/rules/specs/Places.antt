-- Places: the third demand of the layer, which document 01 cites as demand 3. Which numbered packets pass, and which places are lost or
-- still open: "All this is counted from the list of packets alone". A place never wraps: it is a natural number, and bears the sequence
-- number place % 65,536. A late packet may stand below the first one, also where that has the number 0, so places are counted from one full
-- turn below zero: the first packet's place is 65,536 + its number. Every list here is latest first. `NearestAlone`, `LeftForGood`,
-- `LostParted` and `SumCloses` are claims about these definitions, which proofs/Places proves; what is claimed of the calls is said in
-- `specs/Spans` of the room `recovery`. Assumes nothing.
use Rattle.std.specs.Prelude.{ℕ, zero, suc, ◌+◌, ◌-◌, ◌%◌, ◌≤◌, ◌<◌, min, max, ◌≡◌, Bool, true, false, cond, not, ◌&&◌, ◌||◌, List, [], ◌∷◌, eqb, ltb, length}

-- "the newest (highest) passed place"
unfoldable pub newest_place : List ℕ → ℕ
newest_place [] = 0
newest_place (p ∷ ps) = max p (newest_place ps)

-- the first of the passed places
unfoldable pub first_place : List ℕ → ℕ
first_place [] = 0
first_place (p ∷ []) = p
first_place (p ∷ q ∷ ps) = first_place (q ∷ ps)

-- whether a place is one of the passed places
unfoldable pub among : ℕ → List ℕ → Bool
among p [] = false
among p (q ∷ ps) = eqb p q || among p ps

-- "lies less than the history length from" a place: whether two places lie less than h apart
unfoldable pub near : ℕ → ℕ → ℕ → Bool
near h p q = ltb p (q + h) && ltb q (p + h)

-- the place with this number nearest the newest: of the 65,536 places from newest - 32,768 on, the one that bears the number
unfoldable pub nearest : ℕ → ℕ → ℕ
nearest newest number = newest - 32768 + (number + 65536 - (newest - 32768) % 65536) % 65536

-- it is that place: of those from 32,768 below the newest to 32,767 above it, no other bears the number
abbrev pub NearestAlone : Type 0
NearestAlone =
    (newest number p : ℕ) → 32768 ≤ newest → number < 65536 → newest ≤ p + 32768 → p < newest + 32768
    → (nearest newest number ≡ p → p % 65536 ≡ number) × (p % 65536 ≡ number → nearest newest number ≡ p)

-- the place of a numbered packet, after these places have passed: "the first numbered packet has the place of its own number, each later
-- one the place of its number nearest the newest (highest) passed place"
unfoldable pub place : List ℕ → ℕ → ℕ
place [] number = 65536 + number
place (p ∷ ps) number = nearest (newest_place (p ∷ ps)) number

-- "A numbered packet passes exactly if it is the first, or lies less than the history length from the newest passed place at a place not
-- passed before"
unfoldable pub passes : ℕ → List ℕ → ℕ → Bool
passes h [] number = true
passes h (p ∷ ps) number =
    near h (place (p ∷ ps) number) (newest_place (p ∷ ps)) && not (among (place (p ∷ ps) number) (p ∷ ps))

-- the passed places with it
unfoldable pub after : ℕ → List ℕ → ℕ → List ℕ
after h ps number = cond (passes h ps number) (place ps number ∷ ps) ps

-- the passed places of a list of packet numbers
unfoldable pub passed : ℕ → List ℕ → List ℕ
passed h [] = []
passed h (number ∷ older) = after h (passed h older) number

-- how many of the n places from this one on have not passed
unfoldable pub unpassed : List ℕ → ℕ → ℕ → ℕ
unpassed ps from zero = 0
unpassed ps from (suc n) = cond (among from ps) 0 1 + unpassed ps (suc from) n

-- "places in the window at the first numbered packet": the window is the h places up to the newest passed one; before the first packet
-- there is none ("In a span without a numbered packet, 3 counts no place")
unfoldable pub window : ℕ → List ℕ → ℕ
window h [] = 0
window h (p ∷ ps) = h

-- "places the window moved on"
unfoldable pub moved_on : List ℕ → ℕ
moved_on ps = newest_place ps - first_place ps

-- "A place is lost when the window leaves it unpassed": the places that the window has left, from the last one of the first window on, that
-- have not passed
unfoldable pub lost : ℕ → List ℕ → ℕ
lost h ps = unpassed ps (first_place ps + 1 - h) (moved_on ps)

-- what the window has left is left for good: no later packet passes there, so that a lost place is one whether it is counted as the window
-- leaves it or afterwards
abbrev pub LeftForGood : Type 0
LeftForGood =
    (h p : ℕ) (ps : List ℕ) (number left : ℕ) → left + h ≤ newest_place (p ∷ ps)
    → among left (after h (p ∷ ps) number) ≡ among left (p ∷ ps)

-- CR 7, "for those of them below the first packet's place": of the places that the window has left, the first h - 1 lie below the first
-- packet's; those of them that have not passed
unfoldable pub before_first : ℕ → List ℕ → ℕ
before_first h ps = unpassed ps (first_place ps + 1 - h) (min (moved_on ps) (h - 1))

-- and of the places above the first packet's that the window has left, those that have not passed
unfoldable pub lost_above : ℕ → List ℕ → ℕ
lost_above h ps = unpassed ps (first_place ps + 1) (moved_on ps - h)

-- "lost less before-first, over the span, counts only places above the first"
abbrev pub Parted : ℕ → List ℕ → Type 0
Parted h ps = lost h ps ≡ before_first h ps + lost_above h ps

-- so for every list of packet numbers
abbrev pub LostParted : Type 0
LostParted = (h : ℕ) (numbers : List ℕ) → 1 ≤ h → h ≤ 65536 → Parted h (passed h numbers)

-- "those still open": the places in the window that have not passed
unfoldable pub still_open : ℕ → List ℕ → ℕ
still_open h ps = unpassed ps (newest_place ps + 1 - h) (window h ps)

-- "And the sum closes: places in the window at the first numbered packet, plus places the window moved on, equal numbered packets passed,
-- plus places lost, plus those still open"
abbrev pub Closes : ℕ → List ℕ → Type 0
Closes h ps = window h ps + moved_on ps ≡ length ps + lost h ps + still_open h ps

-- so for every list of packet numbers
abbrev pub SumCloses : Type 0
SumCloses = (h : ℕ) (numbers : List ℕ) → 1 ≤ h → h ≤ 65536 → Closes h (passed h numbers)
