-- The first packet's place and the holes below it are what the places say: after each numbered packet it stands as far below the newest
-- place as the window has moved on, and the holes are the places below it that the window leaves unpassed. For every history length that
-- there is. Assumes nothing.
use mathlib.Core.Path.{◌≡◌, refl, sym}
use mathlib.Core.Bool.{true, false}
use mathlib.Core.Logic.{inr}
use mathlib.Core.List.{List, [], ◌∷◌}
use Prim.Native.Nat.{ℕ, ◌+◌, ◌-◌, ◌%◌, ◌≤◌, ◌<◌, min}
use native.Mathlib.Nat.{add-zero}
use native.Mathlib.Omega.{arith}
use lib.Dec.{ltb}
use borrow.Author.Tests.{lt-ltb, le-ltb, ltb-true, ltb-false}
use Rattle.octets.proofs.Bools.{by_cases}
use Rattle.marks.specs.declared.Marks.{Marks}
use Rattle.marks.specs.Window.{most, lost_in}
use Rattle.rules.specs.declared.First.{First}
use Rattle.rules.specs.declared.Traced.{Traced}
use Rattle.rules.specs.Difference.{apart}
use Rattle.rules.specs.FirstPlace.{opened, carried, holes_in, standing, traced}
use Rattle.rules.specs.Places.{newest_place, first_place, place, passes, after, unpassed, moved_on, before_first}
use Rattle.rules.proofs.FirstLaws.{nowhere_carried, carried_in, carried_out, nowhere_holes, nth_holes}
use Rattle.rules.proofs.Places.Passing.{passes_above, passes_below}
use Rattle.rules.proofs.Places.Counting.{unpassed_zero, unpassed_split, unpassed_outside}
use Rattle.rules.proofs.Places.Sum.{newest_alone, newest_next, first_next}
use Rattle.rules.proofs.Places.Shown.{shown_lost}
use Rattle.rules.proofs.Places.Step.{Follows}

-- what is kept of the first place and counted with a numbered packet, as the places say that passed before it and after it
pub record Keeps (h : ℕ) (ps later : List ℕ) (f : Traced) : Type 0 where
  pub stands : f.first ≡ standing h (moved_on later)
  pub holes_grown : before_first h later ≡ before_first h ps + f.holes

-- before any packet has moved the window on, nothing below the first place has left it
none_before : (h : ℕ) (ps : List ℕ) → moved_on ps ≡ 0 → before_first h ps ≡ 0
unfolding before_first
none_before h ps still = let none : min 0 (h - 1) ≡ 0 = omega arith in rw (still, none, unpassed_zero)

pub none_before_first : (h : ℕ) → before_first h [] ≡ 0
unfolding moved_on newest_place first_place
none_before_first h = none_before h [] refl

first_still : (p : ℕ) → moved_on (p ∷ []) ≡ 0
unfolding moved_on first_place
first_still p = rw newest_alone (omega arith)

pub first_keeps : (h number newest : ℕ) (marks : Marks) (first : First) (now : ℕ) → 1 ≤ h
    → Keeps h [] (after h [] number) (traced true h true newest marks first now)
unfolding traced opened standing after passes place
first_keeps h number newest marks first now hs =
    let still = first_still (65536 + number) in
    record { stands = rw (still, lt-ltb 0 h hs); holes_grown = rw (none_before h _ still, none_before_first h) }

-- the window moves on, and the first place with it
carried_standing : (h moved d : ℕ) → carried h d (standing h moved) ≡ standing h (moved + d)
unfolding standing
carried_standing h moved d =
    by_cases (ltb moved h)
    (λ here. by_cases (ltb (moved + d) h)
    (λ t.
    let on : moved + 1 + d ≡ moved + d + 1 = omega arith in
    rw (here, t, carried_in h d (moved + 1) (omega arith) (omega (arith, ltb-true (moved + d) h t)), on))
    (λ t.
    let beyond = ltb-false (moved + d) h t in
    rw (here, t) (carried_out h d (moved + 1) (omega arith) (omega (arith, ltb-true moved h here)) (omega arith))))
    (λ gone. rw (gone, nowhere_carried, le-ltb (moved + d) h (omega (arith, ltb-false moved h gone))))

-- how many places below the first have left once the window has moved on so far, and how many leave while it moves on by d more
abbrev gone : ℕ → ℕ → ℕ
gone h moved = min moved (h - 1)

abbrev going : ℕ → ℕ → ℕ → ℕ
going h moved d = gone h (moved + d) - gone h moved

gone_more : (h moved d : ℕ) → gone h (moved + d) ≡ gone h moved + going h moved d
gone_more h moved d = omega arith

holes_standing : (h moved d : ℕ) (marks : Marks) → 1 ≤ h → holes_in h d (standing h moved) marks ≡ lost_in h (going h moved d) marks
unfolding standing lost_in
holes_standing h moved d marks hs =
    by_cases (ltb moved h)
    (λ t.
    let some : min d (h - (moved + 1)) ≡ going h moved d = omega (arith, ltb-true moved h t) in
    rw (t, nth_holes h d (moved + 1) (omega arith) marks, some))
    (λ t.
    let none : going h moved d ≡ 0 = omega (arith, ltb-false moved h t) in
    rw (t, nowhere_holes, none))

-- the newest number goes on as far as the newest place
apart_places : (a b : ℕ) → a ≤ b → b < a + 65536 → apart (a % 65536) (b % 65536) ≡ b - a
unfolding apart
apart_places a b up turn = omega arith

module _ (h p : ℕ) (ps : List ℕ) (hs : 1 ≤ h) (room : h ≤ most) (newest : ℕ) (marks : Marks) (f : Follows h (p ∷ ps) newest marks) where
  abbrev qs : List ℕ
  qs = p ∷ ps

  abbrev N : ℕ
  N = newest_place qs

  abbrev F : ℕ
  F = first_place qs

  -- the places below the first one that leave, counted by their marks
  lost_row : (moved d : ℕ) → N ≡ F + moved → unpassed qs (F + 1 - h + gone h moved) (going h moved d) ≡ lost_in h (going h moved d) marks
  unfolding lost_in
  lost_row moved d e =
      by_cases (ltb moved h)
      (λ t.
      let from : F + 1 - h + gone h moved ≡ N + 1 - h = omega (arith, ltb-true moved h t, f.kept) in
      let within : going h moved d ≤ h = omega arith in
      rw from (sym (shown_lost h hs room qs N marks f.shown (going h moved d) within (omega (arith, f.kept)))))
      (λ t. let none : going h moved d ≡ 0 = omega (arith, ltb-false moved h t) in rw (none, unpassed_zero))

  -- places that have passed later: the first is the same, the newest stands d further on, and none of the new ones lies among what the
  -- window has left
  module _ (later : List ℕ) (d : ℕ) (same : first_place later ≡ F) (on : newest_place later ≡ N + d) (few : d < 65536)
      (left : (n : ℕ) → n ≤ moved_on qs + d → unpassed later (F + 1 - h) n ≡ unpassed qs (F + 1 - h) n) where
    moved_further : moved_on later ≡ moved_on qs + d
    unfolding moved_on
    moved_further = rw (same, on) (omega (arith, f.kept.up))

    newest_there : N ≡ F + moved_on qs
    unfolding moved_on
    newest_there = omega (arith, f.kept.up)

    holes_grow : before_first h later ≡ before_first h qs + holes_in h d (standing h (moved_on qs)) marks
    unfolding before_first
    holes_grow =
        let m : ℕ = moved_on qs in
        let within : gone h (m + d) ≤ m + d = omega arith in
        rw (moved_further, same, left _ within, gone_more h m d, unpassed_split, holes_standing h m d marks hs, lost_row m d newest_there)

    keeps : (now : ℕ) → now ≡ newest_place later % 65536 → Keeps h qs later (traced true h false newest marks (standing h (moved_on qs)) now)
    unfolding traced
    keeps now at =
        let far : apart newest now ≡ d = rw (f.at, at, on, apart_places N (N + d) (omega arith) (omega arith)) (omega arith) in
        record {
          stands = rw (far, moved_further) (carried_standing h (moved_on qs) d);
          holes_grown = rw far holes_grow;
        }

  pub later_keeps : (number now : ℕ) (marks-now : Marks) → Follows h (after h qs number) now marks-now
      → Keeps h qs (after h qs number) (traced true h false newest marks (standing h (moved_on qs)) now)
  unfolding after moved_on
  later_keeps number now marks-now g =
      by_cases (passes h qs number)
      (λ t.
      let q : ℕ = place qs number in
      let above : N < q + h = passes_above h p ps number t in
      let near : q < N + h = passes_below h p ps number t in
      let on : newest_place (q ∷ qs) ≡ N + (q - N) = rw (newest_next q qs) (omega arith) in
      rw t (keeps (q ∷ qs) (q - N) (first_next q p ps) on (omega arith)
      (λ n fits. unpassed_outside q qs (F + 1 - h) n (inr (omega (arith, f.kept))))
      now (rw t at g.at)))
      (λ t. rw t (keeps qs 0 refl (sym (add-zero N)) (omega arith) (λ n fits. refl) now (rw t at g.at)))
