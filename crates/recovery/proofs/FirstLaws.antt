-- What is kept of the first place, beside the other tests of a sound state: that its mark is set says the rest. Assumes nothing.
use Prim.Native.Nat.{ℕ, zero-le, ◌-◌, ◌≤◌}
use mathlib.Core.Path.{◌≡◌, refl, sym, ap, ◌∙◌}
use mathlib.Core.Bool.{Bool, true, false, not, ◌&&◌, ◌||◌, and-false, or-true, false≢true}
use lib.Dec.{leb, eqb}
use borrow.Author.Tests.{eqb-true, eqb-false, eq-eqb, ne_eqb, leb-true, leb-false, le-leb}
use native.Mathlib.Omega.{arith}
use Rattle.octets.proofs.Bools.{by_cases, either, both}
use Rattle.setup.specs.declared.Setup.{Setup}
use Rattle.setup.specs.Range.{in_range, is_vector, full_of}
use Rattle.marks.specs.declared.Marks.{Marks}
use Rattle.marks.specs.Window.{mark, clear_from}
use Rattle.marks.proofs.Moves.{clear_mark}
use Rattle.rules.specs.declared.First.{First}
use Rattle.rules.specs.FirstPlace.{nth, nowhere, opened, carried}
use Rattle.rules.proofs.FirstLaws.{nowhere_carried}
use Rattle.rules.proofs.FirstKept.{Placed}
use Rattle.recovery.specs.declared.State.{State}
use Rattle.recovery.specs.Soundness.{awaits, parts_agree, keeps_first, sound}

module _ (s : State) (fits : clear_from s.setup.history s.marks ≡ true) (await : awaits s ≡ true)
    (bare : (is_vector s.setup || clear_from 0 s.marks) ≡ true) where
  -- a set mark is not among those that are clear
  module _ (k : ℕ) (marked : mark k s.marks ≡ 1) where
    not_clear : (h : ℕ) → clear_from h s.marks ≡ true → h ≤ k → ⊥
    not_clear h clear above = omega (arith, clear_mark h k s.marks clear above)

    no_take_any : not s.take_any ≡ true
    unfolding awaits
    no_take_any =
        by_cases s.take_any
        (λ any. absurd (not_clear 0 (both (eqb s.newest 65535) (clear_from 0 s.marks) (rw any at await)).1 zero-le))
        (λ off. rw off)

    no_match : is_vector s.setup ≡ true
    no_match = by_cases (is_vector s.setup) (λ v. v) (λ m. absurd (not_clear 0 (rw m at bare) zero-le))

  inside : (first : First) → eqb first.0 0 ≡ false → mark (first.0 - 1) s.marks ≡ 1 → leb first.0 s.setup.history ≡ true
  inside first f one =
      by_cases (leb first.0 s.setup.history)
      (λ t. t)
      (λ beyond. absurd (not_clear (first.0 - 1) one s.setup.history fits
      (omega (arith, leb-false first.0 s.setup.history beyond, eqb-false first.0 0 f))))

  kept_marked : (first : First)
      → (eqb (mark (first.0 - 1) s.marks) 1 || eqb first.0 0) ≡ keeps_first s.setup s.marks s.take_any first
  unfolding keeps_first
  kept_marked first =
      by_cases (eqb first.0 0)
      (λ none. rw (none, or-true))
      (λ some. by_cases (eqb (mark (first.0 - 1) s.marks) 1)
      (λ t. let one = eqb-true _ _ t in rw (some, t, no_take_any _ one, no_match _ one, inside first some one))
      (λ f. rw (some, f, and-false)))

-- what is said of a first place in the window, part by part
record Kept (setup : Setup) (marks : Marks) (take_any : Bool) (n : ℕ) : Type 0 where
  pub heard : not take_any ≡ true
  pub vector : is_vector setup ≡ true
  pub inside : n ≤ setup.history
  pub marked : mark (n - 1) marks ≡ 1

kept : (setup : Setup) (marks : Marks) (take_any : Bool) (first : First) → keeps_first setup marks take_any first ≡ true → 1 ≤ first.0
    → Kept setup marks take_any first.0
unfolding keeps_first
kept setup marks take_any first e some =
    let n : ℕ = first.0 in
    let there : n ≡ 0 → ⊥ = λ none. omega arith in
    let marked = both (not take_any && is_vector setup && leb n setup.history) (eqb (mark (n - 1) marks) 1) (rw (ne_eqb n 0 there) at e) in
    let inside = both (not take_any && is_vector setup) (leb n setup.history) marked.0 in
    let known = both (not take_any) (is_vector setup) inside.0 in
    record {
      heard = known.0;
      vector = known.1;
      inside = leb-true n setup.history inside.1;
      marked = eqb-true _ _ marked.1;
    }

-- under vector with take-any off that is what `rules` says of it
module _ (setup : Setup) (vector : is_vector setup ≡ true) where
  pub placed : (marks : Marks) (take_any : Bool) (first : First) → keeps_first setup marks take_any first ≡ true
      → Placed setup.history marks first
  placed marks take_any first e some = let here = kept setup marks take_any first e some in (here.inside, here.marked)

  pub keeps : (marks : Marks) (first : First) → Placed setup.history marks first → keeps_first setup marks false first ≡ true
  unfolding keeps_first
  keeps marks first here =
      by_cases (eqb first.0 0)
      (λ none. rw none)
      (λ f.
      let there = here (omega (arith, eqb-false first.0 0 f)) in
      rw (f, vector, le-leb _ _ there.0, eq-eqb _ _ there.1))

-- one that cannot be a place is none
unless_one : (first : First) → (1 ≤ first.0 → ⊥) → first ≡ nowhere
unless_one first never =
    by_cases (eqb first.0 0)
    (λ none. ap nth (eqb-true first.0 0 none))
    (λ f. absurd (never (omega (arith, eqb-false first.0 0 f))))

-- take-any keeps none
pub take_any_nowhere : (setup : Setup) (marks : Marks) (first : First) → keeps_first setup marks true first ≡ true → first ≡ nowhere
take_any_nowhere setup marks first e = unless_one first (λ some. false≢true (kept setup marks true first e some).heard)

-- match keeps none, and none stays none
match_nowhere : (setup : Setup) (marks : Marks) (take_any : Bool) (first : First) → is_vector setup ≡ false
    → keeps_first setup marks take_any first ≡ true → first ≡ nowhere
match_nowhere setup marks take_any first m e = unless_one first (λ some. false≢true (sym m ∙ (kept setup marks take_any first e some).vector))

pub match_keeps : (setup : Setup) (marks : Marks) (take_any : Bool) (first : First) → is_vector setup ≡ false
    → keeps_first setup marks take_any first ≡ true → (later : Marks) (h d : ℕ) → keeps_first setup later false (carried h d first) ≡ true
unfolding keeps_first
match_keeps setup marks take_any first m e later h d = rw (match_nowhere setup marks take_any first m e, nowhere_carried)

-- the place of a first packet itself
pub keeps_opened : (setup : Setup) (marks : Marks) → 1 ≤ setup.history → (is_vector setup ≡ true → mark 0 marks ≡ 1)
    → keeps_first setup marks false (opened (is_vector setup)) ≡ true
unfolding keeps_first opened
keeps_opened setup marks low marked =
    either (λ (first : First). keeps_first setup marks false first ≡ true) (is_vector setup)
    (λ v. keeps setup v marks (nth 1) (λ _. (low, marked v)))
    (λ _. refl)

-- so the tests of a sound state may ask for the mark alone, behind the others
pub by_mark : (s : State) → (parts_agree s && (eqb (mark (s.first.0 - 1) s.marks) 1 || eqb s.first.0 0)) ≡ sound s
unfolding sound parts_agree
by_mark s =
    by_cases (parts_agree s)
    (λ t.
    let bare = both _ (is_vector s.setup || clear_from 0 s.marks) (both _ (leb s.left.0 (full_of s.setup).0) t).0 in
    let await = both _ (awaits s) bare.0 in
    let fits = both (in_range s.setup) (clear_from s.setup.history s.marks) await.0 in
    ap (λ (b : Bool). parts_agree s && b) (kept_marked s fits.1 await.1 bare.1 s.first))
    (λ f. rw f)

pub unmarked_unsound : (s : State) → (eqb (mark (s.first.0 - 1) s.marks) 1 || eqb s.first.0 0) ≡ false → false ≡ sound s
unmarked_unsound s clear = rw (← by_mark s, clear, and-false)
