-- One packet under the vector rule: a numbered one does what the places say, and one without a number leaves them alone. For every history
-- length that there is. Assumes nothing.
use mathlib.Core.Path.{◌≡◌, refl, sym}
use mathlib.Core.Bool.{Bool, true, false, cond}
use Rattle.octets.proofs.Bools.{either}
use Rattle.marks.specs.declared.Marks.{Marks}
use Rattle.marks.specs.Window.{most}
use mathlib.Core.List.{List, [], ◌∷◌}
use Prim.Native.Nat.{ℕ, ◌+◌, ◌≤◌, ◌<◌}
use native.Mathlib.Omega.{arith}
use lib.Dec.{eqb}
use lib.ListN.{length}
use Rattle.recovery.specs.declared.State.{State}
use Rattle.rules.specs.declared.Effect.{Effect}
use Rattle.setup.specs.Range.{is_vector}
use Rattle.rules.specs.NoNumber.{unnumbered}
use Rattle.recovery.specs.Packets.{numbered, tracing}
use Rattle.rules.specs.declared.First.{First}
use Rattle.rules.specs.FirstPlace.{standing, standing_after, traced}
use Rattle.rules.specs.Places.{first_place, moved_on, passes, after}
use Rattle.recovery.proofs.RuleLaws.{by_take_any, by_vector}
use Rattle.recovery.proofs.SoundLaws.{Sound}
use Rattle.recovery.proofs.FirstLaws.{take_any_nowhere}
use Rattle.rules.proofs.Places.First.{first_obeys}
use Rattle.rules.proofs.Places.Step.{Follows, Obeys, vector_obeys}
use Rattle.rules.proofs.Places.Before.{Keeps, first_keeps, later_keeps}

-- before the first numbered packet any is taken; after it the newest number, the marks and the first place follow the places
abbrev pub Stands : ℕ → List ℕ → Bool → ℕ → Marks → First → Type 0
Stands h [] any newest marks first = any ≡ true
Stands h (p ∷ ps) any newest marks first =
    (any ≡ false) × Follows h (p ∷ ps) newest marks × (first ≡ standing h (moved_on (p ∷ ps)))

-- the state after a numbered packet
pub stands_of : (h : ℕ) (ps : List ℕ) (newest : ℕ) (marks : Marks) (first : First) → Follows h ps newest marks
    → first ≡ standing h (moved_on ps) → Stands h ps false newest marks first
unfolding first_place
stands_of h [] newest marks first f e = absurd (omega (arith, f.kept.turn))
stands_of h (p ∷ ps) newest marks first f e = (refl, f, e)

-- in a sound state the first place stands where the places say, before the first packet too
pub stands_there : (s : State) (h : ℕ) (ps : List ℕ) → Sound s → Stands h ps s.take_any s.newest s.marks s.first
    → s.first ≡ standing_after h ps
unfolding standing_after
stands_there s h [] ok any = take_any_nowhere s.setup s.marks s.first (rw any at ok.first_kept)
stands_there s h (p ∷ ps) ok st = st.2

-- a numbered packet does what the places say
pub numbered_obeys : (s : State) (h : ℕ) (ps : List ℕ) (number : ℕ) → s.setup.history ≡ h → is_vector s.setup ≡ true
    → 1 ≤ h → h ≤ most → number < 65536
    → Stands h ps s.take_any s.newest s.marks s.first → Obeys h ps number (numbered s number)
numbered_obeys s h [] number hist rule hs room bits any = rw (by_take_any s number any, rule) (first_obeys h number hs room bits)
numbered_obeys s h (p ∷ ps) number hist rule hs room bits st =
    rw (by_vector s number st.0 rule, hist) (vector_obeys h p ps hs room number bits s.newest s.marks st.1)

-- and so does what becomes of the first place with it
tracing_there : (is_vector any : Bool) (history h : ℕ) (ps : List ℕ) (number newest : ℕ) (marks : Marks) (first : First) (now : ℕ)
    (marks-now : Marks) → history ≡ h → is_vector ≡ true → 1 ≤ h → h ≤ most
    → Stands h ps any newest marks first → Follows h (after h ps number) now marks-now
    → Keeps h ps (after h ps number) (traced is_vector history any newest marks first now)
tracing_there is_vector any history h [] number newest marks first now marks-now hist rule hs room st f =
    rw (hist, rule, st) (first_keeps h number newest marks first now hs)
tracing_there is_vector any history h (p ∷ ps) number newest marks first now marks-now hist rule hs room st f =
    rw (hist, rule, st.0, st.2) (later_keeps h p ps hs room newest marks st.1 number now marks-now f)

pub tracing_keeps : (s : State) (h : ℕ) (ps : List ℕ) (number : ℕ) → s.setup.history ≡ h → is_vector s.setup ≡ true
    → 1 ≤ h → h ≤ most → Stands h ps s.take_any s.newest s.marks s.first
    → Obeys h ps number (numbered s number) → Keeps h ps (after h ps number) (tracing s number)
unfolding tracing
tracing_keeps s h ps number hist rule hs room st obeys =
    tracing_there _ s.take_any _ h ps number s.newest s.marks s.first _ _ hist rule hs room st obeys.follows

-- a packet that passes is one place more
pub one_more : (h : ℕ) (ps : List ℕ) (number : ℕ) → length (after h ps number) ≡ length ps + cond (passes h ps number) 1 0
unfolding after
one_more h ps number =
    either (λ (qs : List ℕ). length qs ≡ length ps + cond (passes h ps number) 1 0) (passes h ps number)
    (λ t. rw t (omega arith))
    (λ f. rw f (omega arith))

-- a packet without a number leaves the newest number and the marks, loses nothing, and passes if taken
pub record Untouched (taken newest : ℕ) (marks : Marks) (effect : Effect) : Type 0 where
  pub same_newest : effect.newest ≡ newest
  pub same_marks : effect.marks ≡ marks
  pub loses_none : effect.lost ≡ 0
  pub if_taken : effect.passes ≡ eqb taken 1

pub untouched : (taken newest : ℕ) (marks : Marks) → Untouched taken newest marks (unnumbered taken newest marks)
unfolding unnumbered
untouched taken newest marks =
    either (Untouched taken newest marks) (eqb taken 1)
    (λ t. record { same_newest = refl; same_marks = refl; loses_none = refl; if_taken = sym t })
    (λ f. record { same_newest = refl; same_marks = refl; loses_none = refl; if_taken = sym f })
