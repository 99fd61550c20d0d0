-- A fresh state is sound, and every step keeps a sound state sound. Assumes nothing.
use Prim.Native.Nat.{ℕ, zero-le, ◌-◌, ◌≤◌}
use mathlib.Core.Path.{◌≡◌, refl}
use mathlib.Core.Bool.{Bool, true, false, cond, not, ◌&&◌, ◌||◌, or-true}
use lib.Dec.{leb, eqb}
use borrow.Author.Tests.{le-leb, leb-true, eqb-true, eqb-false, eq-eqb}
use native.Mathlib.Nat.{le_refl}
use native.Mathlib.Omega.{arith}
use Rattle.octets.proofs.Bools.{by_cases, either, both, and_true}
use Rattle.setup.specs.declared.Setup.{Setup}
use Rattle.setup.specs.Range.{in_range, is_vector, is_individual, full_of}
use Rattle.setup.proofs.InRange.{ranges, full_positive}
use Rattle.marks.specs.Window.{most, mark, clear_from, none}
use Rattle.marks.proofs.Moves.{none_from}
use Rattle.counters.specs.declared.Counters.{Counters}
use Rattle.recovery.specs.declared.Left.{Left}
use Rattle.recovery.specs.declared.State.{State}
use Rattle.recovery.specs.declared.Packet.{Packet}
use Rattle.recovery.specs.declared.Packet.TheVariants.{Numbered, Tagless}
use Rattle.recovery.specs.declared.Stepped.{Stepped}
use Rattle.recovery.specs.declared.Ticked.{Ticked}
use Rattle.rules.specs.declared.Effect.{Effect}
use Rattle.rules.specs.Vector.{vector}
use Rattle.recovery.specs.Soundness.{awaits, parts_agree, keeps_first, sound}
use Rattle.recovery.specs.Resets.{cleared, reset_state}
use Rattle.recovery.specs.Timer.{restarted, with_left, timed}
use Rattle.rules.specs.NoNumber.{unnumbered}
use Rattle.rules.specs.TakeAny.{first_marks, first}
use Rattle.rules.specs.Matching.{match}
use Rattle.rules.specs.declared.Traced.{Traced}
use Rattle.recovery.specs.Packets.{numbered, tracing, staying, settled, heard}
use Rattle.recovery.specs.LatentErrors.{rebased}
use Rattle.recovery.proofs.SoundLaws.{Sound, sound_by}
use Rattle.recovery.proofs.FirstLaws.{placed, keeps, keeps_opened, match_keeps}
use Rattle.recovery.proofs.RuleLaws.{by_take_any, by_vector, by_match, opens, carries}
use Rattle.rules.proofs.VectorKeeps.{set_first, vector_keeps}
use Rattle.rules.proofs.FirstKept.{first_kept}

pub cleared_sound : (setup : Setup) (counters : Counters) (base : ℕ) → in_range setup ≡ true → sound (cleared setup counters base) ≡ true
unfolding awaits keeps_first
cleared_sound setup counters base e =
    sound_by (cleared setup counters base)
    (record {
      in_range = e;
      clear_above = none_from setup.history;
      awaits_rightly = none_from 0;
      match_bare = rw (none_from 0) (or-true (is_vector setup));
      left_below = zero-le;
      first_kept = refl;
    })

-- take-any, and what holds when it is off, with other ticks left
abbrev awaiting : Bool → Bool → Bool → ℕ → Bool
awaiting take_any bare marked left = cond take_any bare (leb 1 left && marked)

awaits_on : (take_any bare marked : Bool) (left later : ℕ) → 1 ≤ later → awaiting take_any bare marked left ≡ true
    → awaiting take_any bare marked later ≡ true
awaits_on true bare marked left later p e = e
awaits_on false bare marked left later p e = and_true (le-leb 1 later p) (both (leb 1 left) marked e).1

-- the marks of a first number: mark 0 under vector, and none under match
record FirstMarks (vector : Bool) (h : ℕ) : Type 0 where
  fits : clear_from h (first_marks vector) ≡ true
  bare : (vector || clear_from 0 (first_marks vector)) ≡ true
  marked : (not vector || eqb (mark 0 (first_marks vector)) 1) ≡ true

marks_of_first : (vector : Bool) (h : ℕ) → 1 ≤ h → h ≤ most → FirstMarks vector h
unfolding first_marks
marks_of_first true h low high =
    let kept = set_first h low high none (none_from h) in
    record { fits = kept.0; bare = refl; marked = eq-eqb _ _ kept.1 }
marks_of_first false h low high = record { fits = none_from h; bare = none_from 0; marked = refl }

module _ (s : State) (ok : Sound s) where
  -- the state that a packet's effect leaves is sound
  abbrev After : Bool → ℕ → Traced → Effect → Type 0
  After take_any tagless trace effect = sound (settled s take_any tagless trace effect).state ≡ true

  pub history_low : 1 ≤ s.setup.history
  history_low = omega (arith, (ranges s.setup ok.in_range).history)

  pub history_high : s.setup.history ≤ most
  history_high = omega (arith, (ranges s.setup ok.in_range).history)

  -- ticks left after a packet are full ticks or those of before: what holds of both holds of them, in either use
  left_after : (P : ℕ → Type 0) (passes : Bool) → P (full_of s.setup).0 → P s.left.0 → P (restarted passes s.setup s.left).0
  unfolding restarted
  left_after P passes full before = either (λ (l : Left). P l.0) (passes || is_individual s.setup) (λ _. full) (λ _. before)

  full_some : 1 ≤ (full_of s.setup).0
  full_some = full_positive s.setup ok.in_range

  next_sound : (take_any : Bool) (tagless : ℕ) (trace : Traced) (effect : Effect)
      → clear_from s.setup.history effect.marks ≡ true
      → (is_vector s.setup || clear_from 0 effect.marks) ≡ true
      → awaits (settled s take_any tagless trace effect).state ≡ true
      → keeps_first s.setup effect.marks take_any trace.first ≡ true
      → After take_any tagless trace effect
  unfolding settled
  next_sound take_any tagless trace effect fits bare await keeps =
      sound_by (settled s take_any tagless trace effect).state
      (record {
        in_range = ok.in_range;
        clear_above = fits;
        awaits_rightly = await;
        match_bare = bare;
        left_below = left_after (λ (n : ℕ). n ≤ (full_of s.setup).0) effect.passes (le_refl _) ok.left_below;
        first_kept = keeps;
      })

  -- one without a number leaves all but ticks left and the counters
  still_sound : (effect : Effect) → effect.newest ≡ s.newest → effect.marks ≡ s.marks → After s.take_any 1 (staying s) effect
  unfolding settled awaits staying
  still_sound effect newest marks =
      let bare = eqb s.newest 65535 && clear_from 0 s.marks in
      let marked = not (is_vector s.setup) || eqb (mark 0 s.marks) 1 in
      next_sound s.take_any 1 (staying s) effect (rw marks ok.clear_above) (rw marks ok.match_bare)
      (rw (newest, marks)
      (left_after (λ (n : ℕ). awaiting s.take_any bare marked n ≡ true) effect.passes
      (awaits_on s.take_any _ _ s.left.0 _ full_some ok.awaits_rightly)
      ok.awaits_rightly))
      (rw marks ok.first_kept)

  tagless_sound : After s.take_any 1 (staying s) (unnumbered s.setup.taken s.newest s.marks)
  unfolding unnumbered
  tagless_sound =
      either (After s.take_any 1 (staying s)) (eqb s.setup.taken 1) (λ _. still_sound _ refl refl) (λ _. still_sound _ refl refl)

  -- a packet with a number leaves take-any off
  module _ (number : ℕ) where
    off_sound : (effect : Effect) → clear_from s.setup.history effect.marks ≡ true
        → (is_vector s.setup || clear_from 0 effect.marks) ≡ true
        → (not (is_vector s.setup) || eqb (mark 0 effect.marks) 1) ≡ true
        → 1 ≤ (restarted effect.passes s.setup s.left).0
        → keeps_first s.setup effect.marks false (tracing s number).first ≡ true
        → After false 0 (tracing s number) effect
    unfolding settled awaits
    off_sound effect fits bare marked left = next_sound false 0 (tracing s number) effect fits bare (and_true (le-leb 1 _ left) marked)

    first_sound : s.take_any ≡ true → After false 0 (tracing s number) (numbered s number)
    unfolding first restarted
    first_sound any =
        let m = marks_of_first (is_vector s.setup) s.setup.history history_low history_high in
        let marked : is_vector s.setup ≡ true → mark 0 (first_marks (is_vector s.setup)) ≡ 1 =
        λ v. rw v (eqb-true _ _ (rw v at m.marked)) in
        rw (by_take_any s number any)
        (off_sound (first (is_vector s.setup) number) m.fits m.bare m.marked full_some
        (rw (opens s number any) (keeps_opened s.setup (first_marks (is_vector s.setup)) history_low marked)))

    module _ (off : s.take_any ≡ false) where
      when_off : (leb 1 s.left.0 && (not (is_vector s.setup) || eqb (mark 0 s.marks) 1)) ≡ true
      unfolding awaits
      when_off = rw off at ok.awaits_rightly

      left_some : (passes : Bool) → 1 ≤ (restarted passes s.setup s.left).0
      left_some passes = left_after (λ (n : ℕ). 1 ≤ n) passes full_some (leb-true 1 _ (both (leb 1 s.left.0) _ when_off).0)

      vector_sound : is_vector s.setup ≡ true → After false 0 (tracing s number) (numbered s number)
      vector_sound v =
          let h = s.setup.history in
          let effect = vector h s.newest s.marks number in
          let marked : eqb (mark 0 s.marks) 1 ≡ true = rw v at (both (leb 1 s.left.0) _ when_off).1 in
          let kept = vector_keeps h history_low history_high s.newest s.marks (ok.clear_above, eqb-true _ _ marked) number in
          let here = placed s.setup v s.marks s.take_any s.first ok.first_kept in
          let there = first_kept h history_low history_high s.newest s.marks s.first number here in
          rw (by_vector s number off v)
          (off_sound effect kept.0 (rw v) (rw (v, eq-eqb _ _ kept.1)) (left_some effect.passes)
          (rw (carries s number off, by_vector s number off v) (keeps s.setup v effect.marks _ there)))

      match_sound : is_vector s.setup ≡ false → After false 0 (tracing s number) (numbered s number)
      unfolding match
      match_sound m =
          rw (by_match s number off m)
          (either (After false 0 (tracing s number)) (eqb number s.newest) (λ _. same _ refl) (λ _. same _ refl))
        where
          same : (effect : Effect) → effect.marks ≡ s.marks → After false 0 (tracing s number) effect
          same effect e =
              off_sound effect (rw e ok.clear_above) (rw e ok.match_bare) (rw m) (left_some effect.passes)
              (rw (carries s number off) (match_keeps s.setup s.marks _ s.first m ok.first_kept effect.marks _ _))

    numbered_sound : After false 0 (tracing s number) (numbered s number)
    numbered_sound =
        by_cases s.take_any first_sound (λ off. by_cases (is_vector s.setup) (vector_sound off) (match_sound off))

  pub heard_sound : (packet : Packet) → sound (heard s packet).state ≡ true
  unfolding heard
  heard_sound (Numbered number) = numbered_sound number
  heard_sound Tagless = tagless_sound

  pub reset_sound : sound (reset_state s) ≡ true
  unfolding reset_state
  reset_sound = cleared_sound _ _ _ ok.in_range

  pub timed_sound : sound (timed s).state ≡ true
  unfolding timed reset_state awaits
  timed_sound =
      either still (eqb s.left.0 0)
      (λ _. sound_by s ok)
      (λ some. either still (eqb s.left.0 1) (λ _. cleared_sound _ _ _ ok.in_range) (λ more. less some more))
    where
      still : Stepped Ticked → Type 0
      still r = sound r.state ≡ true

      less : eqb s.left.0 0 ≡ false → eqb s.left.0 1 ≡ false → sound (with_left (s.left.0 - 1) s) ≡ true
      less some more =
          let two : 2 ≤ s.left.0 = omega (arith, eqb-false s.left.0 0 some, eqb-false s.left.0 1 more) in
          sound_by (with_left (s.left.0 - 1) s)
          (record {
            in_range = ok.in_range;
            clear_above = ok.clear_above;
            awaits_rightly = awaits_on s.take_any _ _ s.left.0 (s.left.0 - 1) (omega arith) ok.awaits_rightly;
            match_bare = ok.match_bare;
            left_below = omega (arith, ok.left_below);
            first_kept = ok.first_kept;
          })

  pub rebased_sound : sound (rebased s) ≡ true
  unfolding rebased sound parts_agree awaits
  rebased_sound = sound_by s ok
