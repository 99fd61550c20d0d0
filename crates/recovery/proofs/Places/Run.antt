-- What the state keeps over a span: it is sound, its setup is the start's, and its newest number, marks and counters stand for the places.
-- Assumes nothing.
use Rattle.std.specs.Prelude.{Ok}
use mathlib.Core.Path.{◌≡◌, refl, ap, ◌∙◌}
use mathlib.Core.Bool.{Bool, true, cond}
use mathlib.Core.List.{List, []}
use Prim.Native.Nat.{ℕ, ◌+◌, ◌≤◌, ◌<◌}
use native.Mathlib.Nat.{add_assoc, add-zero}
use native.Mathlib.Omega.{arith}
use lib.Dec.{eqb}
use lib.ListN.{length}
use Rattle.setup.specs.declared.Setup.{Setup}
use Rattle.recovery.specs.declared.State.{State}
use Rattle.recovery.specs.declared.Packet.TheVariants.{Numbered, Tagless}
use Rattle.recovery.specs.declared.Stepped.{Stepped}
use Rattle.recovery.specs.declared.Verdict.{Verdict}
use Rattle.recovery.specs.declared.Verdict.TheVariants.{Pass, Discard}
use Rattle.recovery.specs.declared.Ticked.TheVariants.{Reset}
use Rattle.marks.specs.Window.{most}
use Rattle.setup.specs.Range.{is_vector}
use Rattle.recovery.specs.Soundness.{sound}
use Rattle.recovery.specs.Packets.{numbered, tracing, staying, settled, heard, packet_of, Hears}
use Rattle.recovery.specs.Timer.{tick_of}
use Rattle.recovery.specs.LatentErrors.{rebased, latent_reset_of}
use Rattle.rules.specs.NoNumber.{unnumbered}
use Rattle.rules.specs.FirstPlace.{standing_after}
use Rattle.rules.specs.Places.{passes, after, lost, before_first}
use Rattle.counters.specs.Growth.{Grown}
use Rattle.counters.proofs.Growth.{packets_grow, grown_more}
use Rattle.setup.proofs.InRange.{ranges}
use Rattle.recovery.proofs.SoundLaws.{Sound, sound_says}
use Rattle.recovery.proofs.SoundCalls.{packet_answers, tick_answers, latent_reset_answers}
use Rattle.recovery.proofs.SoundKept.{heard_sound, timed_sound, rebased_sound}
use Rattle.rules.proofs.Places.Step.{Obeys, lost_none}
use Rattle.rules.proofs.Places.Before.{Keeps, none_before_first}
use Rattle.recovery.proofs.Places.OnePacket.{Stands, stands_of, stands_there, numbered_obeys, tracing_keeps, one_more, untouched}
use Rattle.recovery.proofs.Places.Quiet.{Alike, tick_alike, latent_alike}

pub record Tracks (start : State) (ps : List ℕ) (tags : ℕ) (s : State) : Type 0 where
  pub still_sound : sound s ≡ true
  pub same_setup : s.setup ≡ start.setup
  pub stands : Stands start.setup.history ps s.take_any s.newest s.marks s.first
  pub passed_grown : Grown start.counters.passed (length ps + tags) s.counters.passed
  pub lost_grown : Grown start.counters.lost (lost start.setup.history ps) s.counters.lost
  pub before_grown : Grown start.counters.before_first (before_first start.setup.history ps) s.counters.before_first

module _ (start : State) (rule : is_vector start.setup ≡ true) where
  abbrev h : ℕ
  h = start.setup.history

  pub starts_tracks : sound start ≡ true → start.take_any ≡ true → Tracks start [] 0 start
  starts_tracks fine any =
      record {
        still_sound = fine;
        same_setup = refl;
        stands = any;
        passed_grown = rw (add-zero start.counters.passed);
        lost_grown = rw (lost_none h, add-zero start.counters.lost);
        before_grown = rw (none_before_first h, add-zero start.counters.before_first);
      }

  module _ (ps : List ℕ) (tags : ℕ) (s : State) (track : Tracks start ps tags s) where
    ok : Sound s
    ok = sound_says s track.still_sound

    -- all that the places ask of the history length
    pub range : (1 ≤ h) × (h ≤ most)
    range = omega (arith, rw track.same_setup at (ranges s.setup ok.in_range).history)

    same_history : s.setup.history ≡ h
    same_history = ap (λ (c : Setup). c.history) track.same_setup

    pub first_there : s.first ≡ standing_after h ps
    first_there = stands_there s h ps ok track.stands

    numbered_there : (number : ℕ) → number < 65536 → Obeys h ps number (numbered s number)
    numbered_there number bits =
        numbered_obeys s h ps number same_history (rw track.same_setup rule) range.0 range.1 bits track.stands

    pub verdict_there : (number : ℕ) (r : Stepped Verdict) → number < 65536 → Hears s (Numbered number) r
        → r.answer ≡ Ok (cond (passes h ps number) Pass Discard)
    unfolding heard settled
    verdict_there number r bits e =
        rw (e, packet_answers s track.still_sound (Numbered number))
        (ap (λ (t : Bool). Ok (cond t Pass Discard)) (numbered_there number bits).verdict)

    pub numbered_tracks : (number : ℕ) → number < 65536 → Tracks start (after h ps number) tags (packet_of s (Numbered number)).state
    unfolding heard settled
    numbered_tracks number bits =
        let st : Obeys h ps number (numbered s number) = numbered_there number bits in
        let trace = tracing s number in
        let kept : Keeps h ps (after h ps number) trace =
        tracing_keeps s h ps number same_history (rw track.same_setup rule) range.0 range.1 track.stands st in
        let grows = packets_grow s.counters 0 trace.holes (numbered s number) in
        let more : ℕ = cond (numbered s number).passes 1 0 in
        let sum : length ps + more + tags ≡ length ps + tags + more = omega arith in
        rw (packet_answers s track.still_sound (Numbered number))
        (record {
          still_sound = heard_sound s ok (Numbered number);
          same_setup = track.same_setup;
          stands = stands_of h (after h ps number) _ _ _ st.follows kept.stands;
          passed_grown = rw (one_more h ps number, ← st.verdict, sum) (grown_more _ _ _ _ _ track.passed_grown grows.passed_grown);
          lost_grown = rw st.loses (grown_more _ _ _ _ _ track.lost_grown grows.lost_grown);
          before_grown = rw kept.holes_grown (grown_more _ _ _ _ _ track.before_grown grows.before_grown);
        })

    pub tagless_tracks : Tracks start ps (tags + cond (eqb start.setup.taken 1) 1 0) (packet_of s Tagless).state
    unfolding heard settled staying
    tagless_tracks =
        let effect = unnumbered s.setup.taken s.newest s.marks in
        let still = untouched s.setup.taken s.newest s.marks in
        let grows = packets_grow s.counters 1 0 effect in
        let more : ℕ = cond effect.passes 1 0 in
        let if_taken : more ≡ cond (eqb start.setup.taken 1) 1 0 = rw (still.if_taken, track.same_setup) in
        let none : lost h ps + effect.lost ≡ lost h ps = rw still.loses_none (add-zero (lost h ps)) in
        rw (packet_answers s track.still_sound Tagless)
        (record {
          still_sound = heard_sound s ok Tagless;
          same_setup = track.same_setup;
          stands = rw (still.same_newest, still.same_marks) track.stands;
          passed_grown =
              rw (← if_taken, ← add_assoc (length ps) tags more) (grown_more _ _ _ _ _ track.passed_grown grows.passed_grown);
          lost_grown = rw (← none) (grown_more _ _ _ _ _ track.lost_grown grows.lost_grown);
          before_grown = rw (← add-zero (before_first h ps)) (grown_more _ _ _ _ _ track.before_grown grows.before_grown);
        })

    -- what leaves all that as it was keeps it
    alike_tracks : (next : State) → Alike s next → sound next ≡ true → Tracks start ps tags next
    alike_tracks next same fine =
        record {
          still_sound = fine;
          same_setup = same.0 ∙ track.same_setup;
          stands = rw (same.1, same.2, same.3, same.4) track.stands;
          passed_grown = rw same.5 track.passed_grown;
          lost_grown = rw same.6 track.lost_grown;
          before_grown = rw same.7 track.before_grown;
        }

    pub tick_tracks : ((tick_of s).answer ≡ Ok Reset → ⊥) → Tracks start ps tags (tick_of s).state
    tick_tracks on =
        alike_tracks (tick_of s).state (tick_alike s track.still_sound on) (rw (tick_answers s track.still_sound) (timed_sound s ok))

    pub latent_tracks : Tracks start ps tags (latent_reset_of s).state
    latent_tracks = rw (latent_reset_answers s track.still_sound) (alike_tracks (rebased s) (latent_alike s) (rebased_sound s ok))
