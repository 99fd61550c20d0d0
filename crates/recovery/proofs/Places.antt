-- Demand 3 (`PlacesAccounted` of `specs/Spans`), shown of the calls. That single packets obey the places is shown in `rules`
-- (proofs/Places); here it is carried over a whole span of calls. Assumes nothing.
use mathlib.Core.Path.{◌≡◌}
use mathlib.Core.Bool.{true}
use mathlib.Core.List.{List, ◌∷◌}
use Prim.Native.Nat.{◌≤◌}
use native.Mathlib.Omega.{arith}
use Rattle.recovery.specs.declared.State.{State}
use Rattle.recovery.specs.declared.Packet.{Packet}
use Rattle.recovery.specs.declared.Packet.TheVariants.{Numbered, Tagless}
use Rattle.marks.specs.Window.{most}
use Rattle.setup.specs.Range.{is_vector}
use Rattle.recovery.specs.Packets.{packet_of}
use Rattle.rules.specs.Places.{passed}
use Rattle.recovery.specs.Spans.{Span, starts, hears, ticks, latent-resets, latent_tests, SixteenBits, numbers, taken}
use Rattle.recovery.specs.Spans.{PlacesAccounted}
use Start.{started}
use Run.{Tracks, starts_tracks, numbered_tracks, tagless_tracks, tick_tracks, latent_tracks, range, first_there, verdict_there}
use Rattle.rules.proofs.Places.Sum.{sum_closes}
use Rattle.rules.proofs.Places.Parts.{lost_parted}
use Rattle.counters.proofs.Growth.{grown_apart}
-- to be read in this order: one packet at a sound state; ticks and latent resets, which leave the places alone; what the state keeps over a
-- span; and where a span starts
pub mod OnePacket
pub mod Quiet
pub mod Run
pub mod Start

-- what the state keeps, after these packets
After : State → List Packet → State → Type 0
After start packets s = Tracks start (passed start.setup.history (numbers packets)) (taken start.setup packets) s

module _ (start : State) (rule : is_vector start.setup ≡ true) where
  heard_after : (packets : List Packet) (s : State) (p : Packet) → SixteenBits p → After start packets s
      → After start (p ∷ packets) (packet_of s p).state
  unfolding After numbers passed taken
  heard_after packets s (Numbered number) bits track = numbered_tracks start rule _ _ s track number bits
  heard_after packets s Tagless bits track = tagless_tracks start rule _ _ s track

  run : (packets : List Packet) (s : State) → Span start packets s → After start packets s
  unfolding After numbers passed taken
  run packets s (starts b) = starts_tracks start rule (started start b).0 (started start b).1
  run packets s (hears {packets = older} {s = t} {p = p} span bits e) = rw e (heard_after older t p bits (run older t span))
  run packets s (ticks {s = t} span e on) = rw e (tick_tracks start rule _ _ t (run packets t span) (rw e at on))
  run packets s (latent-resets {s = t} span e) = rw e (latent_tracks start rule _ _ t (run packets t span))
  run packets s (latent_tests span e) = run packets s span

pub places_accounted : PlacesAccounted
unfolding After
places_accounted start packets s rule span =
    let track : After start packets s = run start rule packets s span in
    let h : (1 ≤ start.setup.history) × (start.setup.history ≤ most) = range start rule _ _ s track in
    let parted = lost_parted start.setup.history (numbers packets) (omega arith) (omega arith) in
    record {
      next = verdict_there start rule _ _ s track;
      passed_grown = track.passed_grown;
      lost_grown = track.lost_grown;
      first_stands = first_there start rule _ _ s track;
      before_grown = track.before_grown;
      lost_parted = parted;
      above_grown = grown_apart _ _ _ _ _ _ (rw parted at track.lost_grown) track.before_grown;
      sum_closes = sum_closes start.setup.history (numbers packets) (omega arith) (omega arith);
    }
