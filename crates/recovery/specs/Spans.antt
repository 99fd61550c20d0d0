-- A span, and what the third demand says of it: "Under the vector rule, from a fresh start or a reset (a timeout is one, a latent reset is
-- not) to the next". Each of its steps is one call, of which only that call's promise is known. The demand itself is the claim
-- `PlacesAccounted`, at the end, which proofs/Places proves; what a place is, and which are passed, lost and open, is said in
-- `specs/Places` of the room `rules`. Assumes nothing.
use Rattle.std.specs.Prelude.{ℕ, ◌+◌, ◌<◌, ◌≡◌, true, cond, List, [], ◌∷◌, eqb, length, Result, Ok}
use Rattle.octets.specs.declared.Refusal.{Refusal}
use Rattle.setup.specs.declared.Setup.{Setup}
use Rattle.setup.specs.Range.{is_vector}
use Rattle.recovery.specs.declared.State.{State}
use Rattle.recovery.specs.declared.Stepped.{Stepped}
use Rattle.recovery.specs.declared.Packet.{Packet}
use Rattle.recovery.specs.declared.Packet.TheVariants.{Numbered, Tagless}
use Rattle.recovery.specs.declared.Verdict.{Verdict}
use Rattle.recovery.specs.declared.Verdict.TheVariants.{Pass, Discard}
use Rattle.recovery.specs.declared.Ticked.{Ticked}
use Rattle.recovery.specs.declared.Ticked.TheVariants.{Reset}
use Rattle.recovery.specs.declared.Latent.{Latent}
use Rattle.recovery.specs.Resets.{Begins, Resets}
use Rattle.recovery.specs.Packets.{Hears}
use Rattle.recovery.specs.Timer.{Times}
use Rattle.recovery.specs.LatentErrors.{LatentResets, LatentTests}
use Rattle.counters.specs.Growth.{Grown}
use Rattle.rules.specs.FirstPlace.{standing_after}
use Rattle.rules.specs.Places.{passes, passed, lost, before_first, lost_above, Parted, Closes}

-- the state that a fresh start, a reset or a timeout hands back
pub data Starts : State → Type 0 where
  fresh : (setup : Setup) {s : State} → Begins setup (Ok s) → Starts s
  reset : (s : State) {r : Stepped Unit} → Resets s r → r.answer ≡ Ok tt → Starts r.state
  timeout : (s : State) {r : Stepped Ticked} → Times s r → r.answer ≡ Ok Reset → Starts r.state

-- a packet's number has 16 bits
abbrev pub SixteenBits : Packet → Type 0
SixteenBits (Numbered number) = number < 65536
SixteenBits Tagless = Unit

-- the packets since the start, latest first, and the state after them: between packets there may be ticks that do not time out, latent
-- resets and latent tests
pub data Span (start : State) : List Packet → State → Type 0 where
  starts : Starts start → Span start [] start
  hears : {packets : List Packet} {s : State} {p : Packet} {r : Stepped Verdict} →
      Span start packets s → SixteenBits p → Hears s p r → Span start (p ∷ packets) r.state
  ticks : {packets : List Packet} {s : State} {r : Stepped Ticked} →
      Span start packets s → Times s r → (r.answer ≡ Ok Reset → ⊥) → Span start packets r.state
  latent-resets : {packets : List Packet} {s : State} {r : Stepped Unit} →
      Span start packets s → LatentResets s r → Span start packets r.state
  latent_tests : {packets : List Packet} {s : State} {r : Result Latent Refusal} →
      Span start packets s → LatentTests s r → Span start packets s

-- the numbers of the numbered packets
unfoldable pub numbers : List Packet → List ℕ
numbers [] = []
numbers (Numbered number ∷ older) = number ∷ numbers older
numbers (Tagless ∷ older) = numbers older

-- "passed also by packets taken without a number": how many there are
unfoldable pub taken : Setup → List Packet → ℕ
taken setup [] = 0
taken setup (Numbered number ∷ older) = taken setup older
taken setup (Tagless ∷ older) = taken setup older + cond (eqb setup.taken 1) 1 0

-- the demand of the state after the packets, with `places` those that the places' rule lets pass
pub record Accounted (h : ℕ) (places : List ℕ) (start : State) (packets : List Packet) (s : State) : Type 0 where
  -- "A numbered packet passes exactly if ..": the next one gets the verdict that the places say, whatever its number
  pub next : (number : ℕ) (r : Stepped Verdict) → number < 65536 → Hears s (Numbered number) r
      → r.answer ≡ Ok (cond (passes h places number) Pass Discard)
  -- "stored passed and lost grow by these counts modulo 2^64, passed also by packets taken without a number"
  pub passed_grown : Grown start.counters.passed (length places + taken start.setup packets) s.counters.passed
  pub lost_grown : Grown start.counters.lost (lost h places) s.counters.lost
  -- CR 7, "The state keeps what it needs": where in the window the first packet's place stands
  pub first_stands : s.first ≡ standing_after h places
  -- before-first grows by "those of them below the first packet's place"
  pub before_grown : Grown start.counters.before_first (before_first h places) s.counters.before_first
  -- "lost less before-first, over the span, counts only places above the first": of the places; and of the stored counters, by sums, so
  -- that nothing is subtracted
  pub lost_parted : Parted h places
  pub above_grown : Grown (start.counters.lost + s.counters.before_first) (lost_above h places)
      (s.counters.lost + start.counters.before_first)
  -- "And the sum closes"
  pub sum_closes : Closes h places

-- "All this is counted from the list of packets alone": the places that passed are those of the numbers in it
abbrev pub Accounts : State → List Packet → State → Type 0
Accounts start packets s = Accounted start.setup.history (passed start.setup.history (numbers packets)) start packets s

-- Demand 3: "Under the vector rule", for every history length that a setup allows, every first number and a span of any length. What has
-- happened in a span up to any one event is a span, so "it holds after each event"
abbrev pub PlacesAccounted : Type 0
PlacesAccounted =
    (start : State) (packets : List Packet) (s : State) → is_vector start.setup ≡ true → Span start packets s → Accounts start packets s
