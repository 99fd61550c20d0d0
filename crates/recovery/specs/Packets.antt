-- A packet by its rule, and the next state (document 01, "Numbering and recovery", and CR 7). Assumes nothing.
use Rattle.std.specs.Prelude.{ℕ, ◌≡◌, Bool, false, cond, Ok}
use Rattle.setup.specs.Range.{is_vector}
use Rattle.rules.specs.declared.Effect.{Effect}
use Rattle.rules.specs.NoNumber.{unnumbered}
use Rattle.rules.specs.ByRule.{by_rule}
use Rattle.rules.specs.declared.Traced.{Traced}
use Rattle.rules.specs.FirstPlace.{traced}
use Rattle.counters.specs.Counting.{counted}
use Rattle.recovery.specs.declared.State.{State}
use Rattle.recovery.specs.declared.Packet.{Packet}
use Rattle.recovery.specs.declared.Packet.TheVariants.{Numbered, Tagless}
use Rattle.recovery.specs.declared.Stepped.{Stepped}
use Rattle.recovery.specs.declared.Verdict.{Verdict}
use Rattle.recovery.specs.declared.Verdict.TheVariants.{Pass, Discard}
use Rattle.recovery.specs.Soundness.{step_of}
use Rattle.recovery.specs.Timer.{restarted}

-- a packet with a number: "take-any", else by the rule of the setup
unfoldable pub numbered : State → ℕ → Effect
numbered s number = by_rule (is_vector s.setup) s.setup.history s.take_any s.newest s.marks number

-- CR 7: what becomes of the first place with it, and the holes that the window leaves below it
unfoldable pub tracing : State → ℕ → Traced
tracing s number =
    traced (is_vector s.setup) s.setup.history s.take_any s.newest s.marks s.first (numbered s number).newest

-- a packet without a number leaves the first place where it stands
unfoldable pub staying : State → Traced
staying s = record { first = s.first; holes = 0 }

-- the verdict and the whole next state, of the state, its next take-any, how many packets had no number, what becomes of the first place,
-- and what the packet does
unfoldable pub settled : State → Bool → ℕ → Traced → Effect → Stepped Verdict
settled s take_any tagless trace effect =
    record {
      answer = Ok (cond effect.passes Pass Discard);
      state = record {
        setup = s.setup;
        newest = effect.newest;
        marks = effect.marks;
        first = trace.first;
        take_any = take_any;
        left = restarted effect.passes s.setup s.left;
        counters = counted s.counters tagless trace.holes effect;
        base = s.base;
      };
    }

-- a packet at a sound state; one with a number leaves take-any off
unfoldable pub heard : State → Packet → Stepped Verdict
heard s (Numbered number) = settled s false 0 (tracing s number) (numbered s number)
heard s Tagless = settled s s.take_any 1 (staying s) (unnumbered s.setup.taken s.newest s.marks)

-- the call `packet`
unfoldable pub packet_of : State → Packet → Stepped Verdict
packet_of s packet = step_of s (heard s packet)

-- the promise of `State::packet`
abbrev pub Hears : State → Packet → Stepped Verdict → Type 0
Hears s packet r = r ≡ packet_of s packet
