-- A sender that is stuck on one number, in individual use (CR 2): "A stuck sender repeated one number and our timer ran out under it,
-- letting the repeat through". The claim is `RepeatsDiscarded`: its repeats never pass, under either rule and for every setup. Each step is
-- one call, of which only that call's promise is known. Assumes nothing.
use Rattle.std.specs.Prelude.{ℕ, ◌+◌, ◌<◌, ◌≡◌, true, Ok}
use Rattle.setup.specs.Range.{is_individual, full_of}
use Rattle.recovery.specs.declared.State.{State}
use Rattle.recovery.specs.declared.Packet.TheVariants.{Numbered}
use Rattle.recovery.specs.declared.Stepped.{Stepped}
use Rattle.recovery.specs.declared.Verdict.{Verdict}
use Rattle.recovery.specs.declared.Verdict.TheVariants.{Discard}
use Rattle.recovery.specs.declared.Ticked.{Ticked}
use Rattle.recovery.specs.Soundness.{sound}
use Rattle.recovery.specs.Packets.{Hears}
use Rattle.recovery.specs.Timer.{Times}

-- the number is heard at any sound state, and after it ticks and the same number alone: `silence` is how many ticks there were since it was
-- heard last, and never full ticks
pub data Repeats (number : ℕ) : (silence : ℕ) → State → Type 0 where
  begins : (s : State) {r : Stepped Verdict} → sound s ≡ true → is_individual s.setup ≡ true → Hears s (Numbered number) r
      → Repeats number 0 r.state
  ticks : {silence : ℕ} {s : State} {r : Stepped Ticked} → Repeats number silence s → silence + 1 < (full_of s.setup).0 → Times s r
      → Repeats number (silence + 1) r.state
  repeats : {silence : ℕ} {s : State} {r : Stepped Verdict} → Repeats number silence s → Hears s (Numbered number) r → Repeats number 0 r.state

-- whatever became of the number at first, its repeat is discarded. A claim, which proofs/Repeats proves
abbrev pub RepeatsDiscarded : Type 0
RepeatsDiscarded =
    (number silence : ℕ) (s : State) (r : Stepped Verdict) → Repeats number silence s → Hears s (Numbered number) r → r.answer ≡ Ok Discard
