-- A whole tape, and the promise of `run` (document 01, "The bench tape"). Assumes nothing.
use Rattle.std.specs.Prelude.{ℕ, zero, suc, ◌+◌, ◌≤◌, ◌≡◌, not, List, [], ◌∷◌, ◌++◌, length, get_or, take, ltb, Option, Some, None, Result, Ok, Err}
use Rattle.octets.specs.declared.Refusal.{Refusal}
use Rattle.octets.specs.declared.Refusal.TheVariants.{OutputShort, TapeLong}
use Rattle.octets.specs.Refusals.{number}
use Rattle.octets.specs.Copy.{fits, output_by}
use Rattle.octets.specs.Checks.{Check, ◌⇒◌, Verdict, good, refuse, verdict, answered}
use Rattle.recovery.specs.declared.State.{State}
use Rattle.counters.specs.declared.Counters.{Counters}
use Rattle.lines.specs.Lines.{text, fault_text, counters_text}
use Rattle.events.specs.Event.{width}
use Rattle.turns.specs.declared.Outcome.{Outcome}
use Rattle.turns.specs.declared.Outcome.TheVariants.{Next, End}
use Rattle.turns.specs.Turn.{outcome_at}

-- "eight 64-bit counters (passed, discarded, order, rogue, lost, tagless, resets, latent-resets)", in the order of the last line, and
-- CR 7's "ninth counter, before-first"
unfoldable pub figures : Counters → List ℕ
figures k =
    k.passed
    ∷ k.discarded
    ∷ k.order
    ∷ k.rogue
    ∷ k.lost
    ∷ k.tagless
    ∷ k.resets
    ∷ k.latent_resets
    ∷ k.before_first
    ∷ []

-- an event's line, and then what follows from the next state; a fault, and the counters, end the output
abbrev pub followed : Result Outcome Refusal → (State → List ℕ) → List ℕ
followed (Ok (Next line s)) rest = text line ++ rest s
followed (Ok (End k)) rest = counters_text (figures k)
followed (Err refusal) rest = fault_text (number refusal)

-- the lines from a place on, cut off after n of them
unfoldable pub lines_from : ℕ → List ℕ → ℕ → Option State → List ℕ
lines_from zero tape at bench = []
lines_from (suc n) tape at bench =
    followed (outcome_at tape at bench) (λ (s : State). lines_from n tape (at + 1 + width (get_or tape at 0)) (Some s))

-- the lines of a whole tape: an event is one octet at least, so one line more than there are octets is always enough
unfoldable pub played : List ℕ → List ℕ
played tape = lines_from (length tape + 1) tape 0 None

-- "A program reads a tape of at most 4,096 octets": "tape over 4,096"; "26 is checked before all else on a tape"
unfoldable pub tape_checks : List ℕ → List Check
tape_checks tape = ltb 4096 (length tape) ⇒ TapeLong ∷ []

-- a fault of the whole tape is its one line
abbrev pub unless_refused : Verdict → List ℕ → List ℕ
unless_refused good output = output
unless_refused (refuse refusal) output = fault_text (number refusal)

-- the output of any tape
unfoldable pub output_of : List ℕ → List ℕ
output_of tape = unless_refused (verdict (tape_checks tape)) (played tape)

-- how long is always enough: 13 octets for each event, and the last line
abbrev pub enough : ℕ
enough = 53513

-- what the contracts within this crate cite: the first n octets of the page are the text
pub record PageHolds (text : List ℕ) (n : ℕ) (page : List ℕ) : Type 0 where
  pub within : n ≤ length page
  pub texts : take n page ≡ text

-- "output shorter than result"
unfoldable pub run_checks : List ℕ → List ℕ → List Check
run_checks tape out = not (fits (output_of tape) out) ⇒ OutputShort ∷ []

-- the promise of `run`: the output at the start of the buffer, with its length; a refusal leaves the buffer as it was
pub record Runs (tape out : List ℕ) (r : Result ℕ Refusal) (later : List ℕ) : Type 0 where
  pub answer : r ≡ answered (verdict (run_checks tape out)) (length (output_of tape))
  pub buffer : later ≡ output_by (verdict (run_checks tape out)) (output_of tape) out
  pub suffices : length (output_of tape) ≤ enough

-- `enough` is enough: a buffer of so many octets is never refused. A claim, which proofs/Ran proves
abbrev pub EnoughRoom : Type 0
EnoughRoom =
    (tape out : List ℕ) (r : Result ℕ Refusal) (later : List ℕ) → Runs tape out r later → enough ≤ length out
    → r ≡ Ok (length (output_of tape))
