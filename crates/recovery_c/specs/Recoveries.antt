-- Document 01, "Numbering and recovery", for C: what the calls on a state answer and write. That is the number of an answer of `calls`, and
-- the words of `states` that hold the next state, in place of the first lent ones; later ones stay. Assumes nothing.
use Rattle.std.specs.Prelude.{ℕ, ◌≡◌, false, cond, not, List, [], ◌∷◌, ◌++◌}
use Rattle.octets.specs.declared.Refusal.TheVariants.{OutputShort, Unsound}
use Rattle.octets.specs.Refusals.{number}
use Rattle.octets.specs.Copy.{fits, put_in, output_by}
use Rattle.octets.specs.Checks.{Check, ◌⇒◌, verdict, refusal}
use Rattle.setup.specs.declared.Setup.{Setup}
use Rattle.setup.specs.Range.{setup_checks}
use Rattle.recovery.specs.Soundness.{sound}
use Rattle.recovery.specs.Resets.{fresh_state}
use Rattle.calls.specs.declared.Call.{Call}
use Rattle.calls.specs.declared.Call.TheVariants.{LatentTest}
use Rattle.calls.specs.Answering.{answered}
use Rattle.answers.specs.Numbers.{code_of}
use Rattle.states.specs.Fields.{held, state_of, words_of}

-- the promise of every step, `ahz_numbered`, `ahz_tagless`, `ahz_tick`, `ahz_reset` and `ahz_latent_reset`: of the state that the words
-- hold, the answer, and the next state's words; words that hold no state are 14, as is a "state not sound", and stay
pub record StepsTo (call : Call) (w : List ℕ) (r : ℕ) (later : List ℕ) : Type 0 where
  pub answer : r ≡ cond (held w) (code_of (answered (state_of w) call).answer) (number Unsound)
  pub words : later ≡ cond (held w) (put_in (words_of (answered (state_of w) call).state) w) w

-- "state and buffers keep their values": the words of a state that is not sound stay, whatever the step. A claim, which proofs/Kept proves
abbrev pub WordsKept : Type 0
WordsKept = (w : List ℕ) (call : Call) (r : ℕ) (later : List ℕ) → sound (state_of w) ≡ false → StepsTo call w r later → later ≡ w

-- of `ahz_latent_test`, which is lent words that it cannot write
abbrev pub TestsTo : List ℕ → ℕ → Type 0
TestsTo w r = r ≡ cond (held w) (code_of (answered (state_of w) LatentTest).answer) (number Unsound)

-- "A setup is checked 15, 27, 16 to 19 wherever it is handed in by itself"; then 8: "output shorter than result"
unfoldable pub begin_checks : Setup → List ℕ → List Check
begin_checks setup w = setup_checks setup ++ (not (fits (words_of (fresh_state setup)) w) ⇒ OutputShort ∷ [])

-- of `ahz_fresh_v4`: the words of the fresh state
pub record BeginsTo (setup : Setup) (w : List ℕ) (r : ℕ) (later : List ℕ) : Type 0 where
  pub answer : r ≡ refusal (verdict (begin_checks setup w))
  pub words : later ≡ output_by (verdict (begin_checks setup w)) (words_of (fresh_state setup)) w
