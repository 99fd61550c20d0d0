-- A state that is not sound is refused, and its words stay: the state comes back as it was, and so do the words that held it.
-- Assumes nothing.
use Prim.Native.Nat.{ℕ}
use mathlib.Core.Path.{◌≡◌, refl, ◌∙◌}
use mathlib.Core.Bool.{true, false, cond}
use mathlib.Core.List.{List}
use Rattle.octets.specs.Copy.{put_in}
use Rattle.octets.proofs.Bools.{either}
use Rattle.recovery.specs.Soundness.{sound}
use Rattle.calls.specs.declared.Call.{Call}
use Rattle.calls.specs.Answering.{answered}
use Rattle.calls.proofs.UnsoundStays.{unsound_stays}
use Rattle.states.specs.Fields.{held, state_of, words_of}
use Rattle.states.proofs.SameWords.{same-words}
use Rattle.recovery_c.specs.Recoveries.{WordsKept}

pub kept : (w : List ℕ) (call : Call) → (held w ≡ true → sound (state_of w) ≡ false)
    → cond (held w) (put_in (words_of (answered (state_of w) call).state) w) w ≡ w
kept w call unsound =
    either (λ (l : List ℕ). l ≡ w) (held w)
    (λ here. rw (unsound_stays (state_of w) (unsound here) call) (same-words w here))
    (λ _. refl)

pub words_kept : WordsKept
words_kept w call r later unsound p = p.words ∙ kept w call (λ _. unsound)
