-- From a promise of the room to the promise of its call for C: the answer as a number, and what is lent afterwards. Assumes nothing.
use Prim.Native.Nat.{ℕ}
use mathlib.Core.Path.{◌≡◌, refl, ◌∙◌}
use mathlib.Core.Bool.{true, false≢true, cond}
use mathlib.Core.List.{List, []}
use Rattle.std.specs.Prelude.{Option, Some, None, Result, Ok, Err, is_ok, unwrap_or, take}
use Rattle.octets.specs.declared.Refusal.{Refusal}
use Rattle.octets.specs.declared.Refusal.TheVariants.{OutputShort}
use Rattle.octets.specs.Copy.{fits}
use Rattle.octets.specs.Checks.{Verdict, verdict, good, refuse}
use Rattle.octets.proofs.Bools.{one_if}
use Rattle.octets.proofs.Order.{first_check}
use Rattle.frame.specs.Reader.{header}
use Rattle.frame.proofs.Accepted.{frame_good, read_refused, read_good}
use Rattle.encoding.specs.declared.Encoding.{Encoding}
use Rattle.encoding.specs.declared.Sequence.{Sequence}
use Rattle.encoding.specs.declared.Packet.{Packet}
use Rattle.encoding.specs.Encodings.{number_of, path_of, sequence}
use Rattle.encoding.specs.Reader.{reading_in}
use Rattle.encoding.proofs.Answered.{header_of, refusal_of}
use Rattle.frame_c.specs.Frames.{header_words, written, record_checks}

-- what counts as the number and the id without one
pub number_told : (s : Option Sequence) → (unwrap_or s (record { number = 0; path = 0 })).number ≡ number_of s
number_told None = refl
number_told (Some s) = refl

pub path_told : (s : Option Sequence) → (unwrap_or s (record { number = 0; path = 0 })).path ≡ path_of s
path_told None = refl
path_told (Some s) = refl

-- the verdict as the code comes to it, by the answer of reading, and the words
abbrev pub words_by : Result Packet Refusal → ℕ → List ℕ
words_by (Ok p) n = take n (header_words p.header p.sequence)
words_by (Err k) n = []

abbrev pub record_by : Result Packet Refusal → ℕ → List ℕ → Verdict
record_by (Ok p) n out = cond (fits (words_by (Ok p) n) out) good (refuse OutputShort)
record_by (Err k) n out = refuse k

module _ (e : Encoding) (n : ℕ) (o : List ℕ) where
  words_told_by : (r : Result Packet Refusal) → r ≡ reading_in e o → is_ok r ≡ true → written n (header o) (sequence e o) ≡ words_by r n
  unfolding written
  words_told_by (Ok p) q t = let told = header_of e o q in rw ((frame_good o told.0).1, told.1) refl
  words_told_by (Err k) q t = absurd (false≢true t)

  pub words_told : is_ok (reading_in e o) ≡ true → written n (header o) (sequence e o) ≡ words_by (reading_in e o) n
  words_told = words_told_by (reading_in e o) refl

  module _ (out : List ℕ) where
    decided_by : (r : Result Packet Refusal) → r ≡ reading_in e o → verdict (record_checks e n o out) ≡ record_by r n out
    unfolding record_checks verdict
    decided_by (Ok p) q =
        read_good o _ (header_of e o q).0
        ∙ rw (words_told_by (Ok p) q refl) (first_check (λ v. v) (fits (words_by (Ok p) n) out) OutputShort [])
    decided_by (Err k) q = read_refused o _ (refusal_of e o q)

    pub decided : verdict (record_checks e n o out) ≡ record_by (reading_in e o) n out
    decided = decided_by (reading_in e o) refl

-- what the proofs of the inner functions rest on
pub ruleset of_words_of = (number_told, path_told, one_if)

pub ruleset of_fill = (words_told, decided)
