-- Which check decides a removal, from the answer of reading and the tests on the way. Assumes nothing.
use Prim.Native.Nat.{ℕ, ◌+◌, ◌-◌, ◌≤◌, ◌<◌}
use native.Mathlib.Omega.{arith}
use mathlib.Core.Path.{◌≡◌, refl, sym, ◌∙◌, ap}
use mathlib.Core.Bool.{Bool, true, false, false≢true, not, cond}
use mathlib.Core.List.{List}
use lib.ListN.{length}
use lib.Dec.{ltb}
use borrow.Author.Tests.{lt-ltb, le-ltb}
use Rattle.std.specs.Prelude.{Option, Result, Ok, Err, is_some}
use Rattle.octets.specs.declared.Refusal.{Refusal}
use Rattle.octets.specs.declared.Refusal.TheVariants.{OutputShort, NoTag}
use Rattle.octets.specs.Copy.{put_in}
use Rattle.octets.specs.Checks.{Verdict, good, refuse, verdict}
use Rattle.octets.proofs.Bools.{by_cases}
use Rattle.frame.proofs.Accepted.{frame_good, starts_within, read_refused, read_good}
use Rattle.encoding.specs.declared.Encoding.{Encoding}
use Rattle.encoding.specs.declared.Sequence.{Sequence}
use Rattle.encoding.specs.declared.Packet.{Packet}
use Rattle.encoding.specs.Encodings.{in_front, place, carries, standing}
use Rattle.encoding.specs.Reader.{reading_in}
use Rattle.encoding.proofs.Carried.{far, stands_at, standing_within}
use Rattle.encoding.proofs.Answered.{header_of, refusal_of, numbered_told}
use Rattle.tag.specs.Removal.{removed_at, removed, remove_checks, Removes}
use Rattle.tag.proofs.Splice.{length_removed}
use Rattle.tag.proofs.Decided.{refuses, writes}

-- the verdict as the code comes to it, by the answer of reading
abbrev pub remove_by : Result Packet Refusal → (long room : ℕ) → Verdict
remove_by (Ok p) long room = cond (not (is_some p.sequence)) (refuse NoTag) (cond (ltb room (long - 6)) (refuse OutputShort) good)
remove_by (Err k) long room = refuse k

-- whether there is a number, and where the payload starts
abbrev pub numbered_by : Result Packet Refusal → Bool
numbered_by (Ok p) = is_some p.sequence
numbered_by (Err k) = false

abbrev pub start_by : Result Packet Refusal → ℕ
start_by (Ok p) = p.header.payload
start_by (Err k) = 0

module _ (e : Encoding) (o : List ℕ) where
  -- of a frame that was read
  module _ {p : Packet} (r : Ok p ≡ reading_in e o) where
    -- whether there is a number
    told : is_some p.sequence ≡ carries e o
    told = ap (λ (s : Option Sequence). is_some s) (header_of e o r).1 ∙ numbered_told e o

    module _ (t : is_some p.sequence ≡ true) where
      -- where the six octets stand, by where the payload starts
      place_told : place e (p.header.payload - 8) (length o - 6) ≡ standing e o
      place_told = stands_at e o (header_of e o r).0 (sym told ∙ t)

      six_within : standing e o + 6 ≤ length o
      six_within = standing_within e o (frame_good o (header_of e o r).0).0 (sym told ∙ t)

  decided_by : (room : ℕ) (r : Result Packet Refusal) → r ≡ reading_in e o → verdict (remove_checks e o room) ≡ remove_by r (length o) room
  unfolding remove_checks verdict
  decided_by room (Ok p) r = read_good o _ (header_of e o r).0 ∙ simp (told r)
  decided_by room (Err k) r = read_refused o _ (refusal_of e o r)

  pub decided : (room : ℕ) → verdict (remove_checks e o room) ≡ remove_by (reading_in e o) (length o) room
  decided room = decided_by room (reading_in e o) refl

  -- the frame without its six octets, by where the payload starts
  bare_by : (r : Result Packet Refusal) → r ≡ reading_in e o → numbered_by r ≡ true
      → (removed e o ≡ removed_at o (place e (start_by r - 8) (length o - 6)))
      × (length (removed e o) ≡ length o - 6)
  unfolding removed
  bare_by (Ok p) r t = (rw (place_told r t) refl, length_removed o (standing e o) (six_within r t))
  bare_by (Err k) r t = absurd (false≢true t)

  pub bare : numbered_by (reading_in e o) ≡ true → removed e o ≡ removed_at o (place e (start_by (reading_in e o) - 8) (length o - 6))
  bare t = (bare_by (reading_in e o) refl t).0

  pub bare_length : numbered_by (reading_in e o) ≡ true → length (removed e o) ≡ length o - 6
  bare_length t = (bare_by (reading_in e o) refl t).1

-- what each check answers, and a frame that none refuses
module _ (e : Encoding) (o out : List ℕ) where
  pub remove_unread : {k : Refusal} → Err k ≡ reading_in e o → Removes e o out (Err k) out
  remove_unread r = refuses (removed e o) out (decided_by e o (length out) (Err _) r)

  module _ {p : Packet} (r : Ok p ≡ reading_in e o) where
    pub remove_none : is_some p.sequence ≡ false → Removes e o out (Err NoTag) out
    remove_none t = refuses (removed e o) out (decided_by e o (length out) (Ok p) r ∙ simp t)

    module _ (t : is_some p.sequence ≡ true) where
      pub remove_no_room : length out < length o - 6 → Removes e o out (Err OutputShort) out
      remove_no_room l = refuses (removed e o) out (decided_by e o (length out) (Ok p) r ∙ simp (t, lt-ltb _ _ l))

      pub remove_done : length o - 6 ≤ length out → {later : List ℕ}
          → later ≡ put_in (removed_at o (place e (p.header.payload - 8) (length o - 6))) out
          → Removes e o out (Ok (length o - 6)) later
      remove_done l f =
          let whole = bare_by e o (Ok p) r t in
          writes (removed e o) out (decided_by e o (length out) (Ok p) r ∙ simp (t, le-ltb _ _ l)) (sym whole.1) (rw whole.0 f)

-- a frame that was read has its addresses and a type before its payload, which starts within it
pub far_in : (e : Encoding) (o : List ℕ) {p : Packet} → Ok p ≡ reading_in e o → 14 ≤ p.header.payload
far_in e o r = far o (header_of e o r).0

pub within : (e : Encoding) (o : List ℕ) {p : Packet} → Ok p ≡ reading_in e o → p.header.payload ≤ length o
within e o r = starts_within o (header_of e o r).0

pub long : (e : Encoding) (o : List ℕ) {p : Packet} → Ok p ≡ reading_in e o → (14 ≤ p.header.payload) × (p.header.payload ≤ length o)
long e o r = (far_in e o r, within e o r)

-- so six octets lie within it behind either place
pub place_within : (e : Encoding) (o : List ℕ) {p : Packet} → Ok p ≡ reading_in e o
    → place e (p.header.payload - 8) (length o - 6) + 6 ≤ length o
unfolding place
place_within e o r =
    let start = far_in e o r in
    let end = within e o r in
    by_cases (in_front e) (λ f. rw f (omega arith)) (λ f. rw f (omega arith))

-- what the proof of the removal rests on
pub ruleset of_remove = (decided, bare, bare_length, far_in, within, place_within)
