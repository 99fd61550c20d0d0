-- Which check decides an insertion, from the answer of reading and the tests on the way. Assumes nothing.
use Prim.Native.Nat.{ℕ, ◌+◌, ◌-◌, ◌≤◌, ◌<◌}
use native.Mathlib.Omega.{arith}
use mathlib.Core.Path.{◌≡◌, refl, sym, ◌∙◌}
use mathlib.Core.Bool.{Bool, true, false, false≢true, cond, ◌&&◌}
use mathlib.Core.List.{List}
use lib.ListN.{length}
use lib.Dec.{ltb}
use borrow.Author.Tests.{lt-ltb, le-ltb}
use Rattle.std.specs.Prelude.{Result, Ok, Err, is_some}
use Rattle.octets.specs.declared.Refusal.{Refusal}
use Rattle.octets.specs.declared.Refusal.TheVariants.{TagThere, ResultLong, OutputShort, PathId}
use Rattle.octets.specs.Copy.{put_in}
use Rattle.octets.specs.Checks.{Verdict, good, refuse, verdict}
use Rattle.octets.proofs.Bools.{by_cases}
use Rattle.frame.specs.declared.Header.{Header}
use Rattle.frame.specs.Layout.{tag_place, sequenced, payload_length}
use Rattle.frame.specs.Reader.{reading}
use Rattle.frame.proofs.Accepted.{starts_within, read_refused, read_good, payload_bare}
use Rattle.encoding.specs.declared.Encoding.{Encoding}
use Rattle.encoding.specs.Encodings.{in_front, place, six}
use Rattle.encoding.proofs.Carried.{is_sequenced, starts, far, payload_octets}
use Rattle.encoding.proofs.ThreeWords.{six_long}
use Rattle.tag.specs.Insertion.{inserted_at, inserted, insert_checks, Inserts}
use Rattle.tag.proofs.Splice.{length_inserted}
use Rattle.tag.proofs.Decided.{refuses, writes}

-- either place lies within the frame
pub place_within : (e : Encoding) (o : List ℕ) {h : Header} → Ok h ≡ reading o → place e (h.payload - 2) (length o) ≤ length o
unfolding place
place_within e o r = by_cases (in_front e) (λ f. rw f (omega (arith, starts_within o r))) (λ f. rw f (omega arith))

-- where nothing is in the way, the place is told by where the payload starts
place_free : (e : Encoding) (o : List ℕ) {h : Header} → Ok h ≡ reading o → (in_front e && is_some h.tag) ≡ false
    → place e (h.payload - 2) (length o) ≡ place e (tag_place o) (length o)
unfolding place
place_free e o r free =
    by_cases (in_front e)
    (λ f. rw f (omega (arith, starts o r, payload_bare o (sym (is_sequenced o r) ∙ (rw f at free)))))
    (λ f. rw f)

-- the verdict as the code comes to it, by the answer of reading: what stands in the way, and which check decides
abbrev pub there_by : Result Header Refusal → Encoding → Bool
there_by (Ok h) e = in_front e && is_some h.tag
there_by (Err k) e = true

abbrev pub insert_by : Result Header Refusal → Encoding → (long id room : ℕ) → Verdict
insert_by (Ok h) e long id room =
    cond (ltb 15 id) (refuse PathId)
    (cond (there_by (Ok h) e) (refuse TagThere)
    (cond (ltb 1522 (long + 6)) (refuse ResultLong)
    (cond (ltb room (long + 6)) (refuse OutputShort) good)))
insert_by (Err k) e long id room = refuse k

-- where the payload starts
abbrev pub start_by : Result Header Refusal → ℕ
start_by (Ok h) = h.payload
start_by (Err k) = 0

module _ (e : Encoding) (o : List ℕ) where
  told_there : {h : Header} → Ok h ≡ reading o → (in_front e && sequenced o) ≡ (in_front e && is_some h.tag)
  told_there r = rw (is_sequenced o r) refl

  decided_by : (id room : ℕ) (r : Result Header Refusal) → r ≡ reading o
      → verdict (insert_checks e o id room) ≡ insert_by r e (length o) id room
  unfolding insert_checks verdict
  decided_by id room (Ok h) r = read_good o _ r ∙ simp (is_sequenced o r)
  decided_by id room (Err k) r = read_refused o _ r

  pub decided : (id room : ℕ) → verdict (insert_checks e o id room) ≡ insert_by (reading o) e (length o) id room
  decided id room = decided_by id room (reading o) refl

  -- the frame with its six octets, by where the payload starts
  tagged_by : (n id : ℕ) (r : Result Header Refusal) → r ≡ reading o → there_by r e ≡ false
      → (inserted e o n id ≡ inserted_at o (place e (start_by r - 2) (length o)) (six e n id (length o + 6 - start_by r)))
      × (length (inserted e o n id) ≡ length o + 6)
  unfolding inserted
  tagged_by n id (Ok h) r free =
      let size : length o + 6 - h.payload ≡ payload_length o + 6 = omega (arith, payload_octets o r, starts_within o r) in
      let there = place_within e o r in (
        rw (size, place_free e o r free) refl,
        length_inserted o (six e n id (payload_length o + 6)) (place e (tag_place o) (length o)) (six_long e n id (payload_length o + 6))
            (rw (place_free e o r free) at there),
      )
  tagged_by n id (Err k) r t = absurd (false≢true (sym t))

  pub tagged : (n id : ℕ) → there_by (reading o) e ≡ false
      → inserted e o n id ≡ inserted_at o (place e (start_by (reading o) - 2) (length o)) (six e n id (length o + 6 - start_by (reading o)))
  tagged n id t = (tagged_by n id (reading o) refl t).0

  pub tagged_length : (n id : ℕ) → there_by (reading o) e ≡ false → length (inserted e o n id) ≡ length o + 6
  tagged_length n id t = (tagged_by n id (reading o) refl t).1

-- what each check answers, and a frame that none refuses
module _ (e : Encoding) (o : List ℕ) (n id : ℕ) (out : List ℕ) where
  pub insert_unread : {k : Refusal} → Err k ≡ reading o → Inserts e o n id out (Err k) out
  insert_unread r = refuses (inserted e o n id) out (decided_by e o id (length out) (Err _) r)

  module _ {h : Header} (r : Ok h ≡ reading o) where
    pub insert_over : 15 < id → Inserts e o n id out (Err PathId) out
    insert_over i = refuses (inserted e o n id) out (decided_by e o id (length out) (Ok h) r ∙ simp (lt-ltb _ _ i))

    module _ (i : id ≤ 15) where
      pub insert_there : (in_front e && is_some h.tag) ≡ true → Inserts e o n id out (Err TagThere) out
      insert_there t = refuses (inserted e o n id) out (decided_by e o id (length out) (Ok h) r ∙ simp (le-ltb _ _ i, t))

      module _ (free : (in_front e && is_some h.tag) ≡ false) where
        pub insert_long : 1522 < length o + 6 → Inserts e o n id out (Err ResultLong) out
        insert_long l =
            refuses (inserted e o n id) out (decided_by e o id (length out) (Ok h) r ∙ simp (le-ltb _ _ i, free, lt-ltb _ _ l))

        module _ (l : length o + 6 ≤ 1522) where
          pub insert_no_room : length out < length o + 6 → Inserts e o n id out (Err OutputShort) out
          insert_no_room s =
              refuses
              (inserted e o n id)
              out
              (decided_by e o id (length out) (Ok h) r ∙ simp (le-ltb _ _ i, free, le-ltb _ _ l, lt-ltb _ _ s))

          pub insert_done : length o + 6 ≤ length out → {later : List ℕ}
              → later ≡ put_in (inserted_at o (place e (h.payload - 2) (length o)) (six e n id (length o + 6 - h.payload))) out
              → Inserts e o n id out (Ok (length o + 6)) later
          insert_done s f =
              let whole = tagged_by e o n id (Ok h) r free in
              writes
              (inserted e o n id)
              out
              (decided_by e o id (length out) (Ok h) r ∙ simp (le-ltb _ _ i, free, le-ltb _ _ l, le-ltb _ _ s))
              (sym whole.1)
              (rw whole.0 f)

-- what the proof of the insertion rests on
pub ruleset of_insert = (decided, tagged, tagged_length, starts_within, far, place_within)
