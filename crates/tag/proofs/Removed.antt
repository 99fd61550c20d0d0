-- A tag or a trailer taken off, as octets: what the frame reads as then, and that put in again with the same number and id it gives the
-- first frame exactly where the word between was as insertion writes it. Trips says it of the calls. Assumes nothing.
use Prim.Native.Nat.{ℕ, ◌+◌, ◌-◌, ◌≤◌, ◌<◌}
use native.Mathlib.Omega.{arith}
use mathlib.Core.Path.{◌≡◌, refl, sym, ◌∙◌, ap}
use mathlib.Core.Bool.{true, false, false≢true, ◌&&◌}
use mathlib.Core.List.{List, ◌++◌}
use lib.ListN.{length, get_or, take, drop}
use borrow.Author.Tests.{ltb-false, le-ltb, eqb-true, ne_eqb, not-false}
use Rattle.std.specs.Prelude.{None, Ok}
use Rattle.octets.specs.Number.{be16}
use Rattle.octets.specs.Checks.{good, verdict, ◌then◌}
use Rattle.octets.proofs.Bools.{by_cases}
use Rattle.octets.proofs.Order.{verdict_append, clear, both_good}
use Rattle.frame.specs.declared.Header.{Header}
use Rattle.frame.specs.Layout.{C_TAG, tag_place, announces, sequenced, payload_place, payload_length}
use Rattle.frame.specs.Reader.{Before, checks, ctag, reading}
use Rattle.frame.proofs.Accepted.{most, frame_good, good_frame, behind_tag, good_before}
use Rattle.encoding.specs.declared.Encoding.{Encoding}
use Rattle.encoding.specs.declared.Encoding.TheVariants.{RTag, Hsr, Prp}
use Rattle.encoding.specs.Encodings.{in_front, place, mark, words, six, carries, standing, number_at, id_in}
use Rattle.encoding.specs.Encodings.{unnumbered, number_of, path_of, sequence}
use Rattle.encoding.proofs.Carried.{mark_announces, carries_front, carried_sequenced, starts}
use Rattle.encoding.proofs.Carried.{trailed, standing_within}
use Rattle.encoding.proofs.ThreeWords.{written_again, six_long, id_between}
use Rattle.tag.specs.Insertion.{size_of, inserted, insert_checks}
use Rattle.tag.specs.Removal.{removed, remove_checks}
use Rattle.tag.specs.RoundTrip.{AsWritten, retagged, without_tag}
use Rattle.tag.proofs.Splice.{Spliced, length_inserted, word_in, removing, off_put, with_own_six, six_of_words}
use Rattle.tag.proofs.Alike.{before_alike, word_behind, reads_off, same_reading}

-- what an accepted removal says of the frame and the room
pub record Removable (e : Encoding) (o : List ℕ) (room : ℕ) : Type 0 where
  pub reads : verdict (checks o) ≡ good
  pub carried : carries e o ≡ true
  pub fits : length o - 6 ≤ room

pub removable : (e : Encoding) (o : List ℕ) (room : ℕ) → verdict (remove_checks e o room) ≡ good → Removable e o room
unfolding remove_checks
removable e o room a =
    let g = both_good _ _ (sym (verdict_append (checks o) _) ∙ a) in
    let n = clear _ _ _ g.1 in
    record { reads = g.0; carried = not-false _ n.0; fits = ltb-false _ _ (clear _ _ _ n.1).0 }

-- an id has four bits
id_below : (e : Encoding) (word : ℕ) → word < 65536 → id_in e word ≤ 15
unfolding id_in
id_below RTag word s = omega arith
id_below Hsr word s = omega arith
id_below Prp word s = omega arith

word_below : (o : List ℕ) → ((k : ℕ) → get_or o k 0 < 256) → (at : ℕ) → be16 o at < 65536
unfolding be16
word_below o octets at = omega (arith, octets at, octets (at + 1))

-- taken off
module _ (e : Encoding) (o : List ℕ) (room : ℕ) (accepted : verdict (remove_checks e o room) ≡ good) where
  rem : Removable e o room
  rem = removable e o room accepted

  six_within : standing e o + 6 ≤ length o
  six_within = standing_within e o rem.reads rem.carried

  pub unsplice : Spliced (removed e o) o (standing e o)
  unfolding removed
  unsplice = removing o (standing e o) six_within

  -- a tag: a type that is no tag stands behind it, and comes to stand at its place
  module _ (f : in_front e ≡ true) where
    standing_front : standing e o ≡ tag_place o
    unfolding standing place
    standing_front = rw f

    pub there : sequenced o ≡ true
    there = carried_sequenced e o f rem.carried

    behind : (tag_place o + 6 + 2 ≤ length o) × (be16 o (tag_place o + 6) ≡ C_TAG → ⊥) × (announces (be16 o (tag_place o + 6)) ≡ false)
    behind = behind_tag o rem.reads there

    front_unsplice : Spliced (removed e o) o (tag_place o)
    front_unsplice = rw standing_front at unsplice

    type_moved : be16 o (tag_place o + 6) ≡ be16 (removed e o) (tag_place o)
    type_moved = word_behind front_unsplice (tag_place o) (omega arith)

    front_below : Before (removed e o) (tag_place o) (ctag o)
    front_below =
        before_alike o (removed e o) rem.reads (record { octet = λ k h. sym (front_unsplice.before k h) })
        (omega (arith, behind.0, unsplice.long))
        (omega (arith, most o rem.reads, unsplice.long))
        (λ z. behind.1 (type_moved ∙ z))

    front_reads_off : {h : Header} → Ok h ≡ reading o → Ok (retagged h None (h.payload - 6)) ≡ reading (removed e o)
    unfolding sequenced
    front_reads_off r =
        reads_off front_unsplice front_below (good_before o rem.reads) there (λ z. behind.1 (type_moved ∙ z))
        (rw type_moved at behind.2)
        (omega (arith, behind.0))
        r

    -- so it has no tag
    front_bare : announces (be16 (removed e o) (tag_place (removed e o))) ≡ false
    front_bare = rw (← front_below.place) (rw type_moved at behind.2)

    front_uncarried : carries e (removed e o) ≡ false
    front_uncarried =
        carries_front e (removed e o) f
        ∙ ne_eqb _ (mark e) (λ z. false≢true (sym (rw z at front_bare) ∙ mark_announces e f))

  -- a trailer: all before it stays as it was
  module _ (f : in_front e ≡ false) where
    standing_back : standing e o ≡ length o - 6
    unfolding standing place
    standing_back = rw f

    payload_before : payload_place o + 6 ≤ length o
    unfolding payload_length
    payload_before = omega (arith, (trailed e o rem.reads rem.carried f).0)

    back_reads_off : reading (removed e o) ≡ reading o
    back_reads_off =
        same_reading o (removed e o) rem.reads
        (record { octet = λ k h. sym (unsplice.before k (omega (arith, standing_back, payload_before))) })
        (omega (arith, unsplice.long, payload_before))
        (omega (arith, most o rem.reads, unsplice.long))

  -- a frame with its tag or trailer taken off reads as before
  pub removed_reads : {h : Header} → Ok h ≡ reading o → Ok (without_tag e h) ≡ reading (removed e o)
  unfolding without_tag
  removed_reads r = by_cases (in_front e) (λ f. rw f (front_reads_off f r)) (λ f. rw f (r ∙ sym (back_reads_off f)))

  -- and without a number, but for another trailer
  pub removed_unnumbered : in_front e ≡ true → sequence e (removed e o) ≡ unnumbered
  unfolding sequence
  removed_unnumbered f = rw (front_uncarried f)

  -- insertion takes it
  pub removed_insertable : (id room' : ℕ) → id ≤ 15 → length o ≤ room' → verdict (insert_checks e (removed e o) id room') ≡ good
  unfolding insert_checks verdict ◌then◌ sequenced
  removed_insertable id room' small l =
      let g = frame_good (removed e o) (removed_reads (good_frame o rem.reads)) in
      let m = most o rem.reads in
      let free : (in_front e && announces (be16 (removed e o) (tag_place (removed e o)))) ≡ false =
      by_cases (in_front e) (λ f. rw f (front_bare f)) (λ f. rw f) in
      simp (
        verdict_append,
        g.0,
        le-ltb 15 id small,
        free,
        le-ltb 1522 (length (removed e o) + 6) (omega (arith, unsplice.long)),
        le-ltb room' (length (removed e o) + 6) (omega (arith, unsplice.long)),
      )

  -- put in again at the place where they stood
  same_place : place e (tag_place (removed e o)) (length (removed e o)) ≡ standing e o
  unfolding standing place
  same_place =
      by_cases (in_front e) (λ f. rw f (sym (front_below f).place)) (λ f. rw f (omega (arith, unsplice.long)))

  put_back : (n id : ℕ)
      → inserted e (removed e o) n id
      ≡ take (standing e o) o ++ (six e n id (size_of (removed e o)) ++ drop (standing e o + 6) o)
  unfolding inserted removed
  put_back n id = rw same_place (off_put o (standing e o) six_within (six e n id (size_of (removed e o))))

  pub removed_inserted_length : (n id : ℕ) → length (inserted e (removed e o) n id) ≡ length o
  unfolding inserted
  removed_inserted_length n id =
      let size = size_of (removed e o) in
      rw same_place
      (length_inserted (removed e o) (six e n id size) (standing e o) (six_long e n id size) unsplice.within ∙ sym unsplice.long)

  -- the words that stood there: a tag's type first and its number last, and a trailer's the other way round
  module _ (f : in_front e ≡ true) where
    mark_stood : be16 o (standing e o) ≡ mark e
    mark_stood = rw (standing_front f) (eqb-true _ (mark e) (sym (carries_front e o f) ∙ rem.carried))

    number_stood : be16 o (standing e o + 4) ≡ number_of (sequence e o)
    unfolding sequence number_at
    number_stood = rw (rem.carried, f) refl

  module _ (f : in_front e ≡ false) where
    suffix_stood : be16 o (standing e o + 4) ≡ mark e
    suffix_stood =
        let last : standing e o + 4 ≡ length o - 2 = omega (arith, standing_back f, six_within) in
        rw last (trailed e o rem.reads rem.carried f).1

    number_led : be16 o (standing e o) ≡ number_of (sequence e o)
    unfolding sequence number_at
    number_led = let e' : standing e o + 0 ≡ standing e o = omega arith in rw (rem.carried, f, e') refl

  -- taken off, then put in with the same number and id, gives the first frame exactly where the word between is as insertion writes it
  module _ (octets : (k : ℕ) → get_or o k 0 < 256) where
    pub id_small : path_of (sequence e o) ≤ 15
    unfolding sequence
    id_small = rw rem.carried (id_below e (be16 o (standing e o + 2)) (word_below o octets (standing e o + 2)))

    -- the size of a trailer that was there is the one that is written
    pub as_written : in_front e ≡ false → AsWritten e o
    unfolding AsWritten sequence payload_length
    as_written f =
        let r = good_frame o rem.reads in
        let was = starts o r in
        let is = starts (removed e o) (r ∙ sym (back_reads_off f)) in
        let between : standing e o + 2 ≡ length o - 4 = omega (arith, standing_back f, six_within) in
        let sized = (trailed e o rem.reads rem.carried f).2 in
        rw rem.carried
        (written_again
        e
        (be16 o (standing e o + 2))
        (length (removed e o) - payload_place (removed e o) + 6)
        f
        (word_below o octets (standing e o + 2))
        (rw between (omega (arith, sized, was, is, unsplice.long, payload_before f))))

    own_six : AsWritten e o
        → take 6 (drop (standing e o) o) ≡ six e (number_of (sequence e o)) (path_of (sequence e o)) (size_of (removed e o))
    unfolding six words AsWritten
    own_six w =
        six_of_words o (standing e o) six_within octets
        ∙ by_cases (in_front e) (λ f. rw (f, mark_stood f, w, number_stood f) refl) (λ f. rw (f, number_led f, w, suffix_stood f) refl)

    pub removed_inserted : let again = inserted e (removed e o) (number_of (sequence e o)) (path_of (sequence e o)) in
        (again ≡ o → AsWritten e o) × (AsWritten e o → again ≡ o)
    unfolding AsWritten inserted
    removed_inserted =
        let size = size_of (removed e o) in
        let n = number_of (sequence e o) in
        let id = path_of (sequence e o) in (
          λ e'. sym (ap (λ (l : List ℕ). be16 l (standing e o + 2)) e')
              ∙ rw same_place
              (word_in (removed e o) (six e n id size) (standing e o) (six_long e n id size) unsplice.within 2 (omega arith)
              ∙ id_between e n id size),
          λ w. put_back n id ∙ rw (← own_six w) (with_own_six o (standing e o) six_within),
        )
