-- A tag or a trailer put in, as octets: what the frame reads as then, and that taken off again it gives the first frame. Trips says it of
-- the calls. Assumes nothing.
use Prim.Native.Nat.{ℕ, ◌+◌, ◌-◌, ◌≤◌, ◌<◌}
use native.Mathlib.Omega.{arith}
use mathlib.Core.Path.{◌≡◌, refl, sym, ◌∙◌}
use mathlib.Core.Bool.{true, false, ◌&&◌}
use mathlib.Core.List.{List}
use lib.ListN.{length}
use lib.Dec.{leb}
use borrow.Author.Tests.{ltb-false, le-ltb, le-leb, eq-eqb}
use Rattle.std.specs.Prelude.{Some, Ok}
use Rattle.octets.specs.Number.{be16}
use Rattle.octets.specs.Checks.{good, verdict, ◌then◌}
use Rattle.octets.proofs.Bools.{by_cases}
use Rattle.octets.proofs.Order.{verdict_append, clear, both_good}
use Rattle.frame.specs.declared.Header.{Header}
use Rattle.frame.specs.Layout.{tag_place, announces, sequenced, payload_length}
use Rattle.frame.specs.Reader.{Before, checks, ctag, reading}
use Rattle.frame.proofs.Accepted.{frame_good, good_frame, payload_within, payload_bare, good_before, no_ctag}
use Rattle.encoding.specs.declared.Encoding.{Encoding}
use Rattle.encoding.specs.declared.Encoding.TheVariants.{RTag, Hsr, Prp}
use Rattle.encoding.specs.Encodings.{in_front, place, mark, id_and_size, id_word, six, trails, carries, standing, number_at, id_in}
use Rattle.encoding.specs.Encodings.{numbered, sequence}
use Rattle.encoding.proofs.Carried.{mark_announces, carries_front, carries_back, starts}
use Rattle.encoding.proofs.Carried.{number_within}
use Rattle.encoding.proofs.ThreeWords.{size_between, six_long, mark_first, mark_last, id_between, number_there}
use Rattle.tag.specs.Insertion.{size_of, inserted, insert_checks}
use Rattle.tag.specs.Removal.{removed, remove_checks}
use Rattle.tag.specs.RoundTrip.{retagged, with_tag, id_read}
use Rattle.tag.proofs.Splice.{Spliced, word_in, inserting, put_off}
use Rattle.tag.proofs.Alike.{no_type_of_both, before_alike, reads_in, same_reading}

-- what an accepted insertion says of the frame, the id and the room
pub record Insertable (e : Encoding) (o : List ℕ) (id room : ℕ) : Type 0 where
  pub reads : verdict (checks o) ≡ good
  pub small : id ≤ 15
  pub free : (in_front e && sequenced o) ≡ false
  pub short : length o + 6 ≤ 1522
  pub fits : length o + 6 ≤ room

pub insertable : (e : Encoding) (o : List ℕ) (id room : ℕ) → verdict (insert_checks e o id room) ≡ good → Insertable e o id room
unfolding insert_checks
insertable e o id room a =
    let g = both_good _ _ (sym (verdict_append (checks o) _) ∙ a) in
    let i = clear _ _ _ g.1 in
    let n = clear _ _ _ i.1 in
    let s = clear _ _ _ n.1 in
    record {
      reads = g.0;
      small = ltb-false _ _ i.0;
      free = n.0;
      short = ltb-false _ _ s.0;
      fits = ltb-false _ _ (clear _ _ _ s.1).0;
    }

-- the id that is read of the word that was written
id_is_read : (e : Encoding) (id size : ℕ) → id ≤ 15 → id_in e (id_word e id size) ≡ id_read e id
unfolding id_in id_word id_and_size id_read
id_is_read RTag id size s = refl
id_is_read Hsr id size s = omega arith
id_is_read Prp id size s = omega arith

-- put in
module _ (e : Encoding) (o : List ℕ) (n id room : ℕ) (accepted : verdict (insert_checks e o id room) ≡ good) where
  ins : Insertable e o id room
  ins = insertable e o id room accepted

  at : ℕ
  at = place e (tag_place o) (length o)

  size : ℕ
  size = size_of o

  -- a tag: there is none yet, and its place lies within the frame
  module _ (f : in_front e ≡ true) where
    no_tag : sequenced o ≡ false
    no_tag = rw f at ins.free

    bare_type : announces (be16 o (tag_place o)) ≡ false
    unfolding sequenced
    bare_type = no_tag

    type_within : tag_place o + 2 ≤ length o
    type_within = omega (arith, payload_bare o no_tag, payload_within o ins.reads)

    at_front : at ≡ tag_place o
    unfolding at place
    at_front = rw f

  at_back : in_front e ≡ false → at ≡ length o
  unfolding at place
  at_back f = rw f

  within : at ≤ length o
  within =
      by_cases (in_front e) (λ f. omega (arith, at_front f, type_within f)) (λ f. omega (arith, at_back f))

  splice : Spliced o (inserted e o n id) at
  unfolding inserted at
  splice = inserting o (six e n id (size_of o)) at (six_long e n id (size_of o)) within

  pub spliced : Spliced o (inserted e o n id) (place e (tag_place o) (length o))
  unfolding at
  spliced = splice

  -- the words that were put in
  word_put : (k : ℕ) → k + 1 < 6 → be16 (inserted e o n id) (at + k) ≡ be16 (six e n id size) k
  unfolding inserted at size
  word_put = word_in o (six e n id (size_of o)) at (six_long e n id (size_of o)) within

  -- a tag: what stands at its place now
  module _ (f : in_front e ≡ true) where
    announced_there : be16 (inserted e o n id) (tag_place o) ≡ mark e
    announced_there =
        let p : at + 0 ≡ tag_place o = omega (arith, at_front f) in
        rw (← p) (word_put 0 (omega arith) ∙ mark_first e n id size f)

    number_put : be16 (inserted e o n id) (tag_place o + 4) ≡ n
    unfolding number_at
    number_put = rw (← at_front f) (word_put 4 (omega arith) ∙ rw f at (number_there e n id size))

    front_splice : Spliced o (inserted e o n id) (tag_place o)
    front_splice = rw (at_front f) at splice

    front_before : Before (inserted e o n id) (tag_place o) (ctag o)
    front_before =
        before_alike o (inserted e o n id) ins.reads (record { octet = front_splice.before })
        (omega (arith, type_within f, splice.long))
        (omega (arith, ins.short, splice.long))
        (λ z. no_type_of_both (mark_announces e f) (sym announced_there ∙ z))

    front_reads : {h : Header} → Ok h ≡ reading o → Ok (retagged h (Some (record { kind = mark e; number = n })) (h.payload + 6)) ≡ reading (inserted e o n id)
    front_reads r =
        rw (announced_there, number_put)
        at (reads_in front_splice (good_before o ins.reads) front_before (rw announced_there (mark_announces e f))
        (no_ctag o ins.reads)
        (bare_type f)
        (omega (arith, type_within f, splice.long))
        r)

  -- a trailer: all before it is as it was
  module _ (f : in_front e ≡ false) where
    back_reads : reading (inserted e o n id) ≡ reading o
    back_reads =
        let p = payload_within o ins.reads in
        same_reading o (inserted e o n id) ins.reads (record { octet = λ k h. splice.before k (omega (arith, at_back f)) })
        (omega (arith, splice.long))
        (omega (arith, ins.short, splice.long))

    back_length : payload_length (inserted e o n id) ≡ size
    unfolding payload_length size
    back_length =
        let r = good_frame o ins.reads in
        let was = starts o r in
        let is = starts (inserted e o n id) (r ∙ sym back_reads) in
        omega (arith, was, is, splice.long, payload_within o ins.reads)

  -- an inserted frame reads as the first one did
  pub inserted_reads : {h : Header} → Ok h ≡ reading o → Ok (with_tag e n h) ≡ reading (inserted e o n id)
  unfolding with_tag
  inserted_reads r = by_cases (in_front e) (λ f. rw f (front_reads f r)) (λ f. rw f (r ∙ sym (back_reads f)))

  inserted_standing : standing e (inserted e o n id) ≡ at
  unfolding standing place at
  inserted_standing =
      by_cases (in_front e) (λ f. rw f (sym (front_before f).place)) (λ f. rw f (omega (arith, splice.long)))

  small_size : size < 4096
  unfolding size payload_length
  small_size = omega (arith, ins.short)

  six_more : leb 6 size ≡ true
  unfolding size
  six_more = le-leb 6 size (omega arith)

  back_trails : in_front e ≡ false → trails (inserted e o n id) (mark e) size ≡ true
  unfolding trails
  back_trails f =
      let last : length (inserted e o n id) - 2 ≡ at + 4 = omega (arith, splice.long, at_back f) in
      let between : length (inserted e o n id) - 4 ≡ at + 2 = omega (arith, splice.long, at_back f) in
      let marked = word_put 4 (omega arith) ∙ mark_last e n id size f in
      let sized = word_put 2 (omega arith) ∙ id_between e n id size in
      let same = size_between e id size f small_size in
      simp (last, between, marked, sized, same, six_more, eq-eqb (mark e) (mark e) refl, eq-eqb size size refl)

  inserted_carries : carries e (inserted e o n id) ≡ true
  inserted_carries =
      by_cases (in_front e)
      (λ f. carries_front e (inserted e o n id) f ∙ eq-eqb _ (mark e) (rw (← (front_before f).place) (announced_there f)))
      (λ f. carries_back e (inserted e o n id) f ∙ rw (back_length f) (back_trails f))

  -- it carries the number and the id
  pub inserted_sequence : sequence e (inserted e o n id) ≡ numbered n (id_read e id)
  unfolding sequence
  inserted_sequence =
      let number = word_put (number_at e) (omega (arith, number_within e)) ∙ number_there e n id size in
      let between = word_put 2 (omega arith) ∙ id_between e n id size in
      simp (inserted_carries, inserted_standing, number, between, id_is_read e id size ins.small)

  -- put in, then taken off, gives the first frame
  pub inserted_removed : removed e (inserted e o n id) ≡ o
  unfolding removed inserted at
  inserted_removed = rw inserted_standing (put_off o (six e n id (size_of o)) at (six_long e n id (size_of o)) within)

  -- and removal takes it
  pub inserted_removable : (room' : ℕ) → length o ≤ room' → verdict (remove_checks e (inserted e o n id) room') ≡ good
  unfolding remove_checks verdict ◌then◌
  inserted_removable room' l =
      let g = frame_good (inserted e o n id) (inserted_reads (good_frame o ins.reads)) in
      simp (verdict_append, g.0, inserted_carries, le-ltb room' (length (inserted e o n id) - 6) (omega (arith, splice.long)))
