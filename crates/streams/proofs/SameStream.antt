-- A tag or a trailer does not change which stream a frame belongs to (`specs/SameStream`): no entry asks for what it changes. Assumes
-- nothing.
use Prim.Native.Nat.{ℕ, ◌+◌, ◌-◌, ◌≤◌}
use native.Mathlib.Omega.{arith}
use mathlib.Core.Path.{◌≡◌, refl, sym, ap, ◌∙◌}
use mathlib.Core.Bool.{true}
use mathlib.Core.List.{List, [], ◌∷◌}
use lib.ListN.{length, drop, length-drop}
use lib.Seq.{ext_get_or, get_or-drop}
use Rattle.std.specs.Prelude.{None, Ok}
use Rattle.octets.specs.Checks.{good, verdict}
use Rattle.octets.proofs.Bools.{by_cases}
use Rattle.frame.specs.declared.Header.{Header}
use Rattle.frame.specs.Layout.{tag_place, sequenced}
use Rattle.frame.specs.Reader.{header, reading}
use Rattle.frame.proofs.Accepted.{frame_good, good_frame, payload_tagged, payload_bare, starts_within}
use Rattle.encoding.specs.declared.Encoding.{Encoding}
use Rattle.encoding.specs.Encodings.{in_front, place, standing}
use Rattle.tag.specs.Insertion.{inserted, insert_checks}
use Rattle.tag.specs.Removal.{removed, remove_checks}
use Rattle.tag.specs.RoundTrip.{retagged, with_tag, without_tag}
use Rattle.tag.proofs.Splice.{Spliced}
use Rattle.tag.proofs.Inserted.{insertable, spliced, inserted_reads}
use Rattle.tag.proofs.Removed.{removable, unsplice, there, removed_reads}
use Rattle.tag.proofs.Trips.{wrote}
use Rattle.entry.specs.Matching.{allows, address_of, matches}
use Rattle.streams.specs.Table.{entries, first_match, lookup_of}
use Rattle.streams.specs.Walk.{walked}
use Rattle.streams.specs.SameStream.{trailer_unread, SameWhenInserted, SameWhenRemoved}
use Rattle.streams.proofs.Answered.{walk_answers}
use Rattle.streams.proofs.Longer.{Longer, same_match}

-- a header with only what an entry asks of a frame
asked : Header → Header
asked h =
    record { destination = h.destination; source = h.source; vlan = h.vlan; tag = None; kind = h.kind; payload = 0 }

match_asked : (es : List (List ℕ)) (h : Header) (p : List ℕ) → first_match es h p ≡ first_match es (asked h) p
unfolding first_match matches allows address_of asked
match_asked [] h p = refl
match_asked (e ∷ es) h p = rw (match_asked es h p)

-- what a tag or a trailer changes in a header is not asked
asked_tagged : (e : Encoding) (n : ℕ) (h : Header) → asked (with_tag e n h) ≡ asked h
unfolding with_tag retagged asked
asked_tagged e n h = by_cases (in_front e) (λ f. rw f) (λ f. rw f)

asked_untagged : (e : Encoding) (h : Header) → asked (without_tag e h) ≡ asked h
unfolding without_tag retagged asked
asked_untagged e h = by_cases (in_front e) (λ f. rw f) (λ f. rw f)

-- the payload of a frame with this header
abbrev payload : Header → List ℕ → List ℕ
payload h o = drop h.payload o

-- two good frames in whose headers it is the same, and for whose payloads the table finds the same
lookup_asked : (t o p : List ℕ) {h g : Header} → Ok h ≡ reading o → Ok g ≡ reading p → asked h ≡ asked g
    → first_match (entries t) g (payload h o) ≡ first_match (entries t) g (payload g p) → lookup_of t o ≡ lookup_of t p
unfolding walked
lookup_asked t o p {h} {g} e f same found =
    let headers : first_match (entries t) h (payload h o) ≡ first_match (entries t) g (payload h o)
    = match_asked _ h _ ∙ (rw same (sym (match_asked _ g _))) in
    sym (walk_answers t o e) ∙ (rw (headers, found) (walk_answers t p f))

-- `i` is `b` with six octets put in at a place: before the payload, and it is the same; behind it, and it is longer
module _ (b i : List ℕ) (at start : ℕ) (s : Spliced b i at) (w : start ≤ length b) where
  moved : at ≤ start → drop (start + 6) i ≡ drop start b
  moved l =
      ext_get_or 0 (drop (start + 6) i) (drop start b) (omega (arith, length-drop (start + 6) i, length-drop start b, s.long))
      (λ k h.
      let n : start + 6 + k ≡ start + k + 6 = omega arith in
      get_or-drop (start + 6) i k 0 ∙ (rw n (s.behind (start + k) (omega arith))) ∙ sym (get_or-drop start b k 0))

  lengthened : at ≡ length b → Longer (drop start b) (drop start i)
  lengthened l =
      record {
        long = omega (arith, length-drop start i, length-drop start b, s.long);
        octet = λ k h. get_or-drop start i k 0 ∙ s.before (start + k) (omega (arith, length-drop start b)) ∙ sym (get_or-drop start b k 0);
      }

-- a sequence tag's place lies before the payload
tag_before : (o : List ℕ) → tag_place o + 2 ≤ (header o).payload
unfolding header
tag_before o =
    by_cases (sequenced o) (λ n. omega (arith, payload_tagged o n)) (λ n. omega (arith, payload_bare o n))

behind_tag : (o : List ℕ) → sequenced o ≡ true → (header o).payload ≡ tag_place o + 6 + 2
unfolding header
behind_tag o n = payload_tagged o n

-- what a table finds of a frame with six octets put in
module _ (t : List ℕ) (e : Encoding) (o : List ℕ) (n id room : ℕ) (accepted : verdict (insert_checks e o id room) ≡ good) where
  abbrev with_it : List ℕ
  with_it = inserted e o n id

  found_inserted : Ok (header o) ≡ reading o → trailer_unread e t o ≡ true
      → first_match (entries t) (header o) (payload (with_tag e n (header o)) with_it)
      ≡ first_match (entries t) (header o) (payload (header o) o)
  unfolding with_tag retagged place trailer_unread
  found_inserted was u =
      let s = spliced e o n id room accepted in
      by_cases (in_front e)
      (λ f.
      rw f
      (ap (first_match (entries t) (header o))
      (moved o with_it (tag_place o) (header o).payload (rw f at s) (starts_within o was) (omega (arith, tag_before o)))))
      (λ f.
      rw f
      (same_match (payload (header o) o) (payload (header o) with_it)
      (lengthened o with_it (length o) (header o).payload (rw f at s) (starts_within o was) refl) (entries t) (header o) (rw f at u)))

-- and of one with six octets taken off
module _ (t : List ℕ) (e : Encoding) (o : List ℕ) (room : ℕ) (accepted : verdict (remove_checks e o room) ≡ good) where
  abbrev without : List ℕ
  without = removed e o

  found_removed : Ok (header o) ≡ reading o → Ok (without_tag e (header o)) ≡ reading without → trailer_unread e t without ≡ true
      → first_match (entries t) (header o) (payload (without_tag e (header o)) without)
      ≡ first_match (entries t) (header o) (payload (header o) o)
  unfolding without_tag retagged standing place trailer_unread
  found_removed was is u =
      let s = unsplice e o room accepted in
      let own = (frame_good without is).1 in
      let within = starts_within without is in
      by_cases (in_front e)
      (λ f.
      let behind = behind_tag o (there e o room accepted f) in
      let back : (header o).payload - 6 + 6 ≡ (header o).payload = omega (arith, behind) in
      rw f
      (ap (first_match (entries t) (header o))
      (sym
      (rw back
      at (moved without o (tag_place o) ((header o).payload - 6) (rw f at s) (rw f at within) (omega (arith, behind)))))))
      (λ f.
      rw f
      (sym
      (same_match (payload (header o) without) (payload (header o) o)
      (lengthened without o (length o - 6) (header o).payload (rw f at s) (rw f at within) (omega (arith, s.long)))
      (entries t)
      (header o)
      (rw (← own, f) at u))))

-- as a caller meets it
pub same_when_inserted : SameWhenInserted
same_when_inserted t e o n id out k later r u p q =
    let w = wrote (verdict (insert_checks e o id (length out))) p in
    let was = good_frame o (insertable e o id (length out) w.accepted).reads in
    let is = inserted_reads e o n id (length out) w.accepted was in
    rw w.written at q
    ∙ lookup_asked t (inserted e o n id) o is was (asked_tagged e n _) (found_inserted t e o n id (length out) w.accepted was u)

pub same_when_removed : SameWhenRemoved
same_when_removed t e o out k later r u p q =
    let w = wrote (verdict (remove_checks e o (length out))) p in
    let was = good_frame o (removable e o (length out) w.accepted).reads in
    let is = removed_reads e o (length out) w.accepted was in
    rw w.written at q
    ∙ lookup_asked t (removed e o) o is was (asked_untagged e _) (found_removed t e o (length out) w.accepted was is u)
