-- A search for the frame's address, tag and VLAN: what is known at a place, where it stops and how it goes on. Assumes nothing.
use Prim.Native.Nat.{ℕ, suc, ◌+◌, ◌-◌, ◌/◌, ◌%◌, ◌≤◌, ◌<◌}
use native.Mathlib.Omega.{arith}
use mathlib.Core.Path.{◌≡◌, refl, sym, ap, ◌∙◌}
use mathlib.Core.Bool.{Bool, true, false, ◌&&◌, false≢true}
use mathlib.Core.List.{List}
use lib.ListN.{length, get_or, drop}
use lib.Dec.{ltb, eqb}
use borrow.Author.Tests.{ltb-true, ltb-false, le-ltb}
use Rattle.octets.specs.Number.{be16, be64}
use Rattle.std.specs.Prelude.{None, is_some}
use Rattle.octets.specs.Checks.{Verdict, good, refuse, answered}
use Rattle.octets.proofs.Bools.{by_cases, neither}
use Rattle.octets.proofs.Taken.{first_octet, last_octet, middle_six, octet_in, word16_in, word48_in}
use Rattle.frame.specs.declared.Header.{Header}
use Rattle.entry.specs.Contents.{kind, body_length, address, choice, vlan, handle, dscp, protocol, out_of_range, ip_out_of_range, unfit}
use Rattle.entry.specs.Ip.{ip_allows}
use Rattle.entry.specs.Matching.{vlan_id, allows, address_of, matches}
use Rattle.entry.specs.Front.{allows_by}
use Rattle.entry.proofs.Front.{allows_front}
use Rattle.streams.specs.declared.table.Place.{Place}
use Rattle.streams.specs.declared.table.Sought.TheVariants.{Match, Packet, Rest}
use Rattle.streams.specs.Table.{entries, first_match}
use Rattle.streams.specs.Walk.{behind, verdict_from, walked, matched_at, packet_at, front_at, Seeks}
use Rattle.streams.proofs.Bodies.{least_body, is_ip, not_ip}
use Rattle.streams.proofs.Walked.{entry_at, none_matches, passes, match_at, no_match_at, good_few, good_known, good_whole, good_fit}

-- the entries from where it began up to a place are good and none of them matches: those from there on decide
pub record Walking (t : List ℕ) (h : Header) (from : Place) (front : ℕ) (place : Place) : Type 0 where
  pub octets : (k : ℕ) → get_or t k 0 < 256
  pub within : place.at ≤ length t
  pub after : from.at ≤ place.at
  pub word : front ≡ front_at t place.at
  pub checked : verdict_from t from ≡ verdict_from t place
  pub matched : (p : List ℕ) → first_match (entries (drop from.at t)) h p ≡ first_match (entries (drop place.at t)) h p

pub at_the_start : (t : List ℕ) (h : Header) (from : Place) {front : ℕ} → ((k : ℕ) → get_or t k 0 < 256) → from.at ≤ length t
    → front ≡ front_at t from.at → Walking t h from front from
at_the_start t h from octets l e =
    record { octets = octets; within = l; after = omega arith; word = e; checked = refl; matched = λ p. refl }

module _ (t : List ℕ) (h : Header) (from : Place) {front : ℕ} {place : Place} (w : Walking t h from front place) where
  -- what a walk from the place on comes to
  from_here : (p : List ℕ) → walked t h p place ≡ walked t h p from
  unfolding walked
  from_here p = rw (w.checked, w.matched p) refl

  -- it stops where the rest is refused, or matches nothing
  stopped : (verdict_from t place ≡ good → (p : List ℕ) → first_match (entries (drop place.at t)) h p ≡ None)
      → Seeks t h from (Rest place)
  unfolding walked
  stopped f = record { comes = λ p. by_verdict p (verdict_from t place) refl ∙ from_here p; stops = tt }
    where
      by_verdict : (p : List ℕ) (v : Verdict) → verdict_from t place ≡ v → answered (verdict_from t place) None ≡ walked t h p place
      by_verdict p good e = simp (e, f e p)
      by_verdict p (refuse n) e = simp e

  -- no room for an entry is left
  pub at_the_end : length t - place.at < 12 → Seeks t h from (Rest place)
  at_the_end short = stopped (λ g p. none_matches t place h p (past g))
    where
      past : verdict_from t place ≡ good → length t ≤ place.at
      past g =
          by_cases (ltb place.at (length t))
          (λ e.
          let inside = ltb-true place.at (length t) e in
          let some = least_body (get_or t place.at 0) (good_known t place inside refl g) in
          let whole = good_whole t place inside refl g in
          absurd (omega (arith, some, whole)))
          (λ e. ltb-false place.at (length t) e)

  module _ (room : 12 ≤ length t - place.at) where
    inside : place.at < length t
    inside = omega arith

    whole_front : front ≡ be64 t place.at
    unfolding front_at
    whole_front = w.word ∙ simp (le-ltb _ _ room)

    top : front / 72057594037927936 ≡ get_or t place.at 0
    top = rw whole_front (first_octet t w.octets place.at)

    -- the kind is an octet
    pub kind_below : front / 72057594037927936 < 256
    kind_below = rw top (w.octets place.at)

    pub crowd : 256 ≤ place.passed → Seeks t h from (Rest place)
    crowd l = stopped (λ g p. absurd (omega (arith, good_few t place inside refl g)))

    -- what the front and the VLAN say of the frame to an entry that asks for this address
    abbrev says : ℕ → Bool
    says asked = allows_by front asked (be16 t (place.at + 8)) (is_some h.vlan) (vlan_id h.vlan)

    -- the entry there, by its body
    module _ (body : ℕ) (b : body ≡ body_length (front / 72057594037927936)) where
      told : body ≡ body_length (get_or t place.at 0)
      told = b ∙ ap body_length top

      pub stranger : body ≡ 0 → Seeks t h from (Rest place)
      stranger z = stopped (λ g p. absurd (good_known t place inside told g z))

      pub too_short : length t - place.at < 1 + body → Seeks t h from (Rest place)
      too_short l = stopped (λ g p. absurd (omega (arith, good_whole t place inside told g)))

      module _ (least : 11 ≤ body) where
        abbrev e : List ℕ
        e = entry_at t place.at body

        kind_e : kind e ≡ front / 72057594037927936
        unfolding kind
        kind_e =
            let n : place.at + 0 ≡ place.at = omega arith in
            octet_in t place.at (suc body) 0 (omega arith) ∙ rw n (sym top)

        choice_e : choice e ≡ front % 256
        unfolding choice
        choice_e = octet_in t place.at (suc body) 7 (omega arith) ∙ sym (rw whole_front (last_octet t w.octets place.at))

        vlan_e : vlan e ≡ be16 t (place.at + 8)
        unfolding vlan
        vlan_e = word16_in t place.at (suc body) 8 (omega arith)

        handle_e : handle e ≡ be16 t (place.at + (body - 1))
        unfolding handle
        handle_e =
            let n : body_length (kind e) ≡ body = ap body_length kind_e ∙ sym b in
            rw n (word16_in t place.at (suc body) (body - 1) (omega arith))

        -- the test of every kind, by the front
        allowed : says (address_of (front / 72057594037927936) h) ≡ allows e (address_of (kind e) h) h
        unfolding address
        allowed =
            let address-e = word48_in t place.at (suc body) 1 (omega arith) in
            let six : front / 256 % 281474976710656 ≡ address e = rw (address-e, whole_front) (middle_six t w.octets place.at) in
            rw (← vlan_e, kind_e) (allows_front e (address_of (front / 72057594037927936) h) h front six (sym choice_e))

        -- a choice or VLAN out of range
        pub outside : out_of_range (front % 256) (be16 t (place.at + 8)) ≡ true → Seeks t h from (Rest place)
        unfolding unfit
        outside o =
            stopped
            (λ g p.
            let fit : out_of_range (choice e) (vlan e) ≡ false = (neither _ _ (good_fit t place inside told g)).0 in
            absurd (false≢true (sym fit ∙ (rw (choice_e, vlan_e) o))))

        -- a good entry gives the stream, or is passed
        module _ (few : place.passed < 256) (whole : 1 + body ≤ length t - place.at) (fit : unfit e ≡ false) where
          next : verdict_from t place ≡ verdict_from t (behind place body)
          next = passes t place inside told few (λ z. absurd (omega arith)) (omega arith) fit

          finds : (p : List ℕ) → matches e h p ≡ true → matched_at t place body ≡ walked t h p place
          unfolding walked matched_at
          finds p m = simp (next, match_at t place inside told h p m, handle_e)

          leaves_out : (p : List ℕ) → matches e h p ≡ false → walked t h p (behind place body) ≡ walked t h p place
          unfolding walked
          leaves_out p m = simp (next, no_match_at t place inside told h p m)

          goes_on : allows e (address_of (kind e) h) h ≡ false → {later : ℕ} → later ≡ front_at t (place.at + (1 + body))
              → Walking t h from later (behind place body)
          unfolding matches
          goes_on m f =
              record {
                octets = w.octets;
                within = omega arith;
                after = omega (arith, w.after);
                word = f;
                checked = w.checked ∙ next;
                matched = λ p. w.matched p ∙ no_match_at t place inside told h p (rw m refl);
              }

    -- kinds 1 and 2
    module _ (b : 11 ≡ body_length (front / 72057594037927936)) (few : place.passed < 256)
        (ranges : out_of_range (front % 256) (be16 t (place.at + 8)) ≡ false)
      where
        abbrev one : List ℕ
        one = entry_at t place.at 11

        eleven : 11 ≤ 11
        eleven = omega arith

        by_kind : eqb (kind one) 4 ≡ false
        by_kind = rw (kind_e 11 b eleven) (not_ip _ b)

        one_fit : unfit one ≡ false
        unfolding unfit
        one_fit = simp (choice_e 11 b eleven, vlan_e 11 b eleven, ranges, by_kind)

        pub at_match : says (address_of (front / 72057594037927936) h) ≡ true → Seeks t h from (Match place)
        unfolding matches
        at_match m =
            record {
              comes = λ p. finds 11 b eleven few room one_fit p (rw (sym (allowed 11 b eleven) ∙ m, by_kind) refl) ∙ from_here p;
              stops = record { some = omega arith; there = omega arith; few = few };
            }

        pub no_match : says (address_of (front / 72057594037927936) h) ≡ false → {later : ℕ} → later ≡ front_at t (place.at + 12)
            → Walking t h from later (behind place 11)
        no_match m = goes_on 11 b eleven few room one_fit (sym (allowed 11 b eleven) ∙ m)

    -- kind 4
    module _ (b : 25 ≡ body_length (front / 72057594037927936)) (whole : 26 ≤ length t - place.at) where
      abbrev four : List ℕ
      four = entry_at t place.at 25

      enough : 11 ≤ 25
      enough = omega arith

      ip : kind four ≡ 4
      ip = kind_e 25 b enough ∙ is_ip _ b

      dscp_e : dscp four ≡ get_or t (place.at + 18) 0
      unfolding dscp
      dscp_e = octet_in t place.at 26 18 (omega arith)

      protocol_e : protocol four ≡ get_or t (place.at + 19) 0
      unfolding protocol
      protocol_e = octet_in t place.at 26 19 (omega arith)

      -- a DSCP or next protocol out of range
      pub ip_outside : ip_out_of_range (get_or t (place.at + 18) 0) (get_or t (place.at + 19) 0) ≡ true → Seeks t h from (Rest place)
      unfolding unfit
      ip_outside o =
          stopped
          (λ g p.
          let fit : eqb (kind four) 4 && ip_out_of_range (dscp four) (protocol four) ≡ false
          = (neither (out_of_range (choice four) (vlan four)) _ (good_fit t place inside (told 25 b) g)).1 in
          absurd (false≢true (sym fit ∙ simp (ip, dscp_e, protocol_e, o))))

      module _ (few : place.passed < 256) (ranges : out_of_range (front % 256) (be16 t (place.at + 8)) ≡ false)
          (ip_ranges : ip_out_of_range (get_or t (place.at + 18) 0) (get_or t (place.at + 19) 0) ≡ false)
        where
          four_fit : unfit four ≡ false
          unfolding unfit
          four_fit = simp (choice_e 25 b enough, vlan_e 25 b enough, ranges, ip, dscp_e, protocol_e, ip_ranges)

          -- it asks for the destination
          by_destination : says h.destination ≡ allows four (address_of (kind four) h) h
          unfolding address_of
          by_destination = rw (is_ip _ b) at (allowed 25 b enough)

          -- the packet decides
          pub at_packet : says h.destination ≡ true → Seeks t h from (Packet place)
          unfolding matches packet_at
          at_packet m =
              let meets = sym by_destination ∙ m in
              record {
                comes = λ p.
                    by_cases (ip_allows four h.kind p)
                    (λ yes. rw yes (finds 25 b enough few whole four_fit p (rw (meets, ip, yes) refl) ∙ from_here p))
                    (λ no. rw no (leaves_out 25 b enough few whole four_fit p (rw (meets, ip, no) refl) ∙ from_here p));
                stops = (w.after, record { some = omega arith; there = omega arith; few = few });
              }

          pub no_packet : says h.destination ≡ false → {later : ℕ} → later ≡ front_at t (place.at + 26)
              → Walking t h from later (behind place 25)
          no_packet m = goes_on 25 b enough few whole four_fit (sym by_destination ∙ m)
