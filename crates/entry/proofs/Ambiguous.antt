-- Two entries in range are ambiguous exactly if the test of `Clash` says so, and the test by their fronts is that test. Assumes nothing.
use Prim.Native.Nat.{ℕ, zero, suc, ◌/◌, ◌%◌, ◌<◌, ◌≤◌}
use native.Mathlib.Omega.{arith}
use mathlib.Core.Path.{◌≡◌, refl, sym, ap, ◌∙◌}
use mathlib.Core.Bool.{Bool, true, false, not, ◌&&◌, ◌||◌, or-true, or-false}
use mathlib.Core.List.{List, [], ◌∷◌}
use mathlib.Core.Logic.{◌⊎◌, inl, inr, ⊎_elim}
use lib.ListN.{get_or}
use lib.Dec.{eqb}
use borrow.Author.Tests.{ltb-false, eqb-true, eqb-false, eq-eqb, ne_eqb, not-true}
use Rattle.std.specs.Prelude.{Some}
use Rattle.octets.specs.Number.{be16, be32, be48}
use Rattle.octets.specs.Checks.{good, verdict}
use Rattle.octets.proofs.Bools.{by_cases, both, and_true, neither}
use Rattle.frame.specs.declared.Header.{Header}
use Rattle.frame.specs.Layout.{destination, source, tagged, vlan as frame_vlan, tag_place, announces, sequenced}
use Rattle.frame.specs.Reader.{length_checks, ctag_checks, checks, ctag, header}
use Rattle.entry.specs.Contents.{kind, IP, address, choice, vlan, out_of_range, unfit}
use Rattle.entry.specs.Matching.{vlan_id, choice_allows, allows, address_of, matches}
use Rattle.entry.specs.Front.{choice_fits}
use Rattle.entry.specs.Ambiguous.{by_address, matches_frame, Ambiguous, NeverAmbiguous}
use Rattle.entry.specs.Clash.{meet, clash, clash_by}
use Rattle.entry.proofs.Front.{choice-fits}

-- what a choice and a VLAN ask of a frame's VLAN id: priority asks for 0, and a VLAN that is not 0 for itself
record Takes (choice vlan id : ℕ) : Type 0 where
  priority : choice ≡ 2 → id ≡ 0
  asked : (vlan ≡ 0 → ⊥) → vlan ≡ id

module _ {c v o b : ℕ} where
  -- two that take one id meet
  meets : {id : ℕ} → Takes c v id → Takes o b id → meet c v o b ≡ true
  unfolding meet
  meets {id} p q =
      by_cases (eqb id 0) (λ none. simp (no_vlan p none, no_vlan q none))
      (λ some.
      rw (not_priority p some, not_priority q some)
      (by_cases (eqb v 0) (λ e. simp (e, or-true))
      (λ first.
      by_cases (eqb b 0) (λ e. simp (e, or-true))
      (λ second. simp (eq-eqb v b (p.asked (eqb-false v 0 first) ∙ sym (q.asked (eqb-false b 0 second))), or-true)))))
    where
      no_vlan : {c v : ℕ} → Takes c v id → eqb id 0 ≡ true → eqb v 0 ≡ true
      no_vlan {v = v} p none =
          by_cases (eqb v 0) (λ e. e) (λ e. eq-eqb v 0 (p.asked (eqb-false v 0 e) ∙ eqb-true id 0 none))

      not_priority : {c v : ℕ} → Takes c v id → eqb id 0 ≡ false → eqb c 2 ≡ false
      not_priority {c} p some = ne_eqb c 2 (λ e. eqb-false id 0 some (p.priority e))

  -- where two meet, priority leaves no VLAN but 0
  none_beside : meet c v o b ≡ true → (c ≡ 2 → (v ≡ 0) × (b ≡ 0)) × (o ≡ 2 → (v ≡ 0) × (b ≡ 0))
  unfolding meet
  none_beside m =
      by_cases (eqb v 0 && eqb b 0)
      (λ none.
      let z = both _ _ none in
      let zeros : (v ≡ 0) × (b ≡ 0) = (eqb-true v 0 z.0, eqb-true b 0 z.1) in
      (λ p. zeros, λ p. zeros))
      (λ some.
      let choices = both (not (eqb c 2)) (not (eqb o 2)) (both _ _ (rw some at m)).0 in
      (λ p. absurd (eqb-false c 2 (not-true _ choices.0) p), λ p. absurd (eqb-false o 2 (not-true _ choices.1) p)))

  -- and both take the VLAN of one of them
  met : meet c v o b ≡ true → (Takes c v b × Takes o b b) ⊎ (Takes c v v × Takes o b v)
  unfolding meet
  met m =
      let none = none_beside m in
      by_cases (eqb v 0)
      (λ e.
      let first : Takes c v b = record { priority = λ p. (none.0 p).1; asked = λ n. absurd (n (eqb-true v 0 e)) } in
      inl (first, record { priority = λ p. (none.1 p).1; asked = λ n. refl }))
      (λ e.
      let choices = not (eqb c 2) && not (eqb o 2) in
      let equal : (b ≡ 0 → ⊥) → v ≡ b = λ n. eqb-true v b (both choices (eqb v b) (rw (e, ne_eqb b 0 n) at m)).1 in
      let second : Takes o b v = record { priority = λ p. (none.1 p).0; asked = λ n. sym (equal n) } in
      inr (record { priority = λ p. (none.0 p).0; asked = λ n. refl }, second))

-- an entry takes the id of a frame that it allows
allowed : (e : List ℕ) (asked : ℕ) (h : Header) → allows e asked h ≡ true → Takes (choice e) (vlan e) (vlan_id h.vlan)
unfolding allows choice_fits
allowed e asked h a =
    let parts = both _ (eqb (vlan e) 0 || eqb (vlan e) (vlan_id h.vlan)) a in
    let fits = choice-fits (choice e) h.vlan ∙ (both (eqb (address e) asked) _ parts.0).1 in
    record {
      priority = λ p. eqb-true (vlan_id h.vlan) 0 (simp (p, or-false) at fits);
      asked = λ n. eqb-true (vlan e) (vlan_id h.vlan) (rw (ne_eqb (vlan e) 0 n) at parts.1);
    }

module _ (e : List ℕ) (fit : unfit e ≡ false) where
  in_range : (1 ≤ choice e) × (choice e ≤ 3) × (vlan e ≤ 4094)
  unfolding unfit out_of_range
  in_range =
      let parts = neither _ _ (neither _ _ fit).0 in
      let ends = neither _ _ parts.0 in
      (ltb-false _ _ ends.0, ltb-false _ _ ends.1, ltb-false _ _ parts.1)

  module _ (h : Header) {id : ℕ} (t : h.vlan ≡ Some id) (p : Takes (choice e) (vlan e) id) where
    by_choice : choice_allows (choice e) h.vlan ≡ true
    unfolding choice_allows
    by_choice =
        by_cases (eqb (choice e) 1) (λ one. simp (one, t))
        (λ not-one.
        by_cases (eqb (choice e) 2) (λ two. simp (t, p.priority (eqb-true (choice e) 2 two), two, or-true))
        (λ not-two.
        let range = in_range in
        let three : choice e ≡ 3 = omega (arith, eqb-false (choice e) 1 not-one, eqb-false (choice e) 2 not-two) in
        simp (three, or-true)))

    by_vlan : (eqb (vlan e) 0 || eqb (vlan e) (vlan_id h.vlan)) ≡ true
    by_vlan = by_cases (eqb (vlan e) 0) (λ z. simp z) (λ n. simp (t, eq-eqb _ _ (p.asked (eqb-false _ _ n)), or-true))

    -- an entry in range allows a frame whose C-TAG has an id that it takes
    taken : allows e (address e) h ≡ true
    unfolding allows
    taken = and_true (and_true (eq-eqb (address e) (address e) refl) by_choice) by_vlan

-- an entry's address in front of octets
abbrev address_then : List ℕ → List ℕ → List ℕ
address_then e o = get_or e 1 0 ∷ get_or e 2 0 ∷ get_or e 3 0 ∷ get_or e 4 0 ∷ get_or e 5 0 ∷ get_or e 6 0 ∷ o

-- the frame that is built: to and from the address of an entry, with a C-TAG of the VLAN of `x`; its type, 88B5, announces no tag
unfoldable witness : List ℕ → List ℕ → List ℕ
witness e x = address_then e (address_then e (0x81 ∷ 0 ∷ get_or x 8 0 ∷ get_or x 9 0 ∷ 0x88 ∷ 0xB5 ∷ []))

-- that each is an octet, one after the other
record Octets (o : List ℕ) : Type 0 where
  at : (k : ℕ) → get_or o k 0 < 256

next : {n : ℕ} {o : List ℕ} → n < 256 → Octets o → Octets (n ∷ o)
next {n} {o} h r = record { at = found }
  where
    found : (k : ℕ) → get_or (n ∷ o) k 0 < 256
    found zero = h
    found (suc k) = r.at k

module _ (e x : List ℕ) where
  frame_octets : ((k : ℕ) → get_or e k 0 < 256) → ((k : ℕ) → get_or x k 0 < 256) → Octets (witness e x)
  unfolding witness
  frame_octets octets-e octets-x =
      let type : Octets (0x88 ∷ 0xB5 ∷ []) = next (omega arith) (next (omega arith) (record { at = λ k. omega arith })) in
      six (six (next (omega arith) (next (omega arith) (next (octets-x 8) (next (octets-x 9) type)))))
    where
      six : {o : List ℕ} → Octets o → Octets (address_then e o)
      six r =
          next (octets-e 1)
          (next (octets-e 2) (next (octets-e 3) (next (octets-e 4) (next (octets-e 5) (next (octets-e 6) r)))))

  frame_header : vlan x ≤ 4094
      → let h = header (witness e x) in
      (h.vlan ≡ Some (vlan x)) × (h.destination ≡ address e) × (h.source ≡ address e)
  unfolding witness header ctag destination source tagged frame_vlan address vlan be16 be32 be48
  frame_header l = (ap (λ (id : ℕ). Some id) (omega arith), refl, refl)

  frame_good : vlan x ≤ 4094 → verdict (checks (witness e x)) ≡ good
  unfolding witness checks length_checks ctag_checks verdict tagged frame_vlan tag_place announces sequenced be16 vlan
  frame_good l = simp (ne_eqb (frame_vlan (witness e x)) 4095 (λ n. omega arith))

-- the kind tells
pub same_kind : (e f : List ℕ) → kind e ≡ kind f → by_address f ≡ by_address e
unfolding by_address
same_kind e f kinds = rw kinds

-- what holds of kinds 1 and 2 holds of such an entry
by-address : (e : List ℕ) → by_address e ≡ true → (P : ℕ → Type 0) → P 1 → P 2 → P (kind e)
unfolding by_address
by-address e known P one two =
    by_cases (eqb (kind e) 1) (λ is. rw (eqb-true (kind e) 1 is) one) (λ is. rw (eqb-true (kind e) 2 (rw is at known)) two)

-- it matches the frame, if it has the address, is in range and takes the VLAN
module _ (e a x : List ℕ) (known : by_address e ≡ true) (same : address e ≡ address a) (l : vlan x ≤ 4094) where
  asks : address_of (kind e) (header (witness a x)) ≡ address e
  unfolding address_of
  asks =
      let told = frame_header a x l in
      by-address e known (λ (k : ℕ). address_of k (header (witness a x)) ≡ address e) (told.1 ∙ sym same) (told.2 ∙ sym same)

  matched : unfit e ≡ false → Takes (choice e) (vlan e) (vlan x) → matches_frame e (witness a x) ≡ true
  unfolding matches
  matched fit p =
      let told = frame_header a x l in
      let not_ip = by-address e known (λ (k : ℕ). eqb k IP ≡ false) refl refl in
      rw (asks, not_ip, taken e fit (header (witness a x)) told.0 p)

-- two entries for one address, by their tests
abbrev alike : List ℕ → List ℕ → Bool
alike e f = by_address e && eqb (kind e) (kind f) && eqb (address e) (address f)

are_alike : (e f : List ℕ) → alike e f ≡ true → (by_address e ≡ true) × (kind e ≡ kind f) × (address e ≡ address f)
are_alike e f t =
    let parts = both (by_address e && eqb (kind e) (kind f)) _ t in
    let kinds = both (by_address e) _ parts.0 in
    (kinds.0, eqb-true _ _ kinds.1, eqb-true _ _ parts.1)

-- two entries that clash are for one address, and meet
pub parts_of : (e f : List ℕ) → clash e f ≡ true
    → ((by_address e ≡ true) × (kind e ≡ kind f) × (address e ≡ address f)) × (meet (choice e) (vlan e) (choice f) (vlan f) ≡ true)
unfolding clash
parts_of e f c = let parts = both (alike e f) _ c in (are_alike e f parts.0, parts.1)

-- where the test of two entries in range says so, they are ambiguous: the frame has the VLAN of one of them
pub builds : (e f : List ℕ) → ((k : ℕ) → get_or e k 0 < 256) → ((k : ℕ) → get_or f k 0 < 256) → unfit e ≡ false → unfit f ≡ false
    → clash e f ≡ true → Ambiguous e f
builds e f octets-e octets-f fit-e fit-f c =
    ⊎_elim (with_vlan f octets-f fit-f) (with_vlan e octets-e fit-e) (met (parts_of e f c).1)
  where
    with_vlan : (x : List ℕ) → ((k : ℕ) → get_or x k 0 < 256) → unfit x ≡ false
        → Takes (choice e) (vlan e) (vlan x) × Takes (choice f) (vlan f) (vlan x) → Ambiguous e f
    with_vlan x octets-x fit-x takes =
        let same = (parts_of e f c).0 in
        let l = (in_range x fit-x).2 in
        record {
          kinds = same.1;
          one_or_two = same.0;
          addresses = same.2;
          frame = witness e x;
          accepted = record { octets = (frame_octets e x octets-e octets-x).at; reads = frame_good e x l };
          first = matched e e x same.0 refl l fit-e takes.0;
          second = matched f e x (same_kind e f same.1 ∙ same.0) (sym same.2) l fit-f takes.1;
        }

-- an entry takes the VLAN id of a frame that it matches
takes : (e o : List ℕ) → matches_frame e o ≡ true → Takes (choice e) (vlan e) (vlan_id (header o).vlan)
unfolding matches
takes e o m = let h = header o in allowed e _ h (both (allows e (address_of (kind e) h) h) _ m).0

-- and only there, of any two
pub only_ambiguous : (e f : List ℕ) → Ambiguous e f → clash e f ≡ true
unfolding clash
only_ambiguous e f a =
    let meet = meets (takes e a.frame a.first) (takes f a.frame a.second) in
    rw (a.one_or_two, eq-eqb _ _ a.kinds, eq-eqb _ _ a.addresses, meet)

pub never_ambiguous : NeverAmbiguous
never_ambiguous e f two some = (λ a. none a.frame a.first, λ a. none a.frame a.second)
  where
    none : (o : List ℕ) → matches_frame e o ≡ true → ⊥
    none o m = let t = takes e o m in some (t.asked some ∙ t.priority two)

-- the test by two fronts
pub clash_front : (e f : List ℕ) (front other : ℕ) → front / 72057594037927936 ≡ kind e → front / 256 % 281474976710656 ≡ address e
    → front % 256 ≡ choice e → other / 72057594037927936 ≡ kind f → other / 256 % 281474976710656 ≡ address f → other % 256 ≡ choice f
    → by_address f ≡ true → clash_by front (vlan e) other (vlan f) ≡ clash e f
unfolding clash clash_by
clash_front e f front other ke ae ce kf af cf known = rw (ce, cf) (ap (λ (t : Bool). t && meet (choice e) (vlan e) (choice f) (vlan f)) same)
  where
    same : eqb (front / 256) (other / 256) ≡ alike e f
    same =
        by_cases (eqb (front / 256) (other / 256))
        (λ yes.
        let q : front / 256 ≡ other / 256 = eqb-true _ _ yes in
        let kinds : kind e ≡ kind f = omega arith in
        let addresses : address e ≡ address f = omega arith in
        yes ∙ sym (and_true (and_true (same_kind f e (sym kinds) ∙ known) (eq-eqb _ _ kinds)) (eq-eqb _ _ addresses)))
        (λ no.
        by_cases (alike e f)
        (λ yes.
        let parts = are_alike e f yes in
        let q : front / 256 ≡ other / 256 = omega arith in
        absurd (eqb-false _ _ no q))
        (λ none. no ∙ sym none))
