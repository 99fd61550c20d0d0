-- What the header of a frame tells of the number that it carries: by which type it is announced, and where its six octets stand. Assumes
-- nothing.
use Prim.Native.Nat.{ℕ, ◌+◌, ◌-◌, ◌%◌, ◌≤◌}
use native.Mathlib.Omega.{arith}
use mathlib.Core.Path.{◌≡◌, refl, sym, ◌∙◌, ap}
use mathlib.Core.Bool.{true, false, false≢true, ◌&&◌}
use mathlib.Core.List.{List}
use lib.ListN.{length}
use lib.Dec.{leb, eqb}
use borrow.Author.Tests.{ne_eqb, eq-eqb, eqb-true, leb-true}
use Rattle.std.specs.Prelude.{Some, None, Ok, is_some}
use Rattle.octets.specs.Number.{be16}
use Rattle.octets.specs.Checks.{good, verdict}
use Rattle.octets.proofs.Bools.{by_cases, both}
use Rattle.frame.specs.declared.Header.{Header}
use Rattle.frame.specs.declared.Tag.{Tag}
use Rattle.frame.specs.Layout.{tag_place, announces, sequenced, announced, number, payload_place, payload_length}
use Rattle.frame.specs.Reader.{checks, sequence_tag, header, reading}
use Rattle.frame.proofs.Verdicts.{place_bounds}
use Rattle.frame.proofs.Accepted.{starts_within, frame_good, payload_tagged, payload_bare, good_before, behind_tag}
use Rattle.encoding.specs.declared.Encoding.{Encoding}
use Rattle.encoding.specs.declared.Encoding.TheVariants.{RTag, Hsr, Prp}
use Rattle.encoding.specs.Encodings.{in_front, place, mark, trails, carries, standing, number_at, id_in, numbered, sequence}

-- the word that tells an encoding in front announces a sequence tag
pub mark_announces : (e : Encoding) → in_front e ≡ true → announces (mark e) ≡ true
unfolding in_front announces mark
mark_announces RTag f = refl
mark_announces Hsr f = refl
mark_announces Prp f = f

-- what a frame carries in front, and at its end
pub carries_front : (e : Encoding) (o : List ℕ) → in_front e ≡ true → carries e o ≡ eqb (be16 o (tag_place o)) (mark e)
unfolding carries
carries_front e o f = rw f

pub carries_back : (e : Encoding) (o : List ℕ) → in_front e ≡ false → carries e o ≡ trails o (mark e) (payload_length o)
unfolding carries
carries_back e o f = rw f

-- what a trailer says
trailing : (o : List ℕ) (suffix octets : ℕ) → trails o suffix octets ≡ true
    → (6 ≤ octets) × (be16 o (length o - 2) ≡ suffix) × (be16 o (length o - 4) % 4096 ≡ octets)
unfolding trails
trailing o suffix octets t =
    let ends = eqb (be16 o (length o - 2)) suffix in
    let sized = both (leb 6 octets && ends) (eqb (be16 o (length o - 4) % 4096) octets) t in
    let suffixed = both (leb 6 octets) ends sized.0 in
    (leb-true _ _ suffixed.0, eqb-true _ _ suffixed.1, eqb-true _ _ sized.1)

-- what is in front is a sequence tag
pub carried_sequenced : (e : Encoding) (o : List ℕ) → in_front e ≡ true → carries e o ≡ true → sequenced o ≡ true
unfolding sequenced
carried_sequenced e o f c =
    let is : be16 o (tag_place o) ≡ mark e = eqb-true _ _ (sym (carries_front e o f) ∙ c) in rw is (mark_announces e f)

-- of a frame that was read
module _ (o : List ℕ) {h : Header} (e : Ok h ≡ reading o) where
  is_tag : h.tag ≡ sequence_tag o
  unfolding header
  is_tag = ap (λ (x : Header). x.tag) (frame_good o e).1

  -- its header tells whether it has a sequence tag
  pub is_sequenced : is_some h.tag ≡ sequenced o
  unfolding sequence_tag
  is_sequenced = by_cases (sequenced o) (λ s. rw (is_tag, s)) (λ s. rw (is_tag, s))

  -- and what the tag says
  pub tag_said : {t : Tag} → h.tag ≡ Some t → (t.kind ≡ be16 o (tag_place o)) × (t.number ≡ be16 o (tag_place o + 4))
  unfolding sequence_tag announced number
  tag_said {t} i =
      let s : sequenced o ≡ true = sym is_sequenced ∙ rw i refl in
      let is = rw s at is_tag in
      (cc, cc)

  pub starts : h.payload ≡ payload_place o
  unfolding header
  starts = ap (λ (x : Header). x.payload) (frame_good o e).1

  -- behind both addresses and a type
  pub far : 14 ≤ h.payload
  far =
      let past = (place_bounds (good_before o (frame_good o e).0)).0 in
      by_cases (sequenced o) (λ s. omega (arith, past, starts, payload_tagged o s)) (λ s. omega (arith, past, starts, payload_bare o s))

  pub payload_octets : length o - h.payload ≡ payload_length o
  unfolding payload_length
  payload_octets = rw starts

-- of a frame that reading accepts
module _ (e : Encoding) (o : List ℕ) (ok : verdict (checks o) ≡ good) (c : carries e o ≡ true) where
  behind : in_front e ≡ true → tag_place o + 6 + 2 ≤ length o
  behind f = (behind_tag o ok (carried_sequenced e o f c)).0

  -- a trailer: the payload has its six octets, the last two are the suffix, and the size is the payload's length
  pub trailed : in_front e ≡ false
      → (6 ≤ payload_length o) × (be16 o (length o - 2) ≡ mark e) × (be16 o (length o - 4) % 4096 ≡ payload_length o)
  trailed f = trailing o (mark e) (payload_length o) (sym (carries_back e o f) ∙ c)

  pub standing_within : standing e o + 6 ≤ length o
  unfolding standing place payload_length
  standing_within = by_cases (in_front e) (λ f. rw f (omega (arith, behind f))) (λ f. rw f (omega (arith, (trailed f).0)))

-- the number is one of the three words
pub number_within : (e : Encoding) → number_at e ≤ 4
unfolding number_at
number_within e = by_cases (in_front e) (λ f. rw f (omega arith)) (λ f. rw f (omega arith))

-- so where its payload starts tells where the six octets stand
pub stands_at : (e : Encoding) (o : List ℕ) {h : Header} → Ok h ≡ reading o → carries e o ≡ true
    → place e (h.payload - 8) (length o - 6) ≡ standing e o
unfolding place standing
stands_at e o r c =
    by_cases (in_front e) (λ f. rw f (omega (arith, starts o r, payload_tagged o (carried_sequenced e o f c)))) (λ f. rw f)

-- where both places are so low, so is the one that an encoding has
pub place_below : (e : Encoding) {front back most : ℕ} → front ≤ most → back ≤ most → place e front back ≤ most
unfolding place
place_below e f b = by_cases (in_front e) (λ t. rw t f) (λ t. rw t b)

-- what a frame carries, by the tag that was read
module _ (e : Encoding) (o : List ℕ) {h : Header} (r : Ok h ≡ reading o) (f : in_front e ≡ true) where
  pub no_tag : h.tag ≡ None → None ≡ sequence e o
  unfolding sequence
  no_tag n =
      by_cases (carries e o) (λ c. absurd (false≢true (rw n at (is_sequenced o r) ∙ carried_sequenced e o f c)))
      (λ c. rw c)

  pub another_tag : {t : Tag} → h.tag ≡ Some t → (t.kind ≡ mark e → ⊥) → None ≡ sequence e o
  unfolding sequence
  another_tag i n = rw (carries_front e o f, ne_eqb _ _ (rw (tag_said o r i).0 at n))

  pub its_tag : {t : Tag} → h.tag ≡ Some t → t.kind ≡ mark e → numbered t.number (id_in e (be16 o (h.payload - 6))) ≡ sequence e o
  unfolding sequence standing place number_at
  its_tag i m =
      let said = tag_said o r i in
      let c : carries e o ≡ true = carries_front e o f ∙ eq-eqb _ _ (sym said.0 ∙ m) in
      let there : h.payload - 6 ≡ tag_place o + 2 = omega (arith, starts o r, payload_tagged o (carried_sequenced e o f c)) in
      rw (c, f, there, said.1) refl

-- and by what stands at its end
module _ (e : Encoding) (o : List ℕ) (f : in_front e ≡ false) where
  pub no_trailer : trails o (mark e) (payload_length o) ≡ false → None ≡ sequence e o
  unfolding sequence
  no_trailer t = rw (carries_back e o f, t)

  pub its_trailer : trails o (mark e) (payload_length o) ≡ true
      → numbered (be16 o (length o - 6)) (id_in e (be16 o (length o - 6 + 2))) ≡ sequence e o
  unfolding sequence standing place number_at
  its_trailer t =
      let first : length o - 6 + 0 ≡ length o - 6 = omega arith in
      rw (carries_back e o f, t, f, first) refl

-- what the proofs of reading rest on
pub ruleset of_tag = (starts_within, far, no_tag, another_tag, its_tag)

pub ruleset of_trailer = (starts_within, far, payload_octets, no_trailer, its_trailer)
