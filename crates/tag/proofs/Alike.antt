-- What every stream reads of a frame with six octets more or less: a sequence tag put in at its place moves the payload on, and octets
-- behind the payload's start change nothing. Assumes nothing.
use Prim.Native.Nat.{ℕ, ◌+◌, ◌-◌, ◌≤◌, ◌<◌}
use native.Mathlib.Omega.{arith}
use mathlib.Core.Path.{◌≡◌, sym, ◌∙◌}
use mathlib.Core.Bool.{true, false, false≢true}
use mathlib.Core.List.{List}
use lib.ListN.{length, get_or}
use borrow.Author.Tests.{eqb-true}
use Rattle.std.specs.Prelude.{Option, None, Ok}
use Rattle.octets.specs.Number.{be16, be32, be48}
use Rattle.octets.specs.Checks.{good, verdict}
use Rattle.octets.proofs.Bools.{by_cases}
use Rattle.frame.specs.declared.Header.{Header}
use Rattle.frame.specs.declared.Tag.{Tag}
use Rattle.frame.specs.Layout.{C_TAG, destination, source, tagged, vlan, tag_place, announces, sequenced, payload_place}
use Rattle.frame.specs.Reader.{Before, checks, ctag, reading}
use Rattle.frame.proofs.Verdicts.{tag_at, header_at, place_bounds, untagged, with_ctag, bare, with_tag}
use Rattle.frame.proofs.Accepted.{payload_tagged, payload_bare, behind_ctag, behind_tag, good_before, no_ctag}
use Rattle.tag.specs.RoundTrip.{retagged}
use Rattle.tag.proofs.Splice.{Spliced}

-- `y` has the octets of `x` before a place
pub record Same (x y : List ℕ) (at : ℕ) : Type 0 where
  pub octet : (k : ℕ) → k < at → get_or y k 0 ≡ get_or x k 0

-- so it has its numbers there
module _ {x y : List ℕ} {at : ℕ} (same : Same x y at) where
  same_word : (k : ℕ) → k + 1 < at → be16 y k ≡ be16 x k
  unfolding be16
  same_word k h = omega (arith, same.octet k (omega arith), same.octet (k + 1) h)

  same_address : (k : ℕ) → k + 5 < at → be48 y k ≡ be48 x k
  unfolding be48 be32
  same_address k h = omega (arith, same_word k (omega arith), same_word (k + 2) (omega arith), same_word (k + 2 + 2) (omega arith))

  -- and its header but for what it says of a sequence tag, where the last types are equal
  same_header : 12 ≤ at → (v : Option ℕ) (s t : Option Tag) (p q : ℕ) → be16 y q ≡ be16 x p
      → header_at y v t q ≡ retagged (header_at x v s p) t (q + 2)
  unfolding retagged destination source
  same_header far v s t p q e = simp (same_address 0 (omega arith), same_address 6 (omega arith), e)

-- a type that announces a sequence tag announces no C-TAG
pub no_type_of_both : {m : ℕ} → announces m ≡ true → m ≡ C_TAG → ⊥
unfolding announces
no_type_of_both k x = false≢true (rw x at k)

-- all before the sequence tag's place of a good frame `x`, in a frame `y` that has the same octets there: the C-TAG of one is the other's
module _ (x y : List ℕ) (ok : verdict (checks x) ≡ good) (same : Same x y (tag_place x)) where
  pub before_alike : tag_place x + 2 ≤ length y → length y ≤ 1522 → (be16 y (tag_place x) ≡ C_TAG → ⊥)
      → Before y (tag_place x) (ctag x)
  unfolding tag_place ctag vlan tagged
  before_alike large small other = by_cases (tagged x) with_one without
    where
      with_one : tagged x ≡ true → Before y (tag_place x) (ctag x)
      with_one e =
          let s : tag_place x ≡ 16 = simp e in
          let g = behind_ctag x ok e in
          let vid = same_word same 14 (omega arith) in
          rw (e, ← vid)
          (with_ctag
          y
          (omega arith)
          small
          (same_word same 12 (omega arith) ∙ eqb-true _ _ e)
          (omega arith)
          (λ z. g.1 (simp e (omega (arith, vid))))
          (λ z. other (rw s z)))

      without : tagged x ≡ false → Before y (tag_place x) (ctag x)
      without e =
          let s : tag_place x ≡ 12 = simp e in rw e (untagged y (omega arith) small (λ z. other (rw s z)))

-- a sequence tag put in: `b` is a frame without one, and `i` the same frame with one at a place
module _ {b i : List ℕ} {at : ℕ} (T : Spliced b i at) where
  pub word_behind : (k : ℕ) → at ≤ k → be16 i (k + 6) ≡ be16 b k
  unfolding be16
  word_behind k h =
      let e : k + 6 + 1 ≡ k + 1 + 6 = omega arith in
      rw e (omega (arith, T.behind k h, T.behind (k + 1) (omega arith)))

  -- all before the place is read and good, of both
  module _ {v : Option ℕ} (below : Before b at v) (above : Before i at v)
      (there : announces (be16 i at) ≡ true) (c : be16 b at ≡ C_TAG → ⊥) (r : announces (be16 b at) ≡ false) (l : at + 8 ≤ length i) where
    reads_bare : Ok (header_at b v None at) ≡ reading b
    reads_bare = bare below r

    reads_tagged : Ok (retagged (header_at b v None at) (tag_at i at) (at + 6 + 2)) ≡ reading i
    reads_tagged =
        let behind = word_behind at (omega arith) in
        let far = (place_bounds below).0 in
        let same : Same b i at = record { octet = T.before } in
        let like = same_header same far v None (tag_at i at) at (at + 6) behind in
        rw (← like) (with_tag above there l (λ x. c (sym behind ∙ x)) (rw behind r))

    module _ {h : Header} where
      pub reads_in : Ok h ≡ reading b → Ok (retagged h (tag_at i at) (h.payload + 6)) ≡ reading i
      unfolding retagged
      reads_in e =
          let is : h ≡ header_at b v None at = cc reads_bare in
          let eight : at + 2 + 6 ≡ at + 6 + 2 = omega arith in
          rw is (simp eight reads_tagged)

      pub reads_off : Ok h ≡ reading i → Ok (retagged h None (h.payload - 6)) ≡ reading b
      unfolding retagged
      reads_off e =
          let is : h ≡ retagged (header_at b v None at) (tag_at i at) (at + 6 + 2) = cc reads_tagged in
          let two : at + 6 + 2 - 6 ≡ at + 2 = omega arith in
          simp (is, two) reads_bare

-- octets behind the payload's start: a good frame `x`, and a frame `y` that has the same octets before it
module _ (x y : List ℕ) (ok : verdict (checks x) ≡ good) (same : Same x y (payload_place x)) (large : payload_place x ≤ length y)
    (small : length y ≤ 1522) where
  -- the sequence tag's place lies before it, and the type there with it
  place_before : tag_place x + 2 ≤ payload_place x
  place_before =
      by_cases (sequenced x) (λ s. omega (arith, payload_tagged x s)) (λ s. omega (arith, payload_bare x s))

  type_there : be16 y (tag_place x) ≡ be16 x (tag_place x)
  type_there = same_word same (tag_place x) (omega (arith, place_before))

  above : Before y (tag_place x) (ctag x)
  above =
      before_alike x y ok (record { octet = λ k h. same.octet k (omega (arith, place_before)) }) (omega (arith, place_before)) small
      (λ z. no_ctag x ok (sym type_there ∙ z))

  -- a header with the last type at a place before the payload
  header_there : (t : Option Tag) (p : ℕ) → p + 1 < payload_place x → header_at y (ctag x) t p ≡ header_at x (ctag x) t p
  unfolding retagged
  header_there t p h =
      same_header same (omega (arith, place_before, (place_bounds above).0)) (ctag x) t t p p (same_word same p h)

  pub same_reading : reading y ≡ reading x
  unfolding sequenced
  same_reading = by_cases (sequenced x) with_one without
    where
      with_one : sequenced x ≡ true → reading y ≡ reading x
      with_one s =
          let g = behind_tag x ok s in
          let p = payload_tagged x s in
          let behind = same_word same (tag_place x + 6) (omega arith) in
          let reads = with_tag above (rw type_there s) (omega arith) (λ z. g.1 (sym behind ∙ z)) (rw behind g.2) in
          sym reads
          ∙ rw (
            type_there,
            same_word same (tag_place x + 4) (omega arith),
            header_there (tag_at x (tag_place x)) (tag_place x + 6) (omega arith),
          )
          (with_tag (good_before x ok) s (omega (arith, g.0)) g.1 g.2)

      without : sequenced x ≡ false → reading y ≡ reading x
      without s =
          let p = payload_bare x s in
          sym (bare above (rw type_there s)) ∙ rw (header_there None (tag_place x) (omega arith)) (bare (good_before x ok) s)
