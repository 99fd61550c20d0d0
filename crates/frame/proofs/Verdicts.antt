-- Which check decides a frame's reading, from what the tests on the way have shown. Assumes nothing.
use Prim.Native.Nat.{ℕ, ◌+◌, ◌%◌, ◌≤◌, ◌<◌}
use native.Mathlib.Omega.{arith}
use mathlib.Core.Path.{◌≡◌, refl}
use mathlib.Core.Bool.{Bool, true, false, cond}
use mathlib.Core.List.{List, []}
use lib.ListN.{length}
use lib.Dec.{ltb}
use borrow.Author.Tests.{lt-ltb, le-ltb, eq-eqb, ne_eqb}
use Rattle.octets.specs.Number.{be16}
use Rattle.std.specs.Prelude.{Option, Some, None, Ok, Err}
use Rattle.octets.specs.declared.Refusal.TheVariants.{FrameShort, FrameLong, TagCut, TagTwice, ReservedVlan}
use Rattle.octets.specs.Checks.{Verdict, verdict, good, refuse, answered}
use Rattle.octets.proofs.Bools.{by_cases}
use Rattle.frame.specs.declared.Header.{Header}
use Rattle.frame.specs.declared.Tag.{Tag}
use Rattle.frame.specs.Layout as Layout
use Rattle.frame.specs.Layout.{C_TAG, R_TAG, HSR_TAG, tag_place, announces, sequenced}
use Rattle.frame.specs.Layout.{announced, number, kind, kind_place, payload_place}
use Rattle.frame.specs.Reader.{Before, length_checks, ctag_checks, sequence_checks, checks, ctag, sequence_tag, header_of, header, reading}

tag_place_bounds : (o : List ℕ) → (12 ≤ tag_place o) × (tag_place o ≤ 16)
unfolding tag_place
tag_place_bounds o = by_cases (Layout.tagged o) (λ e. rw e (omega arith, omega arith)) (λ e. rw e (omega arith, omega arith))

-- which types announce a sequence tag
pub announced_by_rtag : {type : ℕ} → type ≡ R_TAG → announces type ≡ true
unfolding announces
announced_by_rtag e = rw e refl

pub announced_by_hsr : {type : ℕ} → type ≡ HSR_TAG → announces type ≡ true
unfolding announces
announced_by_hsr e = rw e refl

pub announced_by_none : (type : ℕ) → (type ≡ R_TAG → ⊥) → (type ≡ HSR_TAG → ⊥) → announces type ≡ false
unfolding announces
announced_by_none type r h = simp (ne_eqb _ _ r, ne_eqb _ _ h)

module _ (o : List ℕ) where
  pub too_short : length o < 14 → Err FrameShort ≡ reading o
  unfolding reading checks length_checks verdict
  too_short h = simp (lt-ltb _ _ h)

  pub too_long : 14 ≤ length o → 1522 < length o → Err FrameLong ≡ reading o
  unfolding reading checks length_checks verdict
  too_long h l = simp (le-ltb _ _ h, lt-ltb _ _ l)

-- past the two lengths
module _ (o : List ℕ) (least : 14 ≤ length o) (most : length o ≤ 1522) where
  pub untagged : (be16 o 12 ≡ C_TAG → ⊥) → Before o 12 None
  unfolding checks length_checks verdict tag_place ctag Layout.tagged
  untagged t =
      let e = ne_eqb _ _ t in
      record { place = simp e; is_vlan = simp e; left = simp (le-ltb _ _ least, le-ltb _ _ most, e) }

  module _ (c : be16 o 12 ≡ C_TAG) where
    pub ctag_cut : length o < 18 → Err TagCut ≡ reading o
    unfolding reading checks length_checks ctag_checks verdict Layout.tagged
    ctag_cut h = simp (le-ltb _ _ least, le-ltb _ _ most, eq-eqb _ _ c, lt-ltb _ _ h)

    pub vlan_reserved : 18 ≤ length o → be16 o 14 % 4096 ≡ 4095 → Err ReservedVlan ≡ reading o
    unfolding reading checks length_checks ctag_checks verdict Layout.tagged Layout.vlan
    vlan_reserved h v = simp (le-ltb _ _ least, le-ltb _ _ most, eq-eqb _ _ c, le-ltb _ _ h, eq-eqb _ _ v)

    pub ctag_twice : 18 ≤ length o → (be16 o 14 % 4096 ≡ 4095 → ⊥) → be16 o 16 ≡ C_TAG → Err TagTwice ≡ reading o
    unfolding reading checks length_checks ctag_checks verdict Layout.tagged Layout.vlan
    ctag_twice h v t = simp (le-ltb _ _ least, le-ltb _ _ most, eq-eqb _ _ c, le-ltb _ _ h, ne_eqb _ _ v, eq-eqb _ _ t)

    pub with_ctag : 18 ≤ length o → (be16 o 14 % 4096 ≡ 4095 → ⊥) → (be16 o 16 ≡ C_TAG → ⊥) → Before o 16 (Some (be16 o 14 % 4096))
    unfolding checks length_checks ctag_checks verdict tag_place ctag Layout.tagged Layout.vlan
    with_ctag h v t =
        let e = eq-eqb _ _ c in
        record {
          place = simp e;
          is_vlan = simp e;
          left = simp (le-ltb _ _ least, le-ltb _ _ most, e, le-ltb _ _ h, ne_eqb _ _ v, ne_eqb _ _ t);
        }

-- the sequence tag at a place
abbrev pub tag_at : List ℕ → ℕ → Option Tag
tag_at o at = Some (record { kind = be16 o at; number = be16 o (at + 4) })

-- a header by what was read on the way: a sequence tag, and the last type at a place with the payload behind it
abbrev pub header_at : List ℕ → Option ℕ → Option Tag → ℕ → Header
header_at o v t at = header_of o v t (be16 o at) (at + 2)

-- from the sequence tag's place on
module _ {o : List ℕ} {at : ℕ} {v : Option ℕ} (b : Before o at v) where
  pub place_bounds : (12 ≤ at) × (at ≤ 16)
  place_bounds = rw b.place (tag_place_bounds o)

  -- a frame whose checks at a sequence tag come to `w`
  comes_to : (w : Verdict) → verdict (cond (sequenced o) (sequence_checks o) []) ≡ w → answered w (header o) ≡ reading o
  unfolding reading
  comes_to w e = simp (b.left, e)

  -- whether there is one
  is_sequenced : {s : Bool} → announces (be16 o at) ≡ s → sequenced o ≡ s
  unfolding sequenced
  is_sequenced e = rw (← b.place) e

  pub bare : announces (be16 o at) ≡ false → Ok (header_at o v None at) ≡ reading o
  unfolding header verdict sequence_tag kind kind_place payload_place
  bare n =
      let e = is_sequenced n in
      simp (b.place, b.is_vlan) (rw (← comes_to good (simp e)) (simp e))

  module _ (r : announces (be16 o at) ≡ true) where
    pub tag_cut : length o < at + 8 → Err TagCut ≡ reading o
    unfolding verdict sequence_checks
    tag_cut h = comes_to (refuse TagCut) (simp (is_sequenced r, ← b.place, lt-ltb (length o) (at + 6 + 2) (omega arith)))

    module _ (h : at + 8 ≤ length o) where
      -- past the first check at a sequence tag
      whole : ltb (length o) (at + 6 + 2) ≡ false
      whole = le-ltb (length o) (at + 6 + 2) (omega arith)

      pub ctag_behind : be16 o (at + 6) ≡ C_TAG → Err TagTwice ≡ reading o
      unfolding verdict sequence_checks
      ctag_behind c = comes_to (refuse TagTwice) (simp (is_sequenced r, ← b.place, whole, eq-eqb _ _ c))

      module _ (c : be16 o (at + 6) ≡ C_TAG → ⊥) where
        pub tag_behind : announces (be16 o (at + 6)) ≡ true → Err TagTwice ≡ reading o
        unfolding verdict sequence_checks
        tag_behind e = comes_to (refuse TagTwice) (simp (is_sequenced r, ← b.place, whole, ne_eqb _ _ c, e))

        pub with_tag : announces (be16 o (at + 6)) ≡ false → Ok (header_at o v (tag_at o at) (at + 6)) ≡ reading o
        unfolding header verdict sequence_checks sequence_tag announced number kind kind_place payload_place
        with_tag e =
            let clear = comes_to good (simp (is_sequenced r, ← b.place, whole, ne_eqb _ _ c, e)) in
            rw (← clear) (simp (b.is_vlan, is_sequenced r, ← b.place))

-- the two good ends, by what was read on the way
module _ {o : List ℕ} {at : ℕ} {v : Option ℕ} (b : Before o at v) where
  pub read_bare : {first p : ℕ} {h : Header}
      → first ≡ be16 o at → (first ≡ R_TAG → ⊥) → (first ≡ HSR_TAG → ⊥)
      → p ≡ at + 2 → h ≡ header_of o v None first p → Ok h ≡ reading o
  read_bare f r s q e = rw (e, f, q) (bare b (announced_by_none _ (rw f at r) (rw f at s)))

  pub read_tagged : {type number kind p : ℕ} {h : Header}
      → be16 o at ≡ type → announces type ≡ true → at + 8 ≤ length o
      → kind ≡ be16 o (at + 6) → (kind ≡ C_TAG → ⊥) → (kind ≡ R_TAG → ⊥) → (kind ≡ HSR_TAG → ⊥)
      → number ≡ be16 o (at + 4) → p ≡ at + 8 → h ≡ header_of o v (Some (record { kind = type; number = number })) kind p → Ok h ≡ reading o
  read_tagged a n l k c r s m q e =
      let eight : at + 8 ≡ at + 6 + 2 = omega arith in
      rw (e, k, m, q, ← a, eight) (with_tag b (rw a n) l (rw k at c) (announced_by_none _ (rw k at r) (rw k at s)))

-- what the proofs of the three steps rest on
pub ruleset of_read = (too_short, too_long, ctag_cut, vlan_reserved, ctag_twice)

pub ruleset of_from_tag_place = (place_bounds, announced_by_rtag, announced_by_hsr, announced_by_none, bare)

pub ruleset of_from_tag = (place_bounds, announced_by_rtag, announced_by_hsr, announced_by_none, tag_cut, ctag_behind, tag_behind, with_tag)
