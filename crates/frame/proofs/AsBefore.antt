-- A frame without an HSR tag reads as it did when 892F was no tag (`specs/AsBefore`). Assumes nothing.
use Prim.Native.Nat.{ℕ, ◌+◌}
use mathlib.Core.Path.{◌≡◌, refl}
use mathlib.Core.Bool.{true, false, or-false, ◌&&◌}
use mathlib.Core.List.{List}
use lib.Dec.{eqb}
use borrow.Author.Tests.{eqb-true}
use Rattle.octets.specs.Number.{be16}
use Rattle.octets.proofs.Bools.{by_cases, neither}
use Rattle.frame.specs.Layout.{R_TAG, HSR_TAG, tag_place, announces, sequenced, announced, number, kind, kind_place, payload_place}
use Rattle.frame.specs.Reader.{sequence_checks, checks, sequence_tag, header, reading}
use Rattle.frame.specs.AsBefore.{has_rtag, has_hsr_tag, rtag_checks, checks_before, number_before, tag_before, last_type, reading_before, ReadingAsBefore}

-- what stands at the place of an R-TAG
is_rtag : (o : List ℕ) → has_rtag o ≡ true → be16 o (tag_place o) ≡ R_TAG
unfolding has_rtag
is_rtag o = eqb-true _ R_TAG

module _ (o : List ℕ) (n : has_hsr_tag o ≡ false) where
  -- no HSR tag at the place, and none behind an R-TAG
  none : (eqb (be16 o (tag_place o)) HSR_TAG ≡ false) × ((has_rtag o && eqb (be16 o (tag_place o + 6)) HSR_TAG) ≡ false)
  unfolding has_hsr_tag
  none = neither (eqb (be16 o (tag_place o)) HSR_TAG) (has_rtag o && eqb (be16 o (tag_place o + 6)) HSR_TAG) n

  -- so the only tag is the R-TAG
  pub only_rtag : sequenced o ≡ has_rtag o
  unfolding sequenced announces has_rtag
  only_rtag = rw none.0 (or-false (eqb (be16 o (tag_place o)) R_TAG))

  -- and the checks are those that there were
  pub same_checks : checks o ≡ checks_before o
  unfolding checks checks_before sequence_checks rtag_checks announces
  same_checks =
      rw only_rtag
      (by_cases (has_rtag o)
      (λ r. rw (r, rw r at none.1) (rw (or-false (eqb (be16 o (tag_place o + 6)) R_TAG)) refl))
      (λ r. rw r refl))

  same_tag : sequence_tag o ≡ tag_before o
  unfolding sequence_tag tag_before announced number number_before
  same_tag = rw only_rtag (by_cases (has_rtag o) (λ r. rw r (rw (is_rtag o r) refl)) (λ r. rw r refl))

  same_type : kind_place o ≡ last_type o
  unfolding kind_place last_type
  same_type = rw only_rtag

pub reading_as_before : ReadingAsBefore
unfolding reading reading_before header kind payload_place
reading_as_before o n = rw (same_checks o n, same_tag o n, same_type o n) refl
