-- The old promise of reading an R-TAG, from the new one (`specs/AsBefore`). Assumes nothing.
use Prim.Native.Nat.{ℕ}
use mathlib.Core.Path.{◌≡◌, refl, ◌∙◌}
use mathlib.Core.Bool.{cond}
use mathlib.Core.List.{List}
use lib.Dec.{eqb}
use Rattle.octets.specs.Number.{be16}
use Rattle.octets.proofs.Bools.{by_cases}
use Rattle.frame.specs.Layout.{R_TAG, tag_place}
use Rattle.frame.specs.AsBefore.{has_rtag, number_before}
use Rattle.frame.proofs.AsBefore.{reading_as_before}
use Rattle.encoding.specs.declared.Encoding.TheVariants.{RTag}
use Rattle.encoding.specs.Encodings.{in_front, mark, carries, standing, place, number_at, id_in, numbered, unnumbered, sequence}
use Rattle.encoding.specs.Reader.{reading_in}
use Rattle.encoding.specs.AsBefore.{ReadsAsBefore}

-- what an R-TAG stream's frame carries
rtag_carried : (o : List ℕ) → sequence RTag o ≡ cond (has_rtag o) (numbered (number_before o) 0) unnumbered
unfolding sequence carries in_front mark standing place number_at id_in has_rtag number_before
rtag_carried o = by_cases (eqb (be16 o (tag_place o)) R_TAG) (λ r. rw r refl) (λ r. rw r refl)

pub reads_as_before : ReadsAsBefore
unfolding reading_in
reads_as_before o r n p = p ∙ rw (reading_as_before o n, rtag_carried o) refl
