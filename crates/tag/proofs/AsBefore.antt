-- The old promises of the R-TAG put in and taken off, from the new ones (`specs/AsBefore`). Assumes nothing.
use Prim.Native.Nat.{ℕ}
use mathlib.Core.Path.{◌≡◌, refl}
use mathlib.Core.Bool.{false}
use mathlib.Core.List.{List}
use lib.ListN.{length}
use Rattle.octets.specs.Checks.{verdict}
use Rattle.octets.proofs.Order.{verdict_append}
use Rattle.encoding.specs.declared.Encoding.TheVariants.{RTag}
use Rattle.encoding.specs.Encodings.{in_front, place, mark, id_word, words, as_octets, six, carries, standing}
use Rattle.frame.specs.AsBefore.{has_rtag, has_hsr_tag}
use Rattle.frame.proofs.AsBefore.{only_rtag, same_checks}
use Rattle.tag.specs.Insertion.{inserted_at, inserted, insert_checks}
use Rattle.tag.specs.Removal.{removed_at, removed, remove_checks}
use Rattle.tag.specs.AsBefore.{rtag, inserted_before, insert_checks_before, removed_before, remove_checks_before}
use Rattle.tag.specs.AsBefore.{InsertsAsBefore, RemovesAsBefore}

same_inserted : (o : List ℕ) (n : ℕ) → inserted RTag o n 0 ≡ inserted_before o n
unfolding inserted inserted_at inserted_before rtag place six words as_octets in_front mark id_word
same_inserted o n = refl

same_removed : (o : List ℕ) → removed RTag o ≡ removed_before o
unfolding removed removed_at removed_before standing place in_front
same_removed o = refl

module _ (o : List ℕ) (room : ℕ) (n : has_hsr_tag o ≡ false) where
  same_insertion : verdict (insert_checks RTag o 0 room) ≡ verdict (insert_checks_before o room)
  unfolding insert_checks insert_checks_before verdict in_front
  same_insertion = simp (verdict_append, same_checks o n, only_rtag o n)

  same_removal : remove_checks RTag o room ≡ remove_checks_before o room
  unfolding remove_checks remove_checks_before carries in_front mark has_rtag
  same_removal = rw (same_checks o n)

pub inserts_as_before : InsertsAsBefore
inserts_as_before o n out r later none p = rw (same_insertion o (length out) none, same_inserted o n) at p

pub removes_as_before : RemovesAsBefore
removes_as_before o out r later none p = rw (same_removal o (length out) none, same_removed o) at p
