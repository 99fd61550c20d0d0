-- The round trips of `specs/RoundTrip`, from those of the octets. Assumes nothing.
use Prim.Native.Nat.{ℕ}
use mathlib.Core.Path.{◌≡◌, refl, sym, ◌∙◌}
use mathlib.Core.List.{List}
use lib.ListN.{length, take}
use lib.Seq.{take-append_seam}
use Rattle.std.specs.Prelude.{Result, Ok}
use Rattle.octets.specs.declared.Refusal.{Refusal}
use Rattle.octets.specs.Checks.{Verdict, good, refuse, verdict}
use Rattle.encoding.specs.Encodings.{number_of, path_of, sequence}
use Rattle.encoding.proofs.Answered.{header_of, reads_as}
use Rattle.tag.specs.Output.{Writes}
use Rattle.tag.specs.Insertion.{inserted, insert_checks}
use Rattle.tag.specs.Removal.{removed, remove_checks}
use Rattle.tag.specs.RoundTrip.{InsertThenRemove, RemoveThenInsert, InsertThenRead, RemoveThenRead}
use Rattle.tag.proofs.Inserted.{inserted_removed, inserted_removable, inserted_reads, inserted_sequence}
use Rattle.tag.proofs.Removed.{id_small, as_written, removed_inserted, removed_inserted_length, removed_insertable}
use Rattle.tag.proofs.Removed.{removed_reads, removed_unnumbered}

-- a call that answered a length wrote its result, and the verdict was good
pub record Wrote (v : Verdict) (result : List ℕ) (k : ℕ) (later : List ℕ) : Type 0 where
  pub accepted : v ≡ good
  pub written : take k later ≡ result

pub wrote : (v : Verdict) {result out : List ℕ} {k : ℕ} {later : List ℕ} → Writes v result out (Ok k) later → Wrote v result k later
wrote good {result} {k = k} p =
    let all : k ≡ length result = cc p.answer in
    record { accepted = refl; written = simp (all, p.buffer, take-append_seam) }
wrote (refuse n) p = record { accepted = cc p.answer; written = cc p.answer }

-- where the verdict is good, a call answers the result's length and writes it
answers : {v : Verdict} {result out : List ℕ} {r : Result ℕ Refusal} {later : List ℕ} → v ≡ good → Writes v result out r later
    → (r ≡ Ok (length result)) × (take (length result) later ≡ result)
answers e p = (p.answer ∙ simp e, simp (p.buffer, e, take-append_seam))

pub insert_then_remove : InsertThenRemove
insert_then_remove e o n id out k later out' r later' p room q =
    let w = wrote (verdict (insert_checks e o id (length out))) p in
    let back = inserted_removed e o n id (length out) w.accepted in
    let a = answers (inserted_removable e o n id (length out) w.accepted (length out') room) (rw w.written at q) in
    (a.0 ∙ simp back, simp back at a.1)

pub remove_then_insert : RemoveThenInsert
remove_then_insert e o out k later out' r later' octets p room q =
    let w = wrote (verdict (remove_checks e o (length out))) p in
    let number = number_of (sequence e o) in
    let id = path_of (sequence e o) in
    let small = id_small e o (length out) w.accepted octets in
    let a = answers (removed_insertable e o (length out) w.accepted id (length out') small room) (rw w.written at q) in
    let only = removed_inserted e o (length out) w.accepted octets in
    let long = removed_inserted_length e o (length out) w.accepted number id in
    let same = rw long at a.1 in (
      a.0 ∙ simp long,
      λ x. only.0 (sym same ∙ x),
      λ z. same ∙ only.1 z,
      as_written e o (length out) w.accepted octets,
    )

pub insert_then_read : InsertThenRead
insert_then_read e o n id out k later a r p q t =
    let w = wrote (verdict (insert_checks e o id (length out))) p in
    let is = inserted_reads e o n id (length out) w.accepted (header_of e o q).0 in
    rw w.written at t ∙ reads_as e (inserted e o n id) is ∙ rw (inserted_sequence e o n id (length out) w.accepted) refl

pub remove_then_read : RemoveThenRead
remove_then_read e o out k later a r p q t =
    let w = wrote (verdict (remove_checks e o (length out))) p in
    let is = removed_reads e o (length out) w.accepted (header_of e o q).0 in
    rw w.written
    (rw w.written at t ∙ reads_as e (removed e o) is, removed_unnumbered e o (length out) w.accepted)
