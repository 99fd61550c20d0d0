-- Document 01, "Reading a frame", and document 02, CR 5, for C: a tag or a trailer put in and taken off, by the definitions of `tag`.
-- Assumes nothing.
use Rattle.std.specs.Prelude.{ℕ, List, length}
use Rattle.octets.specs.Checks.{verdict}
use Rattle.encoding.specs.declared.Encoding.{Encoding}
use Rattle.tag.specs.Insertion.{inserted, insert_checks}
use Rattle.tag.specs.Removal.{removed, remove_checks}
use Rattle.words.specs.Answers.{WritesTo}

-- the promises: of `ahz_insert`, `ahz_insert_hsr` and `ahz_insert_prp`, each in its encoding
abbrev pub InsertsTo : Encoding → List ℕ → (number id : ℕ) → List ℕ → ℕ → ℕ → List ℕ → ℕ → Type 0
InsertsTo e o n id out before r later after =
    WritesTo (verdict (insert_checks e o id (length out))) (inserted e o n id) out before r later after

-- of `ahz_remove`, `ahz_remove_hsr` and `ahz_remove_prp`
abbrev pub RemovesTo : Encoding → List ℕ → List ℕ → ℕ → ℕ → List ℕ → ℕ → Type 0
RemovesTo e o out before r later after = WritesTo (verdict (remove_checks e o (length out))) (removed e o) out before r later after
