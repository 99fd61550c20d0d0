-- A stream table (document 01, "Stream tables"): octets cut into entries, the checks of each in document 01's order, and what a lookup
-- finds. Assumes nothing.
use Rattle.std.specs.Prelude.{ℕ, zero, suc, ◌+◌, ◌≡◌, cond, List, [], ◌∷◌, ◌++◌, length, take, drop, leb, ltb, eqb, Option, Some, None, Result}
use Rattle.octets.specs.declared.Refusal.{Refusal}
use Rattle.octets.specs.declared.Refusal.TheVariants.{EntryKind, EntryCut, EntryRange, TooManyEntries}
use Rattle.octets.specs.Checks.{Check, ◌⇒◌, Verdict, verdict, ◌then◌, answered}
use Rattle.frame.specs.declared.Header.{Header}
use Rattle.frame.specs.Reader.{checks, header}
use Rattle.entry.specs.Contents.{kind, body_length, handle, unfit}
use Rattle.entry.specs.Matching.{matches}

-- "one byte of kind, then a body whose length the kind fixes": the entries of octets whose first `left` ones still belong to the entry
-- before
unfoldable pub entries_after : ℕ → List ℕ → List (List ℕ)
entries_after left [] = []
entries_after (suc left) (x ∷ t) = entries_after left t
entries_after zero (kind ∷ t) = (kind ∷ take (body_length kind) t) ∷ entries_after (body_length kind) t

-- the entries of a table, each as its octets; only the last one can be cut
unfoldable pub entries : List ℕ → List (List ℕ)
entries t = entries_after 0 t

-- "each entry: 13, 10, 11, 12": "257th entry", of "At most 256 entries"; "entry kind"; "cut"; "choice or VLAN out of range",
-- and "Refusal 12 covers the new ranges" (document 02, CR 1)
unfoldable pub entry_checks : (before : ℕ) → List ℕ → List Check
entry_checks before e =
    leb 256 before ⇒ TooManyEntries
    ∷ eqb (body_length (kind e)) 0 ⇒ EntryKind
    ∷ ltb (length e) (1 + body_length (kind e)) ⇒ EntryCut
    ∷ unfit e ⇒ EntryRange
    ∷ []

-- "The whole table is checked first, in order"; so many entries stand before the first of these
unfoldable pub table_checks : (before : ℕ) → List (List ℕ) → List Check
table_checks before [] = []
table_checks before (e ∷ es) = entry_checks before e ++ table_checks (before + 1) es

-- what the checks of a table come to
unfoldable pub table_verdict : List ℕ → Verdict
table_verdict t = verdict (table_checks 0 (entries t))

-- "The first match gives the handle. No match is the answer "no stream"", for a frame with this header and payload
unfoldable pub first_match : List (List ℕ) → Header → List ℕ → Option ℕ
first_match [] h p = None
first_match (e ∷ es) h p = cond (matches e h p) (Some (handle e)) (first_match es h p)

-- "The whole table is checked first" .. "Then the frame", as reading refuses it; a refusal "returns the number alone"
unfoldable pub lookup_of : List ℕ → List ℕ → Result (Option ℕ) Refusal
lookup_of t o = answered (table_verdict t then verdict (checks o)) (first_match (entries t) (header o) (drop (header o).payload o))

-- the promises: of `check`
abbrev pub ChecksTable : List ℕ → Result (Unit {0}) Refusal → Type 0
ChecksTable t r = r ≡ answered (table_verdict t) tt

-- of `lookup`
abbrev pub LooksUp : List ℕ → List ℕ → Result (Option ℕ) Refusal → Type 0
LooksUp t o r = r ≡ lookup_of t o
