-- Document 01, "Stream tables", for C: what the calls answer and write, by the streams room's own definitions. Assumes nothing.
use Rattle.std.specs.Prelude.{ℕ, ◌≡◌, List, Option, Some, None, Result, Ok, Err}
use Rattle.octets.specs.declared.Refusal.{Refusal}
use Rattle.octets.specs.Refusals.{number}
use Rattle.octets.specs.Checks.{refusal}
use Rattle.streams.specs.Table.{table_verdict, lookup_of}

-- "The first match gives the handle. No match is the answer "no stream"", or the refusal, as a number
abbrev pub of_found : Result (Option ℕ) Refusal → ℕ
of_found (Ok (Some handle)) = 107
of_found (Ok None) = 108
of_found (Err r) = number r

-- the lent handle after a lookup: only a match writes it
abbrev pub handle_by : Result (Option ℕ) Refusal → ℕ → ℕ
handle_by (Ok (Some handle)) before = handle
handle_by (Ok None) before = before
handle_by (Err r) before = before

-- the promises: of `ahz_check_table`
abbrev pub ChecksTableTo : List ℕ → ℕ → Type 0
ChecksTableTo t r = r ≡ refusal (table_verdict t)

-- of `ahz_lookup`
pub record LooksUpTo (t o : List ℕ) (before r after : ℕ) : Type 0 where
  pub answer : r ≡ of_found (lookup_of t o)
  pub handle : after ≡ handle_by (lookup_of t o) before
