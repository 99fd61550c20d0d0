-- The entries from a place on, and what the first of them decides for all of them. Assumes nothing.
use Prim.Native.Nat.{ℕ, suc, ◌≤◌, ◌<◌}
use native.Mathlib.Omega.{arith}
use mathlib.Core.Path.{◌≡◌, sym, ap, ◌∙◌}
use mathlib.Core.List.{List}
use lib.ListN.{length, get_or}
use Rattle.std.specs.Prelude.{Result, Ok, Err}
use Rattle.octets.specs.declared.Refusal.{Refusal}
use Rattle.octets.specs.Checks.{Verdict, refuse, answered, ◌then◌}
use Rattle.entry.specs.Contents.{body_length}
use Rattle.streams.specs.declared.table.Place.{Place}
use Rattle.streams.specs.Walk.{behind, entry_verdict, verdict_from}
use Rattle.streams.proofs.Told.{told_good, told_refused}
use Rattle.streams.proofs.Walked.{by_entry}

-- a check's answer to a verdict
abbrev pub checked : Verdict → Result (Unit {0}) Refusal
checked v = answered v tt

-- what is decided at a place is decided for all
pub decided : {v w u : Verdict} → v ≡ w → w ≡ u → checked u ≡ checked v
decided i d = ap checked (sym (i ∙ d))

-- an entry with a body of that length: refused, and passed
module _ (t : List ℕ) (from place : Place) (so_far : verdict_from t from ≡ verdict_from t place)
    (within : place.at < length t) (few : place.passed < 256) {body : ℕ} (b : body ≡ body_length (get_or t place.at 0)) (some : 11 ≤ body)
  where
    pub entry_refused : {n : Refusal} → Err n ≡ checked (entry_verdict t place.at (suc body)) → Err n ≡ checked (verdict_from t from)
    unfolding ◌then◌
    entry_refused {n} e = decided {u = refuse n} so_far (by_entry t place within b few (λ z. omega arith) ∙ simp (told_refused _ tt e))

    pub entry_passed : Ok tt ≡ checked (entry_verdict t place.at (suc body)) → verdict_from t from ≡ verdict_from t (behind place body)
    unfolding ◌then◌
    entry_passed e = so_far ∙ by_entry t place within b few (λ z. omega arith) ∙ simp (told_good _ tt e)
