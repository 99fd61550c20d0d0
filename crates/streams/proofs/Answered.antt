-- What a verdict on a table and the reading of a frame make of a lookup. Assumes nothing.
use Prim.Native.Nat.{ℕ}
use mathlib.Core.Path.{◌≡◌, refl}
use mathlib.Core.List.{List}
use lib.ListN.{drop}
use Rattle.std.specs.Prelude.{Result, Ok, Err}
use Rattle.std.specs.Result.{result_and}
use Rattle.octets.specs.declared.Refusal.{Refusal}
use Rattle.octets.specs.Checks.{Verdict, good, refuse, answered, ◌then◌}
use Rattle.frame.specs.declared.Header.{Header}
use Rattle.frame.specs.Reader.{reading}
use Rattle.frame.proofs.Accepted.{frame_good, refused_by}
use Rattle.streams.specs.Table.{table_verdict, lookup_of, ChecksTable, LooksUp}
use Rattle.streams.specs.Walk.{start, verdict_from, walked}

then_good : (v : Verdict) → v then good ≡ v
unfolding ◌then◌
then_good good = refl
then_good (refuse n) = refl

-- a refusal stands behind a check's
and_refused : {A B : Type 0} (v : Verdict) (n : Refusal) (a : A) (b : B) → result_and (answered v a) (Err n) ≡ answered (v then refuse n) b
unfolding ◌then◌
and_refused good n a b = refl
and_refused (refuse m) n a b = refl

-- the verdict on all entries
pub from_the_start : (t : List ℕ) → verdict_from t start ≡ table_verdict t
unfolding verdict_from table_verdict
from_the_start t = refl

module _ (t o : List ℕ) where
  -- the frame is good: the walk answers
  pub walk_answers : {h : Header} → Ok h ≡ reading o → LooksUp t o (walked t h (drop h.payload o) start)
  unfolding lookup_of walked
  walk_answers e = let g = frame_good o e in simp (from_the_start, g.0, g.1, then_good)

  -- the frame is not: its refusal stands behind the table's
  pub frame_refused : {c : Result (Unit {0}) Refusal} {n : Refusal} → ChecksTable t c → Err n ≡ reading o → LooksUp t o (result_and c (Err n))
  unfolding lookup_of
  frame_refused {c} {n} e f = rw (e, refused_by o f) (and_refused (table_verdict t) n tt _)
