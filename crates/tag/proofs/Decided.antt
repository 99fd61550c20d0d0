-- What insertion and removal decide alike: what a verdict makes of the output. Assumes nothing.
use Prim.Native.Nat.{ℕ}
use mathlib.Core.Path.{◌≡◌}
use mathlib.Core.List.{List}
use lib.ListN.{length}
use Rattle.std.specs.Prelude.{Ok, Err}
use Rattle.octets.specs.declared.Refusal.{Refusal}
use Rattle.octets.specs.Copy.{put_in}
use Rattle.octets.specs.Checks.{Verdict, good, refuse}
use Rattle.tag.specs.Output.{Writes}

-- a verdict of refusal leaves the output, and a good one puts the result there
pub refuses : {v : Verdict} (result out : List ℕ) {k : Refusal} → v ≡ refuse k → Writes v result out (Err k) out
refuses result out e = record { answer = simp e; buffer = simp e }

pub writes : {v : Verdict} (result out : List ℕ) {n : ℕ} {later : List ℕ} → v ≡ good → n ≡ length result → later ≡ put_in result out
    → Writes v result out (Ok n) later
writes result out e f g = record { answer = simp (e, f); buffer = simp (e, g) }
