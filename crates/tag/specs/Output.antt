-- A result written to a second buffer: what a call answers, and what the buffer holds afterwards. Assumes nothing.
use Rattle.std.specs.Prelude.{ℕ, ◌≡◌, List, length, Result}
use Rattle.octets.specs.declared.Refusal.{Refusal}
use Rattle.octets.specs.Checks.{Verdict, answered}
use Rattle.octets.specs.Copy.{output_by}

-- the promise of a call that writes `result`: "Both answer the result's length"; a refusal "returns the number alone"
pub record Writes (v : Verdict) (result out : List ℕ) (r : Result ℕ Refusal) (later : List ℕ) : Type 0 where
  pub answer : r ≡ answered v (length result)
  pub buffer : later ≡ output_by v result out
