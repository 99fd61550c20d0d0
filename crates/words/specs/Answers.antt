-- What a door tells of a room's answer. Assumes nothing.
use Rattle.std.specs.Prelude.{ℕ, ◌≡◌, List, length, Result, Ok, Err}
use Rattle.octets.specs.declared.Refusal.{Refusal}
use Rattle.octets.specs.Refusals.{number}
use Rattle.octets.specs.Checks.{Verdict, good, refuse, refusal}
use Rattle.octets.specs.Copy.{output_by}

-- an answer as a number: the refusal's, and 0 where there is none
abbrev pub code_of : {A : Type 0} → Result A Refusal → ℕ
code_of (Ok a) = 0
code_of (Err r) = number r

-- "Both answer the result's length": the lent length afterwards; a refusal leaves it as it was
abbrev pub length_of : Result ℕ Refusal → ℕ → ℕ
length_of (Ok n) before = n
length_of (Err r) before = before

-- the same by a verdict, of a call that writes a result of n octets
abbrev pub length_by : Verdict → ℕ → ℕ → ℕ
length_by good n before = n
length_by (refuse r) n before = before

-- what a door promises that writes `result`, its length beside it
pub record WritesTo (v : Verdict) (result out : List ℕ) (before r : ℕ) (later : List ℕ) (after : ℕ) : Type 0 where
  pub answer : r ≡ refusal v
  pub buffer : later ≡ output_by v result out
  pub told : after ≡ length_by v (length result) before

-- the promises: of `code`
abbrev pub Codes : {A : Type 0} → Result A Refusal → ℕ → Type 0
Codes answer r = r ≡ code_of answer

-- of `told`
pub record Tells (written : Result ℕ Refusal) (before r after : ℕ) : Type 0 where
  pub answer : r ≡ code_of written
  pub told : after ≡ length_of written before
