-- Refusals in their order ("When the layer says no"): a list of checks, each with the refusal that the papers give it; the first that
-- holds decides. "Each is given only then. It returns the number alone". Assumes nothing.
use Rattle.std.specs.Prelude.{ℕ, Bool, cond, List, [], ◌∷◌, Result, Ok, Err}
use Rattle.octets.specs.declared.Refusal.{Refusal}
use Rattle.octets.specs.Refusals.{number}

infix 70 ◌⇒◌
infixr 30 ◌then◌
-- `b ⇒ r`: where b holds, r is the refusal
pub data Check : Type 0 where
  ◌⇒◌ : Bool → Refusal → Check

-- what checks come to: nothing is refused, or the refusal
pub data Verdict : Type 0 where
  good : Verdict
  refuse : Refusal → Verdict

-- the first check that holds decides
unfoldable pub verdict : List Check → Verdict
verdict [] = good
verdict ((b ⇒ r) ∷ rest) = cond b (refuse r) (verdict rest)

-- a verdict, and where it is good the next one
unfoldable pub ◌then◌ : Verdict → Verdict → Verdict
good then v = v
refuse r then v = refuse r

-- a call's answer where the checks are good, and else the refusal
abbrev pub answered : {A : Type 0} → Verdict → A → Result A Refusal
answered good a = Ok a
answered (refuse r) a = Err r

-- a verdict as a number: the refusal's, and 0 where there is none
abbrev pub refusal : Verdict → ℕ
refusal good = 0
refusal (refuse r) = number r
