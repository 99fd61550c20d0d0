-- From a room's promise to its door's: the answer as a number, and the lent length afterwards. Assumes nothing.
use Prim.Native.Nat.{ℕ}
use mathlib.Core.Path.{◌≡◌, refl, ◌∙◌}
use mathlib.Core.List.{List}
use lib.ListN.{length}
use Rattle.octets.specs.Checks.{Verdict, good, refuse, answered, refusal}
use Rattle.octets.specs.Copy.{output_by}
use Rattle.words.specs.Answers.{code_of, WritesTo, Tells}
use Rattle.std.specs.Prelude.{Result}
use Rattle.octets.specs.declared.Refusal.{Refusal}

-- an answer by a verdict has the verdict's number
pub code_told : {A : Type 0} (v : Verdict) (a : A) → code_of (answered v a) ≡ refusal v
code_told good a = refl
code_told (refuse r) a = refl

-- what a call that writes told
pub written_told : (v : Verdict) {result out : List ℕ} {before r after : ℕ} {w : Result ℕ Refusal} {later : List ℕ}
    → w ≡ answered v (length result) → later ≡ output_by v result out → Tells w before r after → WritesTo v result out before r later after
written_told good w b t = record { answer = t.answer ∙ rw w; buffer = b; told = t.told ∙ rw w }
written_told (refuse k) w b t = record { answer = t.answer ∙ rw w; buffer = b; told = t.told ∙ rw w }
