-- A copy into a lent buffer. Assumes nothing.
use Rattle.std.specs.Prelude.{◌≡◌, Bool, cond, List, ◌++◌, length, drop, leb}
use Rattle.octets.specs.Checks.{Verdict, good, refuse}

module _ {A : Type 0} where
  -- `src` fits into `out`: no "output shorter than result"
  abbrev pub fits : List A → List A → Bool
  fits src out = leb (length src) (length out)

  -- `out` with `src` at its start: "Later octets of the output stay"
  abbrev pub put_in : List A → List A → List A
  put_in src out = src ++ drop (length src) out

  -- "writes the result to a second buffer", "Later octets of the output stay"; on a refusal "buffers keep their values"
  abbrev pub output_by : Verdict → List A → List A → List A
  output_by good result out = put_in result out
  output_by (refuse n) result out = out

  -- the promise of `put`
  pub record Puts (src out : List A) (r : Bool) (later : List A) : Type 0 where
    pub answer : r ≡ fits src out
    pub buffer : later ≡ cond (fits src out) (put_in src out) out
