-- Of a tape and a buffer, two answers that the promise of `ahz_tape_v3` allows are equal, and so is all that was lent to it. Assumes
-- nothing.
use Prim.Native.Nat.{ℕ}
use mathlib.Core.Path.{◌≡◌}
use mathlib.Core.List.{List}
use Rattle.words.proofs.Unique.{writes_to_one}
use Rattle.tape_c.specs.Tapes.{RunsTo}

pub runs_to_one : (tape out : List ℕ) {before a b : ℕ} {l m : List ℕ} {x y : ℕ} → RunsTo tape out before a l x
    → RunsTo tape out before b m y → (a ≡ b) × (l ≡ m) × (x ≡ y)
runs_to_one tape out = writes_to_one
