-- "d = number - newest modulo 65,536, read as -32,768 to 32,767" (document 01, "Numbering and recovery"). Assumes nothing.
use Rattle.std.specs.Prelude.{ℕ, ◌+◌, ◌-◌, ◌%◌, cond, eqb, ltb}

-- d with its sign apart: `ahead k` is d = k with k > 0, and `behind k` is d = -k with k from 0
pub data Difference : Type 0 where
  ahead : ℕ → Difference
  behind : ℕ → Difference

-- "number - newest modulo 65,536"
unfoldable pub apart : ℕ → ℕ → ℕ
apart newest number = (number + 65536 - newest) % 65536

-- "read as -32,768 to 32,767"
unfoldable pub signed : ℕ → Difference
signed f = cond (eqb f 0) (behind 0) (cond (ltb f 32768) (ahead f) (behind (65536 - f)))

-- d
unfoldable pub difference : ℕ → ℕ → Difference
unfolding apart signed
difference newest number = signed (apart newest number)

-- "order +1 unless d = 1"
unfoldable pub out_of_order : Difference → ℕ
out_of_order (ahead k) = cond (eqb k 1) 0 1
out_of_order (behind k) = 1
