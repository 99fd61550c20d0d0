-- As many ones as the row has marks, moved up to its first.
use Rattle.std.proofs.Common.{ℕ, ◌*◌, ◌%◌, ◌^◌, sym, ap, ◌∙◌, arith}
use lib.Pow.{ones_lt, high_ones, shl_exact}
use Rattle.marks.proofs.Digits.{ones_left}
use Rattle.marks.proofs.window.row.Goals as goal

pub returns : goal.returns
returns c =
    let n = c.args.n in
    let k = c.args.k in
    ap (λ (m : ℕ). m * 2 ^ k % 2 ^ 64) (ones_left 64 n (omega arith)) ∙ shl_exact n k 64 (ones_lt n) (omega arith) ∙ sym (high_ones n k)
