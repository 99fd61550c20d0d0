-- The word, and the digits behind it.
use Rattle.std.proofs.Common.{List, ℕ, ◌++◌, ap, ◌∙◌, arith}
use Rattle.lines.specs.Words.{word_at}
use Rattle.lines.proofs.Growth.{one_behind_other, like}
use Rattle.lines.proofs.Decimal.{digits_decimal, twenty}
use Rattle.lines.proofs.page.count.Goals as goal

pub returns : goal.returns
returns c =
    let few = twenty c.args.n c.decimal-k.result (omega arith) c.decimal-k.ensures.len in
    let is = c.decimal-k.ensures.digits ∙ digits_decimal 20 c.decimal-k.result c.args.n few c.decimal-k.ensures.len in
    record {
      appends = like (ap (λ (t : List ℕ). word_at c.args.i ++ t) is) (one_behind_other c.word-behind.ensures c.append.ensures);
      short = omega (arith, few, c.word-behind.ensures.ends, c.append.ensures.ends);
    }
