use Rattle.std.proofs.lemmas.Str.{IsUtf8-from_ascii}
use Rattle.std.proofs.lemmas.Fmt.{IsAscii-from_digits}
use Rattle.punch.proofs.words.decimal.Goals as goal

-- digits are ASCII, so what is no UTF-8 is no number
pub returns-in-Err : goal.returns-in-Err
returns-in-Err c h = c.in-Err.ensures.cases.0 (IsUtf8-from_ascii _ (IsAscii-from_digits _ h.0.1))
