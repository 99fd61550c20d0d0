-- The number of a first word is that word.
use Rattle.std.proofs.Common.{refl, rules, arith}
use Rattle.marks.specs.Window.{value_of}
use Rattle.marks.proofs.Words.{marks_by}
use Rattle.marks.proofs.number.alone.Goals as goal

pub returns : goal.returns
unfolding value_of
returns c = marks_by _ _ _ refl (search rules) (omega arith)
