-- The word, the number and the newline, one behind the other.
use Rattle.std.proofs.Common.{arith}
use Rattle.lines.specs.Lines.{fault_text}
use Rattle.lines.specs.Words.{line_words, words}
use Rattle.lines.proofs.Growth.{one_behind_other, same_length}
use Rattle.lines.proofs.Room.{with_room, said}
use Rattle.lines.proofs.page.fault.Goals as goal

pub count-behind-requires-clause-i_in_bounds : goal.count-behind-requires-clause-i_in_bounds
unfolding words line_words
count-behind-requires-clause-i_in_bounds c = omega (arith, said c.args.at c.args.page.now c.has_room.ensures c.if-has_room.true)

pub word-requires-clause-i_in_bounds : goal.word-requires-clause-i_in_bounds
unfolding words line_words
word-requires-clause-i_in_bounds c =
    let counted = c.count-behind.ensures in
    omega (arith, said c.args.at c.args.page.now c.has_room.ensures c.if-has_room.true, counted.short, same_length counted.appends)

pub returns-then-has_room : goal.returns-then-has_room
unfolding fault_text words line_words
returns-then-has_room c =
    let counted = c.count-behind.ensures in
    let newline = c.word.ensures in
    with_room _ _ _ (said c.args.at c.args.page.now c.has_room.ensures c.if-has_room.true) (omega (arith, counted.short, newline.ends))
    (one_behind_other counted.appends newline)
