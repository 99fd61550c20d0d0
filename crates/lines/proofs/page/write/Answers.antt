-- An event's line is one word.
use Rattle.std.proofs.Common.{arith}
use Rattle.lines.proofs.Table.{line_word}
use Rattle.lines.proofs.Growth.{like}
use Rattle.lines.proofs.Room.{with_room, said}
use Rattle.lines.proofs.page.write.Goals as goal

pub word-requires-clause-i_in_bounds : goal.word-requires-clause-i_in_bounds
word-requires-clause-i_in_bounds c =
    rw c.place.ensures
    (omega (arith, (line_word c.args.line).short, said c.args.at c.args.page.now c.has_room.ensures c.if-has_room.true))

pub returns-then-has_room : goal.returns-then-has_room
returns-then-has_room c =
    let word = line_word c.args.line in
    let put = rw c.place.ensures at c.word.ensures in
    with_room _ _ _ (said c.args.at c.args.page.now c.has_room.ensures c.if-has_room.true) (omega (arith, word.short, put.ends))
    (like word.texts put)
