-- Where there is room one counter is written a turn, and the newline behind them.
use Rattle.std.proofs.Common.{arith}
use Rattle.lines.specs.Words.{line_words, words}
use Rattle.lines.proofs.Growth.{same_length}
use Rattle.lines.proofs.Room.{with_room, said}
use Rattle.lines.proofs.Counting.{begins, next_room, goes_on, ends}
use Rattle.lines.proofs.page.counts.Goals as goal

pub loop-i-init : goal.loop-i-init
loop-i-init c = begins c.args.counters c.args.page.now c.args.at (said c.args.at c.args.page.now c.has_room.ensures c.if-has_room.true)

pub count-end-requires-clause-i_in_bounds : goal.count-end-requires-clause-i_in_bounds
count-end-requires-clause-i_in_bounds c =
    let inv = c.loop-i.invariant in
    omega (
      arith,
      next_room (omega arith) inv (omega arith),
      same_length inv.appends,
      said c.args.at c.args.page.now c.has_room.ensures c.if-has_room.true,
    )

pub loop-i-preserved : goal.loop-i-preserved
loop-i-preserved c = goes_on (omega arith) c.loop-i.invariant (omega arith) c.count-end.ensures

pub word-requires-clause-i_in_bounds : goal.word-requires-clause-i_in_bounds
unfolding words line_words
word-requires-clause-i_in_bounds c =
    let inv = c.loop-i.invariant in
    omega (arith, inv.room, same_length inv.appends, said c.args.at c.args.page.now c.has_room.ensures c.if-has_room.true)

pub returns-after-loop-i : goal.returns-after-loop-i
returns-after-loop-i c =
    let counted = ends c.loop-i.invariant (omega arith) c.word.ensures in
    with_room _ _ _ (said c.args.at c.args.page.now c.has_room.ensures c.if-has_room.true) counted.short counted.appends
