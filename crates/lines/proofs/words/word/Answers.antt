-- The part of the table that is lent is the word.
use Rattle.std.proofs.Common.{ap, length, arith}
use Rattle.lines.proofs.Table.{stands}
use Rattle.lines.proofs.Growth.{like}
use Rattle.lines.proofs.words.word.Goals as goal

pub slice_bounds-append-count : goal.slice_bounds-append-count
slice_bounds-append-count c = (stands c.args.i c.requires.i_bound).ordered

pub slice_bounds-append-start : goal.slice_bounds-append-start
slice_bounds-append-start c = (stands c.args.i c.requires.i_bound).ordered

pub slice_bounds-append-end : goal.slice_bounds-append-end
slice_bounds-append-end c = (stands c.args.i c.requires.i_bound).within

pub append-requires : goal.append-requires
append-requires c = omega (arith, ap length (stands c.args.i c.requires.i_bound).texts, c.requires.i_in_bounds)

pub returns : goal.returns
returns c = like (stands c.args.i c.requires.i_bound).texts c.append.ensures
