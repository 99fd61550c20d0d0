-- Of the state as `over` makes it all words are put; too few stay.
use borrow.Author.Tests.{lt-leb}
use Rattle.states.specs.Fields.{words_of}
use Rattle.states.proofs.Front.{keep_front}
use Rattle.states.proofs.fields.keep_short.Goals as goal

pub returns-in-Some : goal.returns-in-Some
returns-in-Some c = rw (keep_front c.in-Some.ensures c.args.s) at (rw c.over.ensures at c.keep.ensures)

pub returns-in-None : goal.returns-in-None
unfolding words_of
returns-in-None c = let short = lt-leb 31 _ c.in-None.ensures in record { answer = rw short; buffer = rw short }
