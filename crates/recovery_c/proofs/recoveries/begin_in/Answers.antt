-- The setup's refusal, then room for the words.
use Rattle.std.proofs.Common.{rules}
use Rattle.recovery_c.proofs.Told.{setup_refused, fresh_kept, fresh_short, fresh_words}
use Rattle.recovery_c.proofs.recoveries.begin_in.Goals as goal

pub returns-in_err-fresh-clause-answer : goal.returns-in_err-fresh-clause-answer
returns-in_err-fresh-clause-answer c =
    rw (setup_refused c.args.setup c.args.state.now c.in_err-fresh.ensures) (search rules)

-- room for the words
pub returns-then-keep-clause-answer : goal.returns-then-keep-clause-answer
returns-then-keep-clause-answer c = rw (fresh_kept c.args.setup c.args.state.now c.in_ok-fresh.ensures c.keep.ensures c.if-keep.true)

pub returns-then-keep-clause-words : goal.returns-then-keep-clause-words
returns-then-keep-clause-words c = fresh_words c.args.setup c.args.state.now c.in_ok-fresh.ensures c.keep.ensures

-- too few
pub returns-else-keep-clause-answer : goal.returns-else-keep-clause-answer
returns-else-keep-clause-answer c = rw (fresh_short c.args.setup c.args.state.now c.in_ok-fresh.ensures c.keep.ensures c.if-keep.false)

pub returns-else-keep-clause-words : goal.returns-else-keep-clause-words
returns-else-keep-clause-words c = fresh_words c.args.setup c.args.state.now c.in_ok-fresh.ensures c.keep.ensures
