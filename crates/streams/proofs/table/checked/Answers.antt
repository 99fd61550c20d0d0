-- Each check of an entry decides, and a good entry is passed.
use Rattle.std.proofs.Common.{refl, arith}
use Rattle.std.proofs.lemmas.Result.{err_from_is_err_and}
use Rattle.streams.proofs.Bodies.{no_other}
use Rattle.streams.proofs.Walked.{none_left, too_many, unknown}
use Rattle.streams.proofs.Checking.{decided, entry_refused, entry_passed}
use Rattle.streams.proofs.table.checked.Goals as goal

-- the 257th entry
pub returns-then-passed-ge-MOST : goal.returns-then-passed-ge-MOST
returns-then-passed-ge-MOST c = decided c.loop-at.invariant (too_many _ _ c.loop-at-test.true refl (omega arith))

-- kinds 1 and 2
pub returns-in_err-checked_entry-in-11 : goal.returns-in_err-checked_entry-in-11
returns-in_err-checked_entry-in-11 c =
    let p = err_from_is_err_and c.from_residual.result c.from_residual.ensures.1 in
    rw (p.1, p.2)
    (entry_refused _ _ _ c.loop-at.invariant c.loop-at-test.true (omega arith) (cc) (omega arith)
    (c.in_err-checked_entry-in-11.ensures))

pub loop-at-preserved-in-11 : goal.loop-at-preserved-in-11
loop-at-preserved-in-11 c =
    entry_passed _ _ _ c.loop-at.invariant c.loop-at-test.true (omega arith) (cc) (omega arith)
    (c.in_ok-checked_entry-in-11.ensures)

-- kind 4
pub returns-in_err-checked_entry-in-25 : goal.returns-in_err-checked_entry-in-25
returns-in_err-checked_entry-in-25 c =
    let p = err_from_is_err_and c.from_residual-in_err-checked_entry-in-25.result c.from_residual-in_err-checked_entry-in-25.ensures.1 in
    rw (p.1, p.2)
    (entry_refused _ _ _ c.loop-at.invariant c.loop-at-test.true (omega arith) (cc) (omega arith)
    (c.in_err-checked_entry-in-25.ensures))

pub loop-at-preserved : goal.loop-at-preserved
loop-at-preserved c =
    entry_passed _ _ _ c.loop-at.invariant c.loop-at-test.true (omega arith) (cc) (omega arith)
    (c.in_ok-checked_entry-in-25.ensures)

-- an octet that is no kind
pub returns-in_default : goal.returns-in_default
returns-in_default c =
    let none = no_other _ c.body_length.ensures (λ e. omega arith) (λ e. omega arith) in
    decided c.loop-at.invariant (unknown _ _ c.loop-at-test.true c.body_length.ensures (omega arith) none)

-- all entries are passed
pub returns : goal.returns
returns c = decided c.loop-at.invariant (none_left _ _ c.loop-at-test.false)
