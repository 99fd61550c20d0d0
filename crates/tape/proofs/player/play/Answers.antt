-- A fault, or the end of the tape.
use Rattle.std.proofs.Common.{sym}
use Rattle.tape.proofs.Played.{ends_faulty, ends_well}
use Rattle.tape.proofs.player.play.Goals as goal

pub returns-in-Err : goal.returns-in-Err
returns-in-Err c = ends_faulty c.requires c.loop-line.invariant (rw c.number.ensures at c.fault.ensures) (sym c.in-Err.ensures)

pub returns-in-Ok-End : goal.returns-in-Ok-End
returns-in-Ok-End c =
    ends_well c.requires c.loop-line.invariant (rw c.figures.ensures at c.counts.ensures)
    (sym (rw c.in-Ok-End.field-0-is at c.in-Ok-End.ensures))
