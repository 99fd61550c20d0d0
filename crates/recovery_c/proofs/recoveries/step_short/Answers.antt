-- The call is made on the short state that the words hold.
use Rattle.std.proofs.Common.{sym, ◌∙◌}
use Rattle.states.proofs.ReadLaws.{short_there}
use Rattle.recovery_c.proofs.Told.{unfit_told, short_told}
use Rattle.recovery_c.proofs.recoveries.step_short.Goals as goal

-- it is not sound
pub returns-then-not-is_sound : goal.returns-then-not-is_sound
returns-then-not-is_sound c =
    let read = short_there c.args.state.now c.requires in
    unfit_told c.args.state.now c.args.call (λ _. rw read.is at (sym c.is_sound.ensures ∙ c.if-not-is_sound.true)) c.number.ensures

pub returns : goal.returns
returns c =
    short_told c.args.state.now c.args.call (short_there c.args.state.now c.requires)
    (sym c.is_sound.ensures ∙ c.if-not-is_sound.false)
    c.take-step.ensures c.code.ensures c.keep_short.ensures
