-- The call is made on the state that the words hold, and the next state's words take their place.
use Rattle.states.proofs.ReadLaws.{there, none_there}
use Rattle.recovery_c.proofs.Told.{unfit_told, step_told}
use Rattle.recovery_c.proofs.long.step.Goals as goal

-- words that hold a state
pub returns-in-Some : goal.returns-in-Some
returns-in-Some c =
    let read = there c.args.state.now c.in-Some.ensures in
    step_told c.args.state.now c.args.call read.0 read.1 c.take-step.ensures c.code.ensures c.keep.ensures

-- words that hold none whose setup is in range
pub returns-in-None : goal.returns-in-None
returns-in-None c = unfit_told c.args.state.now c.args.call (none_there c.args.state.now c.in-None.ensures) c.number.ensures
