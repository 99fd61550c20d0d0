-- Words that hold none whose setup is in range.
use Rattle.calls.specs.declared.Call.TheVariants.{LatentTest}
use Rattle.states.proofs.ReadLaws.{none_there}
use Rattle.recovery_c.proofs.Told.{unfit_answer}
use Rattle.recovery_c.proofs.long.latent_test.Goals as goal

pub returns-in-None : goal.returns-in-None
returns-in-None c = unfit_answer c.args.state.now LatentTest (none_there c.args.state.now c.in-None.ensures) c.number.ensures
