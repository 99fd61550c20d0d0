-- Its numbers are checked, at its own latent difference.
use Rattle.setup.proofs.Setup.check.Goals as goal

pub returns : goal.returns
returns c = c.check_numbers.ensures _
