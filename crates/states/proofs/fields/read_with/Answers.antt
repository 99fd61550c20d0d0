-- The setup is in range, and each word is one that its field can hold, or nothing is held.
use Rattle.states.specs.Fields.{held}
use Rattle.states.proofs.SameWords.{holds}
use Rattle.states.proofs.fields.read_with.Goals as goal

-- a word that its field cannot hold
pub returns-then-not-fields_fit : goal.returns-then-not-fields_fit
unfolding held
returns-then-not-fields_fit c = rw (c.told-state, ← c.fields_fit.ensures, c.if-not-fields_fit.true)

-- words that hold a state
pub unpack-requires-clause-holds : goal.unpack-requires-clause-holds
unfolding held
unpack-requires-clause-holds c =
    holds c.args.state.now (rw (c.told-state, ← c.fields_fit.ensures, c.if-not-fields_fit.false))

pub returns : goal.returns
unfolding held
returns c =
    rw (
      c.told-state,
      ← c.fields_fit.ensures,
      c.if-not-fields_fit.false,
      ← c.setup_fits.ensures,
      c.if-not-setup_fits.false,
      c.unpack.ensures,
    )
