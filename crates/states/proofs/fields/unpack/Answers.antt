-- Each word is its field.
use Rattle.std.proofs.Common.{◌∙◌}
use Rattle.states.specs.Fields.{state_of}
use Rattle.states.proofs.fields.unpack.Goals as goal

pub returns : goal.returns
unfolding state_of
returns c =
    c.stored.ensures ∙ rw (c.setup_in-setup.ensures, c.counters_in-counters.ensures, c.requires.marks_value)
