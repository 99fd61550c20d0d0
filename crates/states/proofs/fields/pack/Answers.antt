-- Each field is its word.
use Rattle.octets.proofs.Bools.{one_if}
use Rattle.states.specs.Fields.{words_of}
use Rattle.states.proofs.fields.pack.Goals as goal

pub returns : goal.returns
unfolding words_of
returns c = rw (c.count.ensures, one_if c.args.s.take_any)
