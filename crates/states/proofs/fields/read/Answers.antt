-- The first words are read; too few hold nothing.
use Rattle.states.proofs.ReadLaws.{too_few}
use Rattle.states.proofs.Front.{read_front}
use Rattle.states.proofs.fields.read.Goals as goal

pub returns-in_err-words : goal.returns-in_err-words
returns-in_err-words c = rw c.from_residual.ensures (too_few c.args.state.now c.in_err-words.ensures)

pub returns : goal.returns
returns c = read_front c.in_ok-words.ensures c.read_with.ensures
