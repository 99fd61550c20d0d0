-- The first words are read, and those that are 0 are those of the state; too few hold nothing.
use Rattle.std.proofs.Common.{sym, ◌∙◌, arith}
use Rattle.marks.specs.Window.{none, marks_of, word_in}
use Rattle.states.proofs.ReadLaws.{too_few_for_short, short_read}
use Rattle.states.proofs.ShortLaws.{first_word}
use Rattle.states.proofs.Front.{read_short_front}
use Rattle.states.proofs.fields.read_short.Goals as goal

pub returns-in_err-words : goal.returns-in_err-words
returns-in_err-words c = rw c.from_residual.ensures (too_few_for_short c.args.state.now c.in_err-words.ensures)

pub read_with-requires : goal.read_with-requires
unfolding none marks_of word_in
read_with-requires c =
    rw c.none.ensures
    (first_word c.in_ok-words.words.now (sym c.none_past_the_first.ensures ∙ c.if-not-none_past_the_first.false))

pub returns : goal.returns
returns c =
    let clear = sym c.none_past_the_first.ensures ∙ c.if-not-none_past_the_first.false in
    read_short_front c.in_ok-words.ensures
    (short_read c.in_ok-words.words.now (omega arith) clear c.read_with.ensures)
