-- Document 01, "The bench tape", for C: what the call answers and writes, by the definitions of `tape`. Assumes nothing.
use Rattle.std.specs.Prelude.{ℕ, List}
use Rattle.octets.specs.Checks.{verdict}
use Rattle.tape.specs.Player.{output_of, run_checks}
use Rattle.words.specs.Answers.{WritesTo}

-- the promise of `ahz_tape_v3`: the output at the start of the buffer and its length beside it; "output shorter than result" is 8, and then
-- "state and buffers keep their values"
abbrev pub RunsTo : (tape out : List ℕ) (before r : ℕ) (later : List ℕ) (after : ℕ) → Type 0
RunsTo tape out before r later after = WritesTo (verdict (run_checks tape out)) (output_of tape) out before r later after
