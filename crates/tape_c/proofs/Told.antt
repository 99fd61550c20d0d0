-- From the tape room's promise to the promise of its call for C. Assumes nothing.
use Prim.Native.Nat.{ℕ}
use mathlib.Core.Path.{refl}
use mathlib.Core.List.{List}
use Rattle.std.specs.Prelude.{Result}
use Rattle.octets.specs.declared.Refusal.{Refusal}
use Rattle.octets.specs.Checks.{verdict}
use Rattle.words.specs.Answers.{code_of, length_of}
use Rattle.words.proofs.FromRoom.{written_told}
use Rattle.tape.specs.Player.{run_checks, Runs}
use Rattle.tape_c.specs.Tapes.{RunsTo}

pub tape_told : (tape out : List ℕ) {before : ℕ} {w : Result ℕ Refusal} {later : List ℕ} → Runs tape out w later
    → RunsTo tape out before (code_of w) later (length_of w before)
tape_told tape out p = written_told (verdict (run_checks tape out)) p.answer p.buffer (record { answer = refl; told = refl })
