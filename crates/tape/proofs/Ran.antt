-- A page that holds the output, put into the lent buffer. Assumes nothing.
use Prim.Native.Nat.{ℕ, ◌≤◌}
use native.Mathlib.Omega.{arith}
use mathlib.Core.Path.{◌≡◌, ap, ◌∙◌}
use mathlib.Core.Bool.{Bool, cond}
use mathlib.Core.List.{List}
use lib.ListN.{length, take, drop, length-append}
use borrow.Author.Tests.{le-leb}
use lib.Seq.{length-take-le}
use Rattle.std.specs.Prelude.{Ok, Err}
use Rattle.std.proofs.lemmas.Bool.Decides.{nat_tests}
use Rattle.octets.specs.declared.Refusal.TheVariants.{OutputShort}
use Rattle.octets.specs.Checks.{verdict}
use Rattle.octets.specs.Copy.{Puts}
use Rattle.tape.specs.Player.{enough, output_of, run_checks, PageHolds, Runs, EnoughRoom}

pub ran : (tape out : List ℕ) {n : ℕ} {page later : List ℕ} {r : Bool} → PageHolds (output_of tape) n page → enough ≡ length page
    → Puts (take n page) out r later → Runs tape out (cond r (Ok n) (Err OutputShort)) later
unfolding run_checks verdict
ran tape out {n} {page} h room p =
    let long = rw h.texts at (length-take-le n page h.within) in
    record {
      answer = grind (arith, nat_tests, p.answer, h.texts);
      buffer = grind (arith, nat_tests, p.buffer, h.texts);
      suffices = omega (arith, h.within);
    }

-- a length that is answered fits the buffer
pub within : (tape out : List ℕ) {n : ℕ} {later : List ℕ} → Runs tape out (Ok n) later → n ≤ length later
unfolding run_checks verdict
within tape out p = grind (arith, nat_tests, p.answer, ap length p.buffer, length-append (output_of tape) (drop (length (output_of tape)) out))

pub enough_room : EnoughRoom
unfolding run_checks verdict
enough_room tape out r later p room = p.answer ∙ rw (le-leb (length (output_of tape)) (length out) (omega (arith, p.suffices)))
