-- A tape over 4,096 has its one line, and every other is played. Assumes nothing.
use Rattle.std.proofs.Common.{ℕ, ◌≡◌, ◌≤◌, ◌<◌, List, length, arith}
use borrow.Author.Tests.{lt-ltb, le-ltb}
use Rattle.octets.specs.declared.Refusal.TheVariants.{TapeLong}
use Rattle.octets.specs.Refusals.{number}
use Rattle.octets.specs.Checks.{verdict}
use Rattle.lines.specs.Lines.{fault_text}
use Rattle.lines.specs.Page.{WritesLine}
use Rattle.lines.proofs.Room.{shown}
use Rattle.tape.specs.Player.{enough, played, tape_checks, output_of, PageHolds}

pub over : (tape : List ℕ) {page later : List ℕ} {r : ℕ} → WritesLine (fault_text (number TapeLong)) page 0 r later → length page ≡ enough → 4096 < length tape
    → PageHolds (output_of tape) r later
unfolding output_of tape_checks verdict
over tape w room long =
    let on = shown (omega arith) w in
    rw (lt-ltb 4096 (length tape) long) (record { within = on.within; texts = on.front })

pub not_over : (tape : List ℕ) {later : List ℕ} {r : ℕ} → PageHolds (played tape) r later → length tape ≤ 4096 → PageHolds (output_of tape) r later
unfolding output_of tape_checks verdict
not_over tape h short = rw (le-ltb 4096 (length tape) short) h
