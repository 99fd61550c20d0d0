-- A tape while it is played: what the page holds, and what is still to come. Assumes nothing.
use Rattle.std.specs.Prelude.{Option, Some, None, Ok, Err}
use Prim.Native.Nat.{ℕ, zero, suc, ◌+◌, ◌*◌, ◌≤◌, ◌<◌}
use native.Mathlib.Omega.{arith}
use mathlib.Core.Path.{◌≡◌, refl, sym, ◌∙◌}
use mathlib.Core.List.{List, [], ◌++◌, append_assoc, append-nil}
use lib.ListN.{length, take, get_or}
use Rattle.octets.specs.declared.Refusal.{Refusal}
use Rattle.octets.specs.Refusals.{number}
use Rattle.recovery.specs.declared.State.{State}
use Rattle.counters.specs.declared.Counters.{Counters}
use Rattle.lines.specs.declared.Line.{Line}
use Rattle.lines.specs.Lines.{text, fault_text, counters_text, longest}
use Rattle.lines.specs.Page.{WritesLine}
use Rattle.lines.proofs.Table.{line_word}
use Rattle.lines.proofs.Room.{shown}
use Rattle.events.specs.Event.{width}
use Rattle.turns.specs.declared.Outcome.TheVariants.{Next, End}
use Rattle.turns.specs.Turn.{outcome_at}
use Rattle.tape.specs.Player.{figures, lines_from, played, enough, PageHolds}
use Rattle.tape.proofs.Turns.{next_within, next_lines, fault_lines, end_lines}

-- the tape is played up to `at`, and the first n octets of the page are its lines so far
pub record Playing (tape page : List ℕ) (at n : ℕ) (bench : Option State) : Type 0 where
  pub within : at ≤ length tape
  pub short : n ≤ 13 * at
  pub room : length page ≡ enough
  -- more lines than can still come
  pub most : ℕ
  pub more : length tape < at + most
  pub texts : take n page ++ lines_from most tape at bench ≡ played tape

pub starts : (tape page : List ℕ) → length page ≡ enough → Playing tape page 0 0 None
unfolding played
starts tape page e =
    record {
      within = omega arith;
      short = omega arith;
      room = e;
      most = length tape + 1;
      more = omega arith;
      texts = refl;
    }

module _ {tape page : List ℕ} {at n : ℕ} {bench : Option State} (small : length tape ≤ 4096) (p : Playing tape page at n bench) where
  -- there is room for one line more
  pub one_more : n + longest ≤ length page
  one_more = omega (arith, p.within, p.short, p.room)

  -- the line that comes next is on the page now
  joined : {line later : List ℕ} {r : ℕ} → WritesLine line page n r later → (rest lines : List ℕ) → lines ≡ line ++ rest
      → take n page ++ lines ≡ played tape → take r later ++ rest ≡ played tape
  joined {line} w rest lines e texts = rw (shown one_more w).front (append_assoc (take n page) line rest ∙ rw (← e) texts)

  -- a line that ends the output
  ends_by : {line later : List ℕ} {r : ℕ} → WritesLine line page n r later → (m : ℕ) → length tape < at + m
      → take n page ++ lines_from m tape at bench ≡ played tape → ((k : ℕ) → lines_from (suc k) tape at bench ≡ line)
      → PageHolds (played tape) r later
  ends_by w zero more texts e = absurd (omega (arith, p.within))
  ends_by {line} {later} {r} w (suc k) more texts e =
      record {
        within = (shown one_more w).within;
        texts = sym (append-nil (take r later)) ∙ joined w [] _ (e k ∙ sym (append-nil line)) texts;
      }

  pub ends_faulty : {refusal : Refusal} {r : ℕ} {later : List ℕ} → WritesLine (fault_text (number refusal)) page n r later
      → outcome_at tape at bench ≡ Err refusal → PageHolds (played tape) r later
  ends_faulty w e = ends_by w p.most p.more p.texts (λ k. fault_lines tape at bench k e)

  pub ends_well : {k : Counters} {r : ℕ} {later : List ℕ} → WritesLine (counters_text (figures k)) page n r later
      → outcome_at tape at bench ≡ Ok (End k) → PageHolds (played tape) r later
  ends_well w e = ends_by w p.most p.more p.texts (λ m. end_lines tape at bench m e)

  goes_by : (line : Line) {r : ℕ} {later : List ℕ} → WritesLine (text line) page n r later → (m : ℕ) → length tape < at + m
      → take n page ++ lines_from m tape at bench ≡ played tape → {s : State} → outcome_at tape at bench ≡ Ok (Next line s)
      → Playing tape later (at + 1 + width (get_or tape at 0)) r (Some s)
  goes_by line w zero more texts e = absurd (omega (arith, p.within))
  goes_by line w (suc k) more texts e =
      let on = shown one_more w in
      let thirteen : length (text line) ≤ 13 = rw (line_word line).texts at (line_word line).short in
      record {
        within = next_within tape at bench e;
        short = omega (arith, p.short, on.ends, thirteen);
        room = on.same ∙ p.room;
        most = k;
        more = omega arith;
        texts = joined w _ _ (next_lines tape at bench k e) texts;
      }

  pub goes : {line : Line} {r : ℕ} {later : List ℕ} → WritesLine (text line) page n r later → {s : State}
      → outcome_at tape at bench ≡ Ok (Next line s)
      → Playing tape later (at + 1 + width (get_or tape at 0)) r (Some s)
  goes {line} w e = goes_by line w p.most p.more p.texts e
