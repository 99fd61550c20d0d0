-- The tapes of `specs/Examples`, computed from the written rules. Assumes nothing.
use mathlib.Core.Path.{refl}
use Rattle.octets.specs.Number.{be16, be32}
use Rattle.marks.specs.Window.{value_of, number, word_in, marks_of, mark, none, clear_from, set, reach, moved, lost_by, slid, lost_in}
use Rattle.setup.specs.Conversion.{full_ticks, ticks_of}
use Rattle.setup.specs.Range.{setup_checks, checked, is_vector, is_individual}
use Rattle.counters.specs.Counting.{plus, counted, reset_counted}
use Rattle.recovery.specs.Resets.{fresh_state, begun_from, reset_state}
use Rattle.recovery.specs.Soundness.{awaits, parts_agree, keeps_first, sound}
use Rattle.rules.specs.Difference.{apart, signed, difference}
use Rattle.rules.specs.Vector.{late, onward, by_difference, vector}
use Rattle.rules.specs.FirstPlace.{opened, carried, hole_by, holes_in, traced}
use Rattle.recovery.specs.Timer.{restarted, timed, tick_of}
use Rattle.recovery.specs.Packets.{numbered, tracing, settled, heard, packet_of}
use Rattle.rules.specs.TakeAny.{first_marks, first}
use Rattle.rules.specs.ByRule.{by_rule}
use Rattle.counters.specs.LatentErrors.{less, absolute, figure, exceeds}
use Rattle.recovery.specs.LatentErrors.{latent_error, latent_test_of}
use Rattle.octets.specs.Refusals.{number as number_of}
use Rattle.octets.specs.Checks.{verdict}
use Rattle.lines.specs.Lines.{decimal_in, text, fault_text, labels, counted as listed, counters_text}
use Rattle.events.specs.Event.{known, width, checks}
use Rattle.turns.specs.Turn.{setup_at, call_at, begins, runs, event_at, outcome_at}
use Rattle.tape.specs.Player.{figures, lines_from, played, tape_checks, output_of}
use Rattle.tape.specs.Examples.{setup_for, setup, stuck, cases, AsPrinted}

pub as_printed : AsPrinted
unfolding number_of be16 be32 value_of number word_in marks_of mark none clear_from set reach moved lost_by slid lost_in full_ticks ticks_of setup_checks
    checked is_vector is_individual plus fresh_state begun_from awaits parts_agree keeps_first sound apart signed difference late onward
    by_difference vector restarted timed tick_of reset_state reset_counted by_rule numbered first_marks first opened carried hole_by holes_in traced
    tracing counted settled heard packet_of less absolute figure exceeds latent_error latent_test_of cases setup_for setup stuck output_of
    tape_checks verdict played lines_from figures outcome_at event_at checks begins known width setup_at call_at runs text fault_text labels listed
    counters_text decimal_in
as_printed = refl
