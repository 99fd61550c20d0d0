-- The cases with a star (`specs/Starred`), computed from the written rules. Assumes nothing.
use mathlib.Core.Path.{refl}
use Rattle.octets.specs.Checks.{verdict}
use Rattle.encoding.specs.Encodings.{in_front, mark as tell, id_and_size, id_word, words, as_octets, six}
use Rattle.marks.specs.Window.{value_of, number, word_in, marks_of, mark, none, clear_from, set, reach, moved, lost_by, slid, lost_in}
use Rattle.setup.specs.Conversion.{full_ticks, ticks_of}
use Rattle.setup.specs.Range.{setup_checks, checked, is_vector, is_individual}
use Rattle.rules.specs.Difference.{apart, signed, difference, out_of_order}
use Rattle.rules.specs.TakeAny.{first_marks, first}
use Rattle.rules.specs.Vector.{late, onward, by_difference, vector}
use Rattle.rules.specs.Matching.{match}
use Rattle.rules.specs.ByRule.{by_rule}
use Rattle.rules.specs.FirstPlace.{opened, carried, hole_by, holes_in, traced}
use Rattle.counters.specs.Counting.{plus, counted}
use Rattle.recovery.specs.Soundness.{awaits, parts_agree, keeps_first, sound}
use Rattle.recovery.specs.Resets.{fresh_state}
use Rattle.recovery.specs.Timer.{restarted}
use Rattle.recovery.specs.Packets.{numbered, tracing, settled, heard, packet_of}
use Rattle.edges.specs.Starred.{cases, Starred}

pub starred : Starred
unfolding cases in_front tell id_and_size id_word words as_octets six value_of number word_in marks_of mark none clear_from set reach moved lost_by
    slid lost_in verdict full_ticks ticks_of setup_checks checked is_vector is_individual apart signed difference out_of_order first_marks first late
    onward by_difference vector match plus awaits parts_agree keeps_first sound fresh_state restarted by_rule numbered opened carried hole_by
    holes_in traced tracing counted settled heard packet_of
starred = refl
