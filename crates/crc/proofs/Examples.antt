-- The published values, computed by the division itself. Assumes nothing.
use mathlib.Core.Path.{refl}
use Rattle.crc.specs.Bits.{bits_of, number_of, sent, ◌⊕◌}
use Rattle.crc.specs.Division.{generator, divide, remainder, crc}
use Rattle.crc.specs.Damage.{Published}

pub published : Published
unfolding bits_of number_of sent ◌⊕◌ generator divide remainder crc
published = (refl, refl, refl, refl, refl, refl)
