-- One test that is computed over all words.
use Rattle.std.proofs.Common.{refl}
use Rattle.crc.specs.Bits.{bits_of, number_of, ◌⊕◌}
use Rattle.crc.specs.Division.{generator, divide}
use Rattle.crc.specs.Tables.{steps}
use Rattle.crc.proofs.Rows.{fits, fits_row}
use Rattle.crc.proofs.table.eight_steps.Goals as goal

pub returns : goal.returns
unfolding bits_of number_of ◌⊕◌ generator divide steps fits
returns c = fits_row (steps 8) 0 _ refl
