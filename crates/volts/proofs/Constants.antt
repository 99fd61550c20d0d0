-- The code's doubles are the whole numbers of the written rules. Assumes nothing.
use mathlib.Core.Path.{◌≡◌, refl}
use lib.Ieee.{of_bits, of_int}
use Rattle.volts.specs.Reading.{number, double}

pub zero : double 0 ≡ number 0
unfolding of_bits of_int
zero = refl

pub one : double 0x3ff0_0000_0000_0000 ≡ number 1
unfolding of_bits of_int
one = refl

pub hundred : double 0x4059_0000_0000_0000 ≡ number 100
unfolding of_bits of_int
hundred = refl

pub thousand : double 0x408f_4000_0000_0000 ≡ number 1000
unfolding of_bits of_int
thousand = refl

pub ruleset doubles = (zero, one, hundred, thousand)
