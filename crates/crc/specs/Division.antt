-- The CRC-32 of IEEE 802.3 (CR 6 of document 02): "the bit-by-bit division". Clause 3.2.9 has it in five steps, as they are commonly
-- known: a) the first 32 bits are complemented; b) all bits are the coefficients of a polynomial M(x) modulo 2, the one that is sent first
-- that of the highest power; c) M(x) times x^32 is divided by G(x); d) what remains is 32 bits; e) these are complemented. Assumes nothing.
use Rattle.std.specs.Prelude.{ℕ, zero, suc, ◌+◌, ◌^◌, ◌≡◌, Bool, cond, not, List, [], ◌∷◌, ◌++◌, map, reverse, length}
use Rattle.crc.specs.Bits.{bits_of, number_of, sent, zeros, ones, ◌⊕◌}

-- G(x) below its highest power, x^32: 04C11DB7
unfoldable pub generator : List Bool
generator =
    reverse
    (bits_of 32 (2 ^ 26 + 2 ^ 23 + 2 ^ 22 + 2 ^ 16 + 2 ^ 12 + 2 ^ 11 + 2 ^ 10 + 2 ^ 8 + 2 ^ 7 + 2 ^ 5 + 2 ^ 4 + 2 ^ 2 + 2 ^ 1 + 2 ^ 0))

-- c) so many steps of a long division by G(x): each drops the highest power, and where its bit is 1 takes G(x) away below it
unfoldable pub divide : ℕ → List Bool → List Bool
divide zero m = m
divide (suc n) [] = []
divide (suc n) (b ∷ m) = divide n (cond b (generator ⊕ m) m)

-- a) to d): a row times x^32, its first 32 bits complemented, divided by G(x), and what remains. The 32 zeros are there before a), which is
-- the same for every frame: of fewer than 32 bits, zeros are among the first 32
unfoldable pub remainder : List Bool → List Bool
remainder m = divide (length m) (ones 32 ⊕ (m ++ zeros 32))

-- e) the remainder complemented is the check: a number whose low bit is sent first
unfoldable pub crc : List ℕ → ℕ
crc o = number_of (map not (remainder (sent o)))

-- the promise of `of`
abbrev pub Sums : List ℕ → ℕ → Type 0
Sums o r = r ≡ crc o
