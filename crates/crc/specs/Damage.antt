-- What the division is worth (CR 6 of document 02): published values, what remains of bits with their check, and that damage is seen. Three
-- claims, which proofs/Damage and proofs/Examples prove. Assumes nothing.
use Rattle.std.specs.Prelude.{◌≤◌, ◌≡◌, Bool, not, List, [], ◌∷◌, ◌++◌, map, reverse, length, replicate}
use Rattle.crc.specs.Bits.{bits_of}
use Rattle.crc.specs.Division.{remainder, crc}

-- "Compare with published vectors": of no octets, "a", "abc", the nine digits, 32 octets of zeros and 32 of ones
abbrev pub Published : Type 0
Published =
    (crc [] ≡ 0x00000000)
    × (crc (97 ∷ []) ≡ 0xE8B7BE43)
    × (crc (97 ∷ 98 ∷ 99 ∷ []) ≡ 0x352441C2)
    × (crc (49 ∷ 50 ∷ 51 ∷ 52 ∷ 53 ∷ 54 ∷ 55 ∷ 56 ∷ 57 ∷ []) ≡ 0xCBF43926)
    × (crc (replicate 32 0) ≡ 0x190A55AD)
    × (crc (replicate 32 255) ≡ 0xFF6CAB0B)

-- the residue that is known of this division, C704DD7B
unfoldable pub residue : List Bool
residue = reverse (bits_of 32 0xC704DD7B)

-- it remains of bits with 32 more behind them exactly where these are their check
abbrev pub ResidueLeft : Type 0
ResidueLeft =
    (m c : List Bool)
    → length c ≡ 32
    → (c ≡ map not (remainder m) → remainder (m ++ c) ≡ residue) × (remainder (m ++ c) ≡ residue → c ≡ map not (remainder m))

-- bits that differ within 32 in a row, and nowhere else, have different remainders, however many there are
abbrev pub BurstsSeen : Type 0
BurstsSeen =
    (p w w' s : List Bool)
    → length w ≡ length w' → length w ≤ 32 → remainder (p ++ (w ++ s)) ≡ remainder (p ++ (w' ++ s)) → w ≡ w'
