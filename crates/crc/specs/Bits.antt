-- Bits in a row, in the order in which a frame's are sent: octet by octet, the low bit of each first (IEEE 802.3, clause 3.3). Assumes
-- nothing.
use Rattle.std.specs.Prelude.{ℕ, zero, suc, ◌+◌, ◌*◌, ◌/◌, ◌%◌, Bool, true, false, cond, not, List, [], ◌∷◌, ◌++◌, replicate, eqb}

-- k low bits of a number, the lowest first
unfoldable pub bits_of : ℕ → ℕ → List Bool
bits_of zero n = []
bits_of (suc k) n = eqb (n % 2) 1 ∷ bits_of k (n / 2)

-- the number that bits make, the first of them the lowest
unfoldable pub number_of : List Bool → ℕ
number_of [] = 0
number_of (b ∷ m) = number_of m * 2 + cond b 1 0

-- all bits of octets, in the order in which they are sent
unfoldable pub sent : List ℕ → List Bool
sent [] = []
sent (x ∷ o) = bits_of 8 x ++ sent o

abbrev pub zeros : ℕ → List Bool
zeros k = replicate k false

abbrev pub ones : ℕ → List Bool
ones k = replicate k true

-- whether two bits differ: their sum, and their difference, modulo 2
abbrev pub differ : Bool → Bool → Bool
differ a b = cond a (not b) b

-- the sum modulo 2 of two rows of bits, bit by bit from the first on; where one is longer, its further bits stay
infixr 40 ◌⊕◌
unfoldable pub ◌⊕◌ : List Bool → List Bool → List Bool
[] ⊕ m = m
(a ∷ l) ⊕ [] = a ∷ l
(a ∷ l) ⊕ (b ∷ m) = differ a b ∷ (l ⊕ m)
