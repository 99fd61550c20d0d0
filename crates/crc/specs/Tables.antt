-- The division by octets, and by several of them at once, "from a constant table" (CR 6 of document 02): what the words of the tables are,
-- what the functions on the way promise, and two claims, which proofs/Rows and proofs/OfTable prove. What `of` promises is in Division;
-- nothing here has to be believed for it. Assumes nothing.
use Rattle.std.specs.Prelude.{ℕ, zero, suc, ◌+◌, ◌*◌, ◌/◌, ◌%◌, ◌<◌, ◌≡◌, Bool, List, [], ◌∷◌, ◌++◌, length, take, drop, get_or, replicate}
use Rattle.crc.specs.Bits.{bits_of, number_of, sent, zeros, ◌⊕◌}
use Rattle.crc.specs.Division.{divide}

-- k division steps of a number of k bits, with 32 zeros behind it
unfoldable pub steps : ℕ → ℕ → ℕ
steps k n = number_of (divide k (bits_of k n ++ zeros 32))

-- a table by its rule: so many words, from index i on
unfoldable pub row : (ℕ → ℕ) → ℕ → ℕ → List ℕ
row rule i zero = []
row rule i (suc n) = rule i ∷ row rule (suc i) n

-- "a constant table of 256 words whose rule, eight division steps for each index, is shown once over the whole table": that the code's
-- words are these is the contract of `eight_steps`, and its proof one computed test
abbrev pub table : List ℕ
table = row (steps 8) 0 256

-- the rule of any one of its words
abbrev pub EightSteps : Type 0
EightSteps = (i : ℕ) → i < 256 → get_or table i 0 ≡ steps 8 i

-- several octets at once, from a second table, the slices: word 16 k + j is all the steps of half an octet j with k such halves behind it.
-- That the code's words are these is the contract of `half_steps`
abbrev pub slice : ℕ → ℕ
slice i = steps (4 * suc (i / 16)) (i % 16)

abbrev pub slices : List ℕ
slices = row slice 0 256

-- what remains of a row where 32 bits, the register, are added to its first 32: `remainder` has all ones for them
unfoldable pub left : List Bool → List Bool → List Bool
left r m = divide (length m) (r ⊕ (m ++ zeros 32))

-- what a register becomes by octets
unfoldable pub through : ℕ → List ℕ → ℕ
through c o = number_of (left (bits_of 32 c) (sent o))

-- so many octets from a place on, as a number, the low octet first
abbrev pub Low : ℕ → List ℕ → ℕ → ℕ → Type 0
Low n o at r = bits_of (8 * n) r ≡ sent (take n (drop at o))

-- the slices follow from the table: each word is that of the lower or the upper half of an octet, gone through m octets of zeros
abbrev pub SlicesOfTable : Type 0
SlicesOfTable =
    (m j : ℕ)
    → m < 8 → j < 16
    → (get_or slices (32 * m + 16 + j) 0 ≡ through (get_or table j 0) (replicate m 0))
    × (get_or slices (32 * m + j) 0 ≡ through (get_or table (16 * j) 0) (replicate m 0))
