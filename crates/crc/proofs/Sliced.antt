-- Division steps of a number are the sum of those of its parts, so they can be looked up part by part. Assumes nothing.
use Prim.Native.Nat.{ℕ, zero, suc, ◌+◌, ◌-◌, ◌*◌, ◌≤◌, ◌/◌, ◌%◌, ◌^◌, ◌<◌}
use native.Mathlib.Omega.{arith}
use mathlib.Core.Path.{◌≡◌, sym, ap, ap₂, ◌∙◌}
use mathlib.Core.Bool.{Bool}
use mathlib.Core.List.{List, ◌++◌, append_assoc}
use lib.ListN.{length, length-append, get_or}
use lib.Pow.{pow_pos, split}
use lib.Bits.{bit_xor, xor_shifted}
use native.Mathlib.Nat.{mod-lt, zero-add}
use Rattle.crc.specs.Bits.{bits_of, number_of, zeros, ◌⊕◌}
use Rattle.crc.specs.Division.{divide}
use Rattle.crc.specs.Tables.{steps, slice, slices}
use Rattle.crc.proofs.Sums.{sum_append, sum_comm, sum_assoc, zeros_sum}
use Rattle.crc.proofs.Steps.{divide_add, divide_sum, divide_zeros, length_divide}
use Rattle.crc.proofs.Numbers.{length_bits, bits_join, bits_xor, bits_number, bits_zero, bits_low, number_below, same_bits}
use Rattle.crc.proofs.Rows.{by-rule}

-- the steps leave 32 bits
length_steps : (k n : ℕ) → length (divide k (bits_of k n ++ zeros 32)) ≡ 32
length_steps k n =
    let all = length-append (bits_of k n) (zeros 32) in
    omega (arith, all, length_bits k n, length_divide k (bits_of k n ++ zeros 32) (omega (arith, all, length_bits k n)))

pub bits_steps : (k n : ℕ) → bits_of 32 (steps k n) ≡ divide k (bits_of k n ++ zeros 32)
unfolding steps
bits_steps k n = rw (length_steps k n) at (bits_number (divide k (bits_of k n ++ zeros 32)))

pub steps_below : (k n : ℕ) → steps k n < 2 ^ 32
unfolding steps
steps_below k n = rw (length_steps k n) at (number_below (divide k (bits_of k n ++ zeros 32)))

-- bits above those that are stepped through do not matter
pub steps_low : (k n : ℕ) → steps k (n % 2 ^ k) ≡ steps k n
unfolding steps
steps_low k n = ap (λ (l : List Bool). number_of (divide k (l ++ zeros 32))) (bits_low k n)

-- of a sum
steps_xor : (k a b : ℕ) → bits_of 32 (steps k (bit_xor a b)) ≡ bits_of 32 (steps k a) ⊕ bits_of 32 (steps k b)
unfolding ◌⊕◌
steps_xor k a b =
    bits_steps k (bit_xor a b)
    ∙ ap (λ (l : List Bool). divide k (l ++ zeros 32)) (bits_xor k a b)
    ∙ ap (divide k) (sym (sum_append (bits_of k a) (bits_of k b) (zeros 32) (zeros 32) (length_bits k a ∙ sym (length_bits k b))))
    ∙ divide_sum k (bits_of k a ++ zeros 32) (bits_of k b ++ zeros 32) (omega (arith, length-append (bits_of k b) (zeros 32), length_bits k b))
    ∙ sym (ap₂ (λ (l m : List Bool). l ⊕ m) (bits_steps k a) (bits_steps k b))

-- of a number above so many zeros
pub steps_above : (j k b : ℕ) → steps (j + k) (b * 2 ^ j) ≡ steps k b
unfolding steps
steps_above j k b =
    let above : bits_of (j + k) (b * 2 ^ j) ≡ zeros j ++ bits_of k b
    = ap (bits_of (j + k)) (sym (zero-add (b * 2 ^ j))) ∙ bits_join j k 0 b (pow_pos j)
    ∙ ap (λ (l : List Bool). l ++ bits_of k b) (bits_zero j) in
    ap number_of
    (ap (λ (l : List Bool). divide (j + k) (l ++ zeros 32)) above
    ∙ ap (divide (j + k)) (append_assoc (zeros j) (bits_of k b) (zeros 32))
    ∙ divide_add j k (zeros j ++ (bits_of k b ++ zeros 32))
    ∙ ap (divide k) (divide_zeros j (bits_of k b ++ zeros 32)))

-- the low bits by themselves, and the others by themselves
steps_parts : (j k n : ℕ) → bits_of 32 (steps (j + k) n) ≡ bits_of 32 (steps (j + k) (n % 2 ^ j)) ⊕ bits_of 32 (steps k (n / 2 ^ j))
steps_parts j k n =
    let high = n / 2 ^ j * 2 ^ j in
    let low = n % 2 ^ j in
    let parts : n ≡ bit_xor high low = sym (xor_shifted (n / 2 ^ j) j low (mod-lt n (pow_pos j)) ∙ split n j) in
    ap (λ (x : ℕ). bits_of 32 (steps (j + k) x)) parts
    ∙ steps_xor (j + k) high low
    ∙ sum_comm (bits_of 32 (steps (j + k) high)) (bits_of 32 (steps (j + k) low))
    ∙ ap (λ (x : ℕ). bits_of 32 (steps (j + k) low) ⊕ bits_of 32 x) (steps_above j k (n / 2 ^ j))

-- half an octet looked up in the slices, with the halves above it still to come
slice_parts : (j n : ℕ) → j < 16
    → bits_of 32 (steps (4 + 4 * j) n) ≡ bits_of 32 (get_or slices (16 * j + n % 16) 0) ⊕ bits_of 32 (steps (4 * j) (n / 16))
slice_parts j n p =
    let i = 16 * j + n % 16 in
    let word : get_or slices i 0 ≡ slice i = by-rule slice 256 i (omega arith) in
    let value : i % 16 ≡ n % 16 = omega arith in
    let width : 4 * suc (i / 16) ≡ 4 + 4 * j = omega arith in
    rw (word, value, width) (steps_parts 4 (4 * j) n)

-- a sum of words under way: with nothing added, one word more, and nothing left
pub sum_begins : (n : ℕ) → bits_of 32 0 ⊕ bits_of 32 n ≡ bits_of 32 n
sum_begins n = rw (bits_zero 32) (zeros_sum 32 (bits_of 32 n) (omega (arith, length_bits 32 n)))

pub sum_goes_on : (words : List ℕ) (sum k n : ℕ) {all : List Bool} → words ≡ slices → 0 < k → k ≤ 16
    → bits_of 32 sum ⊕ bits_of 32 (steps (4 * k) n) ≡ all
    → bits_of 32 (bit_xor sum (get_or words (16 * (k - 1) + n % 16) 0)) ⊕ bits_of 32 (steps (4 * (k - 1)) (n / 16)) ≡ all
sum_goes_on words sum k n w l h e =
    let word = get_or slices (16 * (k - 1) + n % 16) 0 in
    let left = bits_of 32 (steps (4 * (k - 1)) (n / 16)) in
    let one : 4 + 4 * (k - 1) ≡ 4 * k = omega arith in
    rw w
    (ap (λ (l : List Bool). l ⊕ left) (bits_xor 32 sum word)
    ∙ sum_assoc (bits_of 32 sum) (bits_of 32 word) left
    ∙ ap (λ (l : List Bool). bits_of 32 sum ⊕ l) (sym (slice_parts (k - 1) n (omega arith)))
    ∙ rw one e)

pub sum_ends : (sum k n j w : ℕ) → k ≤ 0 → sum < 2 ^ 32 → bits_of 32 sum ⊕ bits_of 32 (steps (4 * k) n) ≡ bits_of 32 (steps j w)
    → sum ≡ steps j w
unfolding divide bits_of
sum_ends sum zero n j w z p e =
    same_bits 32 sum (steps j w) p (steps_below j w)
    (sym (ap (λ (l : List Bool). bits_of 32 sum ⊕ l) (bits_steps 0 n) ∙ sum_comm (bits_of 32 sum) (zeros 32)
    ∙ zeros_sum 32 (bits_of 32 sum) (omega (arith, length_bits 32 sum)))
    ∙ e)
sum_ends sum (suc k) n j w z p e = absurd (omega arith)
