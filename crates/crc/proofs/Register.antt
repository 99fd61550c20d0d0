-- The register of a division by octets: what is to be added to the bits that come. Assumes nothing.
use Prim.Native.Nat.{ℕ, ◌+◌, ◌-◌, ◌*◌, ◌/◌, ◌%◌, ◌^◌, ◌≤◌, ◌<◌}
use native.Mathlib.Nat.{add_comm, div-eq_of_lt, mod-eq_of_lt, lt_of_le_of_lt, lt_of_lt_of_le}
use native.Mathlib.Omega.{arith}
use mathlib.Core.Path.{◌≡◌, refl, sym, ap, ap₂, ◌∙◌}
use mathlib.Core.Bool.{Bool, not}
use mathlib.Core.List.{List, [], ◌∷◌, ◌++◌, append_assoc, map}
use lib.ListN.{length, take, drop, get_or, length-append, length-map, take-append-drop}
use lib.Seq.{take-add, take_all}
use lib.Bits.{bit_xor, xor_shr, xor_zero_r, xor_lt}
use lib.Pow.{shr_le, pow_mono}
use Rattle.octets.proofs.Parts.{to_end}
use Rattle.crc.specs.Bits.{bits_of, number_of, sent, zeros, ones, ◌⊕◌}
use Rattle.crc.specs.Division.{divide, remainder, crc}
use Rattle.crc.specs.Tables.{steps, table, left, through, Low}
use Rattle.crc.proofs.Sums.{sum_comm, sum_padded, length_sum, zeros_sum}
use Rattle.crc.proofs.Steps.{divide_add, divide_over, length_divide}
use Rattle.crc.proofs.Numbers.{length_bits, bits_split, bits_padded, bits_xor, bits_number, number_bits, number_below, number_not}
use Rattle.crc.proofs.Sliced.{bits_steps, steps_below, steps_low}
use Rattle.crc.proofs.LowFirst.{sent_append, low_one}
use Rattle.crc.proofs.Rows.{eight_steps}

-- bits behind bits
pub left_append : (r m n : List Bool) → left r (m ++ n) ≡ left (left r m) n
unfolding left
left_append r m n =
    ap₂ (λ (k : ℕ) (l : List Bool). divide k (r ⊕ l)) (length-append m n) (append_assoc m n (zeros 32))
    ∙ divide_add (length m) (length n) (r ⊕ (m ++ (n ++ zeros 32)))
    ∙ ap (divide (length n)) (divide_over r m (n ++ zeros 32) (omega (arith, length-append n (zeros 32))))

pub length_left : (r m : List Bool) → length r ≡ 32 → length (left r m) ≡ 32
unfolding left
length_left r m e =
    let long = length-append m (zeros 32) in
    let all = length_sum r (m ++ zeros 32) (omega (arith, e, long)) in
    omega (arith, long, all, length_divide (length m) (r ⊕ (m ++ zeros 32)) (omega (arith, long, all)))

-- the steps of a number with bits behind it
pub steps_over : (k n : ℕ) (m : List Bool) → 32 ≤ length m → divide k (bits_of k n ++ m) ≡ divide k (bits_of k n ++ zeros 32) ⊕ m
unfolding ◌⊕◌
steps_over k n m h = rw (length_bits k n) at (divide_over [] (bits_of k n) m h)

-- so many bits of a word added to the register, as one word
word_steps : (k c x : ℕ) → c < 2 ^ 32 → x < 2 ^ k
    → divide k (bits_of 32 c ⊕ (bits_of k x ++ zeros 32)) ≡ divide k (bits_of k (bit_xor c x) ++ zeros 32) ⊕ bits_of 32 (c / 2 ^ k)
unfolding ◌⊕◌
word_steps k c x p q =
    let longer : (bits_of 32 c ++ zeros k) ⊕ (bits_of k x ++ zeros 32) ≡ bits_of (32 + k) c ⊕ bits_of (k + 32) x
    = ap₂ (λ (l m : List Bool). l ⊕ m) (sym (bits_padded 32 k c p)) (sym (bits_padded k 32 x q)) in
    let rest : bit_xor c x / 2 ^ k ≡ c / 2 ^ k = xor_shr c x k ∙ rw (div-eq_of_lt q, xor_zero_r (c / 2 ^ k)) in
    let word : bits_of 32 c ⊕ (bits_of k x ++ zeros 32) ≡ bits_of k (bit_xor c x) ++ bits_of 32 (c / 2 ^ k)
    = sym (sum_padded (bits_of 32 c) (bits_of k x ++ zeros 32) k
    (omega (arith, length_bits 32 c, length-append (bits_of k x) (zeros 32), length_bits k x)))
    ∙ longer
    ∙ ap (λ (j : ℕ). bits_of j c ⊕ bits_of (k + 32) x) (add_comm 32 k)
    ∙ sym (bits_xor (k + 32) c x)
    ∙ bits_split k 32 (bit_xor c x)
    ∙ ap (λ (n : ℕ). bits_of k (bit_xor c x) ++ bits_of 32 n) rest in
    ap (divide k) word ∙ steps_over k (bit_xor c x) (bits_of 32 (c / 2 ^ k)) (omega (arith, length_bits 32 (c / 2 ^ k)))

-- and looked up
word_through : (k c x : ℕ) → c < 2 ^ 32 → x < 2 ^ k
    → number_of (left (bits_of 32 c) (bits_of k x)) ≡ bit_xor (steps k (bit_xor c x)) (c / 2 ^ k)
unfolding left
word_through k c x p q =
    let first = steps k (bit_xor c x) in
    let rest = c / 2 ^ k in
    let sum : bits_of 32 (bit_xor first rest) ≡ divide k (bits_of k (bit_xor c x) ++ zeros 32) ⊕ bits_of 32 rest
    = bits_xor 32 first rest ∙ ap (λ (l : List Bool). l ⊕ bits_of 32 rest) (bits_steps k (bit_xor c x)) in
    ap number_of (rw (length_bits k x) (word_steps k c x p q) ∙ sym sum) ∙ number_bits 32 (bit_xor first rest)
    ∙ mod-eq_of_lt (xor_lt 32 first rest (steps_below k (bit_xor c x)) (lt_of_le_of_lt (shr_le c k) p))

-- the register behind octets, as bits
pub bits_through : (c : ℕ) (o : List ℕ) → bits_of 32 (through c o) ≡ left (bits_of 32 c) (sent o)
unfolding through
bits_through c o = rw (length_left (bits_of 32 c) (sent o) (length_bits 32 c)) at (bits_number (left (bits_of 32 c) (sent o)))

-- octets behind octets
through_append : (c : ℕ) (o p : List ℕ) → through c (o ++ p) ≡ through (through c o) p
unfolding through
through_append c o p =
    ap number_of
    (ap (left (bits_of 32 c)) (sent_append o p) ∙ left_append (bits_of 32 c) (sent o) (sent p)
    ∙ ap (λ (r : List Bool). left r (sent p)) (sym (bits_through c o)))

as_number : (c : ℕ) (o : List ℕ) {m : List Bool} → sent o ≡ m → through c o ≡ number_of (left (bits_of 32 c) m)
unfolding through
as_number c o e = ap (λ (m : List Bool). number_of (left (bits_of 32 c) m)) e

pub through_below : (c : ℕ) (o : List ℕ) → through c o < 2 ^ 32
unfolding through
through_below c o = rw (length_left (bits_of 32 c) (sent o) (length_bits 32 c)) at (number_below (left (bits_of 32 c) (sent o)))

-- no octets
pub none_through : (c : ℕ) → c < 2 ^ 32 → c ≡ through c []
unfolding through left divide sent
none_through c p =
    sym
    (ap number_of (sum_comm (bits_of 32 c) (zeros 32) ∙ zeros_sum 32 (bits_of 32 c) (omega (arith, length_bits 32 c)))
    ∙ number_bits 32 c ∙ mod-eq_of_lt p)

-- so many octets more, as a number
through_more : (n c : ℕ) (o : List ℕ) (at x : ℕ) → x < 2 ^ (8 * n) → Low n o at x
    → let before = through c (take at o) in
    through c (take (at + n) o) ≡ bit_xor (steps (8 * n) (bit_xor before x)) (before / 2 ^ (8 * n))
through_more n c o at x p q =
    let before = through c (take at o) in
    ap (through c) (take-add at n o) ∙ through_append c (take at o) (take n (drop at o))
    ∙ as_number before (take n (drop at o)) (sym q)
    ∙ word_through (8 * n) before x (through_below c (take at o)) p

pub nothing_through : (c : ℕ) (o : List ℕ) → c < 2 ^ 32 → length o ≡ 0 → c ≡ through c o
nothing_through c [] p e = none_through c p
nothing_through c (x ∷ o) p e = absurd (omega arith)

-- one octet more, by the table
pub octet_more : (words : List ℕ) (c past : ℕ) (o : List ℕ) (at : ℕ)
    → words ≡ table → past ≡ through c (take at o) → at < length o → get_or o at 0 < 256
    → bit_xor (get_or words (bit_xor past (get_or o at 0) % 256) 0) (past / 256) ≡ through c (take (at + 1) o)
octet_more words c past o at w e p q =
    let word = bit_xor (through c (take at o)) (get_or o at 0) in
    rw (w, e)
    (ap (λ (n : ℕ). bit_xor n (through c (take at o) / 256)) (eight_steps (word % 256) (omega arith) ∙ steps_low 8 word)
    ∙ sym (through_more 1 c o at (get_or o at 0) q (low_one o at p)))

-- four octets or more, by all their steps: no bit of the register before them is left
pub word_more : (n c : ℕ) (o : List ℕ) (at x : ℕ) → 4 ≤ n → x < 2 ^ (8 * n) → Low n o at x
    → steps (8 * n) (bit_xor (through c (take at o)) x) ≡ through c (take (at + n) o)
word_more n c o at x h p q =
    let before = through c (take at o) in
    let none : before / 2 ^ (8 * n) ≡ 0
    = div-eq_of_lt (lt_of_lt_of_le (through_below c (take at o)) (pow_mono {i = 32} {j = 8 * n} (omega arith))) in
    let all = steps (8 * n) (bit_xor before x) in
    sym (through_more n c o at x p q ∙ ap (bit_xor all) none ∙ xor_zero_r all)

-- four octets at the end
pub four_left : (c : ℕ) (o : List ℕ) (at x past : ℕ) → past ≡ through c (take at o) → length o ≤ at + 4 → x < 2 ^ 32 → Low 4 o at x
    → steps 32 (bit_xor past x) ≡ through c o
four_left c o at x past e h below low =
    ap (λ (n : ℕ). steps 32 (bit_xor n x)) e
    ∙ word_more 4 c o at x (omega arith) below low
    ∙ ap (through c) (take_all (at + 4) o h)

-- the check is what the register lacks of all ones, having begun with them; in two parts, since the octets go through it so
pub in_two_parts : (o : List ℕ) (n first past : ℕ) → first ≡ through 4294967295 (take n o)
    → past ≡ through first (take (length o - n) (drop n o)) → 4294967295 - past ≡ crc o
unfolding bits_of crc remainder left through
in_two_parts o n first past p q =
    let all = ones 32 in
    let behind : past ≡ through (through 4294967295 (take n o)) (drop n o) = q ∙ ap₂ through p (to_end n o) in
    let whole : past ≡ number_of (left all (sent o))
    = behind ∙ sym (through_append 4294967295 (take n o) (drop n o)) ∙ ap (through 4294967295) (take-append-drop n o) in
    sym (number_not (left all (sent o)) ∙ rw (length_left all (sent o) refl, whole))

-- the check's bits
pub bits_crc : (o : List ℕ) → bits_of 32 (crc o) ≡ map not (remainder (sent o))
unfolding crc remainder left
bits_crc o =
    let m = left (ones 32) (sent o) in
    rw (length-map m not ∙ length_left (ones 32) (sent o) refl) at (bits_number (map not m))
