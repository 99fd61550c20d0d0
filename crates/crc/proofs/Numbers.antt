-- Numbers and their bits in a row, the lowest first. Assumes nothing.
use Prim.Native.Nat.{ℕ, zero, suc, ◌+◌, ◌-◌, ◌*◌, ◌/◌, ◌%◌, ◌^◌, ◌<◌}
use native.Mathlib.Nat.{pow-suc, zero-add, suc-add, div-one, div-div-eq-div-mul, pow-succ', mod-one, div-eq_of_lt, mod-eq_of_lt, add_comm}
use native.Mathlib.Omega.{arith}
use mathlib.Core.Path.{◌≡◌, refl, sym, ap, ap₂, ◌∙◌}
use mathlib.Core.Bool.{Bool, true, false, not, cond}
use mathlib.Core.List.{List, [], ◌∷◌, ◌++◌, map}
use lib.ListN.{length}
use lib.Dec.{eqb}
use lib.Arith.{mod-mul}
use lib.Pow.{pow_pos, high, low}
use lib.Bits.{bit_xor, xor_shr, xor_mod}
use borrow.Author.Tests.{eqb-true, eqb-false}
use Rattle.octets.proofs.Bools.{by_cases}
use Rattle.crc.specs.Bits.{bits_of, number_of, zeros, differ, ◌⊕◌}

pub length_bits : (k n : ℕ) → length (bits_of k n) ≡ k
unfolding bits_of
length_bits zero n = refl
length_bits (suc k) n = ap suc (length_bits k (n / 2))

-- j bits, and then k of the number without them
pub bits_split : (j k n : ℕ) → bits_of (j + k) n ≡ bits_of j n ++ bits_of k (n / 2 ^ j)
unfolding bits_of
bits_split zero k n = rw (zero-add k, div-one n)
bits_split (suc j) k n =
    rw (suc-add j k, pow-succ' 2 j, ← div-div-eq-div-mul n 2 (2 ^ j)) (ap (λ (r : List Bool). eqb (n % 2) 1 ∷ r) (bits_split j k (n / 2)))

pub bits_zero : (k : ℕ) → bits_of k 0 ≡ zeros k
unfolding bits_of
bits_zero zero = refl
bits_zero (suc k) = ap (λ (r : List Bool). false ∷ r) (bits_zero k)

-- bits that see no others
one_or_none : (n : ℕ) → cond (eqb (n % 2) 1) 1 0 ≡ n % 2
one_or_none n =
    by_cases (eqb (n % 2) 1) (λ e. rw e (sym (eqb-true (n % 2) 1 e)))
    (λ e. rw e (omega (arith, eqb-false (n % 2) 1 e)))

pub number_bits : (k n : ℕ) → number_of (bits_of k n) ≡ n % 2 ^ k
unfolding bits_of number_of
number_bits zero n = sym (mod-one n)
number_bits (suc k) n =
    rw (number_bits k (n / 2), one_or_none n) (sym (ap (λ (m : ℕ). n % m) (pow-suc 2 k) ∙ mod-mul n (pow_pos k) (omega arith)))

pub bits_number : (m : List Bool) → bits_of (length m) (number_of m) ≡ m
unfolding bits_of number_of
bits_number [] = refl
bits_number (true ∷ m) =
    let q : (number_of m * 2 + 1) / 2 ≡ number_of m = omega arith in
    let r : (number_of m * 2 + 1) % 2 ≡ 1 = omega arith in
    rw (q, r) (ap (λ (l : List Bool). true ∷ l) (bits_number m))
bits_number (false ∷ m) =
    let q : (number_of m * 2 + 0) / 2 ≡ number_of m = omega arith in
    let r : (number_of m * 2 + 0) % 2 ≡ 0 = omega arith in
    rw (q, r) (ap (λ (l : List Bool). false ∷ l) (bits_number m))

pub number_below : (m : List Bool) → number_of m < 2 ^ length m
unfolding number_of
number_below [] = omega arith
number_below (true ∷ m) = omega (arith, number_below m, pow-suc 2 (length m))
number_below (false ∷ m) = omega (arith, number_below m, pow-suc 2 (length m))

-- the complement of a row is what its number lacks of all ones
pub number_not : (m : List Bool) → number_of (map not m) ≡ (2 ^ length m - 1) - number_of m
unfolding number_of
number_not [] = refl
number_not (true ∷ m) = omega (arith, number_below m, number_not m, pow-suc 2 (length m))
number_not (false ∷ m) = omega (arith, number_below m, number_not m, pow-suc 2 (length m))

-- bits above those that are taken do not matter
pub bits_low : (k n : ℕ) → bits_of k (n % 2 ^ k) ≡ bits_of k n
bits_low k n =
    rw (← number_bits k n) (rw (length_bits k n) at (bits_number (bits_of k n)))

-- and there are none above the number's own
pub bits_padded : (j k n : ℕ) → n < 2 ^ j → bits_of (j + k) n ≡ bits_of j n ++ zeros k
bits_padded j k n h = bits_split j k n ∙ rw (div-eq_of_lt h, bits_zero k)

-- a number that is put above another's bits
pub bits_join : (j k a b : ℕ) → a < 2 ^ j → bits_of (j + k) (a + b * 2 ^ j) ≡ bits_of j a ++ bits_of k b
bits_join j k a b h =
    ap (bits_of (j + k)) (add_comm a (b * 2 ^ j)) ∙ bits_split j k (b * 2 ^ j + a)
    ∙ ap₂ (λ (l m : List Bool). l ++ m) (sym (bits_low j (b * 2 ^ j + a)) ∙ ap (bits_of j) (low b j h)) (ap (bits_of k) (high b j h))

-- `^` is the sum
digit_xor : (a b : Bool) → eqb (bit_xor (cond a 1 0) (cond b 1 0)) 1 ≡ differ a b
digit_xor true true = refl
digit_xor true false = refl
digit_xor false true = refl
digit_xor false false = refl

pub bits_xor : (k a b : ℕ) → bits_of k (bit_xor a b) ≡ bits_of k a ⊕ bits_of k b
unfolding bits_of ◌⊕◌
bits_xor zero a b = refl
bits_xor (suc k) a b =
    ap₂ (λ (x : Bool) (r : List Bool). x ∷ r)
    (ap (λ (n : ℕ). eqb n 1) (xor_mod a b 1 ∙ sym (ap₂ bit_xor (one_or_none a) (one_or_none b)))
    ∙ digit_xor (eqb (a % 2) 1) (eqb (b % 2) 1))
    (ap (bits_of k) (xor_shr a b 1) ∙ bits_xor k (a / 2) (b / 2))

-- a number is known by its bits
pub same_bits : (k a b : ℕ) → a < 2 ^ k → b < 2 ^ k → bits_of k a ≡ bits_of k b → a ≡ b
same_bits k a b p q e = sym (number_bits k a ∙ mod-eq_of_lt p) ∙ ap number_of e ∙ number_bits k b ∙ mod-eq_of_lt q
