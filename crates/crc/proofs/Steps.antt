-- Steps of a division: what they make of sums, of zeros, and of bits that they have not reached. Assumes nothing.
use Prim.Native.Nat.{ℕ, zero, suc, ◌+◌, ◌≤◌}
use native.Mathlib.Nat.{zero-add, suc-add}
use native.Mathlib.Omega.{arith}
use mathlib.Core.Path.{◌≡◌, refl, sym, ap, ap₂, ◌∙◌}
use mathlib.Core.Bool.{Bool, true, false, cond}
use mathlib.Core.List.{List, [], ◌∷◌, ◌++◌}
use lib.ListN.{length, length-append, length-replicate}
use Rattle.crc.specs.Bits.{bits_of, zeros, differ, ◌⊕◌}
use Rattle.crc.specs.Division.{generator, divide}
use Rattle.crc.proofs.Sums.{sum_comm, sum_assoc, sum_left_comm, sum_twice, sum_append, length_sum, zeros_sum}

pub length_generator : length generator ≡ 32
unfolding generator bits_of
length_generator = refl

-- what a step leaves
abbrev pub taken : Bool → List Bool → List Bool
taken b m = cond b (generator ⊕ m) m

length_taken : (b : Bool) (m : List Bool) → 32 ≤ length m → length (taken b m) ≡ length m
length_taken true m h = length_sum generator m (omega (arith, length_generator))
length_taken false m h = refl

pub length_divide : (n : ℕ) (m : List Bool) → n + 32 ≤ length m → length (divide n m) + n ≡ length m
unfolding divide
length_divide zero m h = omega arith
length_divide (suc n) [] h = absurd (omega arith)
length_divide (suc n) (b ∷ m) h =
    let e = length_taken b m (omega arith) in
    omega (arith, e, length_divide n (taken b m) (omega (arith, e)))

-- m steps, and then n
pub divide_add : (m n : ℕ) (l : List Bool) → divide (m + n) l ≡ divide n (divide m l)
unfolding divide
divide_add zero n l = rw (zero-add n)
divide_add (suc m) zero [] = rw (suc-add m 0)
divide_add (suc m) (suc n) [] = rw (suc-add m (suc n))
divide_add (suc m) n (b ∷ l) = rw (suc-add m n) (divide_add m n (taken b l))

-- zeros in front are dropped
pub divide_zeros : (n : ℕ) (l : List Bool) → divide n (zeros n ++ l) ≡ l
unfolding divide
divide_zeros zero l = refl
divide_zeros (suc n) l = divide_zeros n l

-- a step of a sum is the sum of the steps
taken_sum : (a b : Bool) (l m : List Bool) → 32 ≤ length m → taken (differ a b) (l ⊕ m) ≡ taken a l ⊕ taken b m
taken_sum true true l m h =
    sym
    (ap (λ (r : List Bool). r ⊕ (generator ⊕ m)) (sum_comm generator l) ∙ sum_assoc l generator (generator ⊕ m)
    ∙ ap (λ (r : List Bool). l ⊕ r) (sum_twice generator m (omega (arith, length_generator))))
taken_sum true false l m h = sym (sum_assoc generator l m)
taken_sum false true l m h = sum_left_comm generator l m
taken_sum false false l m h = refl

-- the division of a sum is the sum of the divisions
pub divide_sum : (n : ℕ) (l m : List Bool) → n + 32 ≤ length m → divide n (l ⊕ m) ≡ divide n l ⊕ divide n m
unfolding divide ◌⊕◌
divide_sum zero l m h = refl
divide_sum (suc n) [] m h = refl
divide_sum (suc n) (a ∷ l) [] h = absurd (omega arith)
divide_sum (suc n) (a ∷ l) (b ∷ m) h =
    ap (divide n) (taken_sum a b l m (omega arith))
    ∙ divide_sum n (taken a l) (taken b m) (omega (arith, length_taken b m (omega arith)))

-- bits behind the steps, with zeros in their place, and then added
pub divide_over : (r m n : List Bool) → 32 ≤ length n
    → divide (length m) (r ⊕ (m ++ n)) ≡ divide (length m) (r ⊕ (m ++ zeros 32)) ⊕ n
unfolding ◌⊕◌
divide_over r m n h =
    let k = length m in
    let apart : m ++ n ≡ (m ++ zeros 32) ⊕ (zeros k ++ n)
    = sym (sum_append m (zeros k) (zeros 32) n (sym (length-replicate k false))
    ∙ ap₂ (λ (x y : List Bool). x ++ y) (sum_comm m (zeros k) ∙ zeros_sum k m (omega arith)) (zeros_sum 32 n h)) in
    ap (λ (x : List Bool). divide k (r ⊕ x)) apart
    ∙ ap (divide k) (sym (sum_assoc r (m ++ zeros 32) (zeros k ++ n)))
    ∙ divide_sum k (r ⊕ (m ++ zeros 32)) (zeros k ++ n) (omega (arith, length-append (zeros k) n, length-replicate k false))
    ∙ ap (λ (x : List Bool). divide k (r ⊕ (m ++ zeros 32)) ⊕ x) (divide_zeros k n)
