-- Sums of rows of bits modulo 2. Assumes nothing.
use Prim.Native.Nat.{ℕ, zero, suc, ◌+◌, ◌≤◌}
use native.Mathlib.Nat.{le_of_suc-le-suc, zero-add, suc-add}
use native.Mathlib.Omega.{arith}
use mathlib.Core.Path.{◌≡◌, refl, sym, ap, ap₂, ◌∙◌}
use mathlib.Core.Bool.{Bool, true, false}
use mathlib.Core.List.{List, [], ◌∷◌, ◌++◌}
use lib.ListN.{length}
use Rattle.crc.specs.Bits.{zeros, differ, ◌⊕◌}

differ_comm : (a b : Bool) → differ a b ≡ differ b a
differ_comm true true = refl
differ_comm true false = refl
differ_comm false true = refl
differ_comm false false = refl

differ_assoc : (a b c : Bool) → differ (differ a b) c ≡ differ a (differ b c)
differ_assoc true true true = refl
differ_assoc true true false = refl
differ_assoc true false c = refl
differ_assoc false b c = refl

sum_nil : (l : List Bool) → l ⊕ [] ≡ l
unfolding ◌⊕◌
sum_nil [] = refl
sum_nil (a ∷ l) = refl

pub sum_comm : (l m : List Bool) → l ⊕ m ≡ m ⊕ l
unfolding ◌⊕◌
sum_comm [] m = sym (sum_nil m)
sum_comm (a ∷ l) [] = refl
sum_comm (a ∷ l) (b ∷ m) = ap₂ (λ (x : Bool) (r : List Bool). x ∷ r) (differ_comm a b) (sum_comm l m)

pub sum_assoc : (l m n : List Bool) → (l ⊕ m) ⊕ n ≡ l ⊕ (m ⊕ n)
unfolding ◌⊕◌
sum_assoc [] m n = refl
sum_assoc (a ∷ l) [] n = refl
sum_assoc (a ∷ l) (b ∷ m) [] = refl
sum_assoc (a ∷ l) (b ∷ m) (c ∷ n) = ap₂ (λ (x : Bool) (r : List Bool). x ∷ r) (differ_assoc a b c) (sum_assoc l m n)

pub sum_left_comm : (l m n : List Bool) → l ⊕ (m ⊕ n) ≡ m ⊕ (l ⊕ n)
sum_left_comm l m n = sym (sum_assoc l m n) ∙ ap (λ (x : List Bool). x ⊕ n) (sum_comm l m) ∙ sum_assoc m l n

pub length_sum : (l m : List Bool) → length l ≤ length m → length (l ⊕ m) ≡ length m
unfolding ◌⊕◌
length_sum [] m h = refl
length_sum (a ∷ l) [] h = omega arith
length_sum (a ∷ l) (b ∷ m) h = ap suc (length_sum l m (le_of_suc-le-suc h))

-- zeros change nothing where they reach no further
pub zeros_sum : (k : ℕ) (m : List Bool) → k ≤ length m → zeros k ⊕ m ≡ m
unfolding ◌⊕◌
zeros_sum zero m h = refl
zeros_sum (suc k) [] h = absurd (omega arith)
zeros_sum (suc k) (b ∷ m) h = ap (λ (r : List Bool). b ∷ r) (zeros_sum k m (le_of_suc-le-suc h))

-- and lengthen a row where they reach further
pub sum_zeros : (l : List Bool) (k : ℕ) → l ⊕ zeros (length l + k) ≡ l ++ zeros k
unfolding ◌⊕◌
sum_zeros [] k = rw (zero-add k)
sum_zeros (true ∷ l) k = rw (suc-add (length l) k) (ap (λ (r : List Bool). true ∷ r) (sum_zeros l k))
sum_zeros (false ∷ l) k = rw (suc-add (length l) k) (ap (λ (r : List Bool). false ∷ r) (sum_zeros l k))

-- so zeros behind a row do not matter to its sum with a longer one
pub sum_padded : (l m : List Bool) (k : ℕ) → length l + k ≤ length m → (l ++ zeros k) ⊕ m ≡ l ⊕ m
sum_padded l m k h =
    ap (λ (r : List Bool). r ⊕ m) (sym (sum_zeros l k)) ∙ sum_assoc l (zeros (length l + k)) m
    ∙ ap (λ (r : List Bool). l ⊕ r) (zeros_sum (length l + k) m h)

pub sum_self : (l : List Bool) → l ⊕ l ≡ zeros (length l)
unfolding ◌⊕◌
sum_self [] = refl
sum_self (true ∷ l) = ap (λ (r : List Bool). false ∷ r) (sum_self l)
sum_self (false ∷ l) = ap (λ (r : List Bool). false ∷ r) (sum_self l)

-- added twice is not added
pub sum_twice : (l m : List Bool) → length l ≤ length m → l ⊕ (l ⊕ m) ≡ m
sum_twice l m h = sym (sum_assoc l l m) ∙ ap (λ (r : List Bool). r ⊕ m) (sum_self l) ∙ zeros_sum (length l) m h

-- rows behind rows of one length
pub sum_append : (l l' m m' : List Bool) → length l ≡ length l' → (l ++ m) ⊕ (l' ++ m') ≡ (l ⊕ l') ++ (m ⊕ m')
unfolding ◌⊕◌
sum_append [] [] m m' e = refl
sum_append [] (b ∷ l') m m' e = absurd (omega arith)
sum_append (a ∷ l) [] m m' e = absurd (omega arith)
sum_append (a ∷ l) (b ∷ l') m m' e = ap (λ (r : List Bool). differ a b ∷ r) (sum_append l l' m m' (omega arith))
