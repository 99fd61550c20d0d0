-- Whole numbers, products and sums of doubles keep to bounds. Assumes nothing.
use mathlib.Core.Path.{◌≡◌, refl, ap, ◌∙◌}
use mathlib.Core.Bool.{Bool, true, false, cond}
use Prim.Native.Nat.{ℕ, ◌+◌, ◌-◌, ◌*◌, ◌^◌, ◌≤◌, ◌<◌, zero-le}
use native.Mathlib.Nat.{le_trans, le_of_eq, mul-pos, mul-le-mul, mul-le-mul_right, mul-mul-mul_comm, mul_assoc, mul_comm, add-mul}
use native.Mathlib.Omega.{arith}
use lib.Dec.{ltb, lit<}
use lib.Ieee.{Float, nan, inf, fin, binary64, up, down, unlike, of_int, round, sum, mul, add}
use lib.Ieee.Fits.{down_pos}
use Rattle.volts.specs.Reading.{number}
use Rattle.volts.specs.Bounds.{Between}
use Rattle.octets.proofs.Bools.{either}
use Rattle.volts.proofs.Rounded.{round_between}

pub number_between : (n hi : ℕ) → n ≤ hi → hi ≤ 2 ^ 53 → Between 0 hi (number n)
unfolding of_int
number_between n hi h small = round_between false n 1 0 hi (lit< tt) small (omega arith)

-- a factor from 0 to 1 leaves a bound as it is
signs : (s t : Bool) (hi : ℕ) → cond s 0 hi * cond t 0 1 ≤ cond (unlike s t) 0 hi
signs false false hi = omega arith
signs false true hi = omega arith
signs true false hi = omega arith
signs true true hi = omega arith

fair : (s : Bool) (hi : ℕ) → hi ≤ 2 ^ 53 → cond s 0 hi ≤ 2 ^ 53
fair s hi h = either (λ (n : ℕ). n ≤ 2 ^ 53) s (λ _. zero-le) (λ _. h)

pub mul_between : (x g : Float) (hi : ℕ) → hi ≤ 2 ^ 53 → Between 0 hi x → Between 0 1 g → Between 0 hi (mul binary64 x g)
unfolding mul
mul_between nan g hi small p q = absurd p
mul_between (inf s) g hi small p q = absurd p
mul_between (fin s m e) nan hi small p q = absurd q
mul_between (fin s m e) (inf t) hi small p q = absurd q
mul_between (fin s m e) (fin t n d) hi small p q =
    let num = m * up e * (n * up d) in
    let den = down e * down d in
    let regroup = mul-mul-mul_comm (cond s 0 hi) (down e) (cond t 0 1) (down d) in
    round_between (unlike s t) num den 0 hi (mul-pos (down_pos e) (down_pos d)) (fair (unlike s t) hi small)
    (le_trans (mul-le-mul p q) (le_trans (le_of_eq regroup) (mul-le-mul_right den (signs s t hi))))

-- a sum of what is from 0 to a and what is from -c to c
module _ (x y den a c : ℕ) (D : 0 < den) (small : a + c ≤ 2 ^ 53) (q : y ≤ c * den) where
  large : (num : ℕ) → num ≤ a * den + c * den → Between c (a + c) (round binary64 false num den)
  large num h = round_between false num den c (a + c) D small (omega (arith, add-mul a c den))

  little : (s : Bool) (num : ℕ) → num ≤ c * den → Between c (a + c) (round binary64 s num den)
  little false num h = large num (omega arith)
  little true num h = round_between true num den c (a + c) D (omega arith) h

  sum_between : (s t : Bool) → x ≤ cond s 0 a * den → Between c (a + c) (sum binary64 s x t y den)
  unfolding sum
  sum_between false false p = large (x + y) (omega arith)
  sum_between true true p = little true (x + y) (omega arith)
  sum_between false true p =
      either (Between c (a + c)) (ltb x y) (λ _. little true (y - x) (omega arith)) (λ _. large (x - y) (omega arith))
  sum_between true false p =
      either (Between c (a + c)) (ltb x y) (λ _. little false (y - x) (omega arith)) (λ _. little (ltb y x) (x - y) (omega arith))

either_sign : (t : Bool) (c : ℕ) → cond t c c ≡ c
either_sign t c = either (λ (n : ℕ). n ≡ c) t (λ _. refl) (λ _. refl)

pub add_between : (x k : Float) (a c : ℕ) → a + c ≤ 2 ^ 53 → Between 0 a x → Between c c k → Between c (a + c) (add binary64 x k)
unfolding add
add_between nan k a c small p q = absurd p
add_between (inf s) k a c small p q = absurd p
add_between (fin s m e) nan a c small p q = absurd q
add_between (fin s m e) (inf t) a c small p q = absurd q
add_between (fin s m e) (fin t n d) a c small p q =
    let regroup = mul_assoc c (down d) (down e) ∙ ap (λ (z : ℕ). c * z) (mul_comm (down d) (down e)) in
    sum_between (m * up e * down d) (n * up d * down e) (down e * down d) a c (mul-pos (down_pos e) (down_pos d)) small
    (le_trans (mul-le-mul_right (down e) (rw (← either_sign t c) q)) (le_of_eq regroup))
    s t
    (le_trans (mul-le-mul_right (down d) p) (le_of_eq (mul_assoc (cond s 0 a) (down e) (down d))))
