-- The kit's decimal digits are the paper's. Assumes nothing.
use Prim.Native.Nat.{ℕ, zero, suc, ◌+◌, ◌-◌, ◌*◌, ◌/◌, ◌%◌, ◌^◌, ◌≤◌, ◌<◌}
use native.Mathlib.Nat.{pow-succ', pow-zero, mod-eq_of_lt, pow-le-pow_right}
use native.Mathlib.Omega.{arith}
use mathlib.Core.Path.{◌≡◌}
use lib.Dec.{leb}
use borrow.Author.Tests.{lt-ltb, le-ltb, leb-true, leb-false}
use lib.Pow.{pow_pos}
use Rattle.octets.proofs.Bools.{by_cases}
use Rattle.io.specs.Digits.{hex_digit_ascii, last_digits, IsDigitCount}
use Rattle.lines.specs.Lines.{decimal_in}

-- a digit's octet
glyph_is : (d : ℕ) → d < 10 → hex_digit_ascii d ≡ 48 + d
glyph_is d p = rw (lt-ltb d 10 p)

pub digits_decimal : (k r n : ℕ) → r ≤ k → IsDigitCount 10 1 n r → last_digits 10 r n ≡ decimal_in k n
unfolding decimal_in
digits_decimal k zero n p f = absurd (omega (arith, f.0))
digits_decimal zero (suc r) n p f = absurd (omega arith)
digits_decimal (suc k) (suc zero) n p f =
    let small : n < 10 = omega (arith, f.1, pow-succ' 10 0, pow-zero 10) in
    rw (lt-ltb n 10 small, mod-eq_of_lt small, glyph_is n small)
digits_decimal (suc k) (suc (suc r)) n p f =
    let tens : 10 ^ suc (suc r) ≡ 10 * 10 ^ suc r = pow-succ' 10 (suc r) in
    let ten : 10 ^ suc r ≡ 10 * 10 ^ r = pow-succ' 10 r in
    let less : suc (suc r) - 1 ≡ suc r = omega arith in
    let large : 10 ^ suc r ≤ n = rw less at (f.2 (omega arith)) in
    let tenth : IsDigitCount 10 1 (n / 10) (suc r) = (omega arith, omega (arith, f.1), λ (q : 1 < suc r). rw (shift r) (omega arith)) in
    rw (le-ltb n 10 (omega (arith, pow_pos r)), glyph_is (n % 10) (omega arith), digits_decimal k (suc r) (n / 10) (omega arith) tenth)
  where
    shift : (m : ℕ) → suc m - 1 ≡ m
    shift m = omega arith

-- twenty digits are enough for 64 bits
pub twenty : (n k : ℕ) → n < 2 ^ 64 → IsDigitCount 10 1 n k → k ≤ 20
twenty n k small f =
    by_cases (leb k 20)
    (λ few. leb-true k 20 few)
    (λ many.
    let more : 20 < k = leb-false k 20 many in
    absurd (omega (arith, f.2 (omega arith), ten_up (k - 1) (omega arith))))
  where
    ten_up : (j : ℕ) → 20 ≤ j → 10 ^ 20 ≤ 10 ^ j
    ten_up j p = pow-le-pow_right (omega arith) p
