-- A number's binary digits, one by one: what adding a power, doubling and cutting off do to each; and how many of a row
-- are 1. Assumes nothing.
use mathlib.Core.Path.{◌≡◌, sym, ap, subst, ◌∙◌}
use mathlib.Core.Bool.{cond}
use Prim.Native.Nat.{ℕ, zero, suc, ◌+◌, ◌-◌, ◌*◌, ◌/◌, ◌%◌, ◌^◌, ◌≤◌, ◌<◌}
use native.Mathlib.Nat.{pow-suc, pow-succ', add-mul, one-mul, mul_assoc, mul_right_comm, mul-div_cancel, mod-lt, div-add-mod'}
use native.Mathlib.Nat.{add-zero, mul-mod_left, mul-add-mod_self_right}
use native.Mathlib.Nat.{div-one, div-div-eq-div-mul, div-eq_of_lt, div-lt_iff_lt-mul}
use native.Mathlib.Omega.{arith}
use lib.Arith.{mod-mul, digits_lt}
use lib.Pow.{pow_pos, pow-add, shr_lt, shl_exact, high, high_ones, ones_lt, ones_split, mod-mod-pow}
use lib.Bits.{bit_or, and_high, or_add_and}
use lib.Count.{ones, ones_step, ones_cat}
use borrow.Author.Tests.{ltb-true, ltb-false, ne_eqb}
use Rattle.octets.proofs.Bools.{by_cases}
use lib.Dec.{eqb, ltb, eqb-zero-suc, eqb-suc-zero, eqb-suc-suc, lit<}

-- digit k
unfoldable pub digit : ℕ → ℕ → ℕ
digit k n = n / 2 ^ k % 2

pub digit_below_2 : (k n : ℕ) → digit k n < 2
unfolding digit
digit_below_2 k n = omega arith

pub digit_zero : (n : ℕ) → digit 0 n ≡ n % 2
unfolding digit
digit_zero n = ap (λ (x : ℕ). x % 2) (div-one n)

pub digit_suc : (k n : ℕ) → digit (suc k) n ≡ digit k (n / 2)
unfolding digit
digit_suc k n = rw (pow-succ' 2 k, ← div-div-eq-div-mul n 2 (2 ^ k))

-- one digit more is twice the room
pub doubled : (h : ℕ) → 1 ≤ h → 2 ^ h ≡ 2 ^ (h - 1) * 2
doubled zero p = omega arith
doubled (suc l) p = let e : suc l - 1 ≡ l = omega arith in rw e (pow-suc 2 l)

-- all ones of a word of w, moved down until n are left
pub ones_left : (w n : ℕ) → n ≤ w → (2 ^ w - 1) / 2 ^ (w - n) ≡ 2 ^ n - 1
ones_left w n p =
    let apart : n + (w - n) ≡ w = omega arith in
    ap (λ (m : ℕ). m / 2 ^ (w - n)) (rw apart at (ones_split n (w - n))) ∙ high (2 ^ n - 1) (w - n) (ones_lt (w - n))

-- one digit in a word of w
pub one_shifted : (w k : ℕ) → k < w → 1 * 2 ^ k % 2 ^ w ≡ 2 ^ k
one_shifted w k p = shl_exact 1 k w (omega arith) (omega arith) ∙ one-mul (2 ^ k)

-- the h + 1 low digits: the lowest, and h of the rest
low_digits : (h n : ℕ) → n % 2 ^ suc h ≡ n / 2 % 2 ^ h * 2 + n % 2
low_digits h n = rw (pow-suc 2 h, mod-mul n (pow_pos h) (lit< tt))

half_low : (h n : ℕ) → n % 2 ^ suc h / 2 ≡ n / 2 % 2 ^ h
half_low h n = rw low_digits (omega arith)

-- the digits below h do not see what stands at h and above
pub digit_low : (h k n : ℕ) → k < h → digit k (n % 2 ^ h) ≡ digit k n
digit_low zero k n kh = absurd (omega arith)
digit_low (suc h) zero n kh = rw (digit_zero n, digit_zero, low_digits) (omega arith)
digit_low (suc h) (suc k) n kh = rw (digit_suc k n, digit_suc, half_low h n) (digit_low h k (n / 2) (omega arith))

half_set : (k n : ℕ) → (n + 2 ^ suc k) / 2 ≡ n / 2 + 2 ^ k
half_set k n = omega arith

-- a power added where its digit is 0: that digit is 1, and every other stays
pub digit_set : (j k n : ℕ) → digit k n ≡ 0 → digit j (n + 2 ^ k) ≡ cond (eqb j k) 1 (digit j n)
digit_set zero zero n clear = omega (arith, digit_zero (n + 1), digit_zero n)
digit_set zero (suc k) n clear = rw (eqb-zero-suc k, digit_zero (n + 2 ^ suc k), digit_zero n) (omega arith)
digit_set (suc j) zero n clear =
    rw (eqb-suc-zero j, digit_suc j (n + 1), digit_suc j n) (ap (digit j) (omega (arith, digit_zero n)))
digit_set (suc j) (suc k) n clear =
    rw (eqb-suc-suc j k, digit_suc j (n + 2 ^ suc k), digit_suc j n, half_set k n) (digit_set j k (n / 2) (rw digit_suc at clear))

-- a digit set by `or`: its power is added where it was 0, and nothing where it was 1
pub or_one : (k n : ℕ) → bit_or n (2 ^ k) + digit k n * 2 ^ k ≡ n + 2 ^ k
unfolding digit
or_one k n =
    let one : 2 ^ (1 + k) - 2 ^ k ≡ 2 ^ k = rw high_ones (one-mul (2 ^ k)) in
    ap (λ (m : ℕ). bit_or n (2 ^ k) + m) (sym (rw one at (and_high n 1 k))) ∙ or_add_and n (2 ^ k)

-- and a number of h digits stays one
pub set_below : (h k n : ℕ) → k < h → n < 2 ^ h → digit k n ≡ 0 → n + 2 ^ k < 2 ^ h
unfolding digit
set_below h k n p q e =
    let j = h - suc k in
    let hk : h ≡ suc j + k = omega arith in
    let room : 2 ^ h ≡ 2 ^ suc j * 2 ^ k = ap (λ (n : ℕ). 2 ^ n) hk ∙ pow-add 2 (suc j) k in
    let below : n / 2 ^ k < 2 ^ suc j = shr_lt (suc j) k (subst (λ (i : ℕ). n < 2 ^ i) hk q) in
    let more : n / 2 ^ k + 1 < 2 ^ suc j = omega (arith, doubled (suc j) (omega arith)) in
    let whole : n ≡ n / 2 ^ k * 2 ^ k + n % 2 ^ k = sym (div-add-mod' n (2 ^ k)) in
    let last : (n / 2 ^ k + 1) * 2 ^ k + n % 2 ^ k < 2 ^ suc j * 2 ^ k = digits_lt more (mod-lt n (pow_pos k)) in
    omega (arith, add-mul (n / 2 ^ k) 1 (2 ^ k), one-mul (2 ^ k))

-- doubled and cut off at h digits, said without the digit that leaves
doubled_cut : (h n : ℕ) → 1 ≤ h → n * 2 % 2 ^ h ≡ n % 2 ^ (h - 1) * 2
doubled_cut h n p =
    let e : n * 2 / 2 ≡ n = omega arith in
    let z : n * 2 % 2 ≡ 0 = omega arith in
    rw (doubled h p, mod-mul (n * 2) {m = 2 ^ (h - 1)} {c = 2} (pow_pos (h - 1)) (omega arith), e, z) (omega arith)

-- digit 0 is then 0, and each other is the one before it
pub digit_moved_zero : (h n : ℕ) → 1 ≤ h → digit 0 (n * 2 % 2 ^ h) ≡ 0
digit_moved_zero h n hs = rw (digit_zero, doubled_cut h n hs) (omega arith)

pub digit_moved_suc : (h k n : ℕ) → suc k < h → digit (suc k) (n * 2 % 2 ^ h) ≡ digit k n
digit_moved_suc h k n kh =
    rw (digit_suc, doubled_cut h n (omega arith), mul-div_cancel (n % 2 ^ (h - 1)) (lit< tt)) (digit_low (h - 1) k n (omega arith))

-- a number has nothing at h and above exactly if it is below the power
pub none_above : (h n : ℕ) → eqb (n / 2 ^ h) 0 ≡ ltb n (2 ^ h)
none_above h n =
    by_cases (ltb n (2 ^ h))
    (λ below. rw (below, div-eq_of_lt (ltb-true n (2 ^ h) below)))
    (λ above.
    let over : n / 2 ^ h ≡ 0 → ⊥ =
    λ e. omega (arith, ltb-false n (2 ^ h) above, (div-lt_iff_lt-mul {k = 2 ^ h} (pow_pos h)).0 (one e)) in
    ne_eqb _ _ over ∙ sym above)
  where
    one : n / 2 ^ h ≡ 0 → n / 2 ^ h < 1
    one e = omega arith

-- what is cut off before the digits move up would have been cut off afterwards
pub cut_moved : (h d n : ℕ) → n % 2 ^ h * 2 ^ d % 2 ^ h ≡ n * 2 ^ d % 2 ^ h
cut_moved h d n =
    let whole : n * 2 ^ d ≡ n / 2 ^ h * 2 ^ d * 2 ^ h + n % 2 ^ h * 2 ^ d =
    ap (λ (m : ℕ). m * 2 ^ d) (sym (div-add-mod' n (2 ^ h))) ∙ add-mul (n / 2 ^ h * 2 ^ h) (n % 2 ^ h) (2 ^ d)
    ∙ ap (λ (m : ℕ). m + n % 2 ^ h * 2 ^ d) (mul_right_comm (n / 2 ^ h) (2 ^ h) (2 ^ d)) in
    sym (ap (λ (m : ℕ). m % 2 ^ h) whole ∙ mul-add-mod_self_right (n / 2 ^ h * 2 ^ d) (2 ^ h) (n % 2 ^ h * 2 ^ d))

-- moved up by h digits or more, none is left below
pub none_below : (h d n : ℕ) → h ≤ d → n * 2 ^ d % 2 ^ h ≡ 0
none_below h d n p =
    let apart : d ≡ d - h + h = omega arith in
    rw (apart, pow-add 2 (d - h) h, ← mul_assoc n (2 ^ (d - h)) (2 ^ h)) (mul-mod_left (n * 2 ^ (d - h)) (2 ^ h))

-- cutting off at w first, where w is no shorter, changes nothing
pub cut_cut : (h w n : ℕ) → h ≤ w → n % 2 ^ w % 2 ^ h ≡ n % 2 ^ h
cut_cut h w n p = let apart : w - h + h ≡ w = omega arith in rw apart at (mod-mod-pow n (w - h) h)

-- how many digits of a row are 1: the first, and those of the rest
pub ones_row : (k h n : ℕ) → ones (n / 2 ^ k % 2 ^ suc h) ≡ digit k n + ones (n / 2 ^ suc k % 2 ^ h)
unfolding digit
ones_row k h n =
    let m = n / 2 ^ k in
    let odd : m % 2 ^ suc h % 2 ≡ m % 2 = rw low_digits (omega arith) in
    let on : m / 2 ≡ n / 2 ^ suc k = rw (pow-suc 2 k, ← div-div-eq-div-mul n (2 ^ k) 2) in
    ones_step (m % 2 ^ suc h) ∙ rw (odd, half_low h m, on)

-- moved up they are as many
pub ones_up : (k n : ℕ) → ones (n * 2 ^ k) ≡ ones n
unfolding ones
ones_up k n = rw (add-zero (n * 2 ^ k), add-zero (ones n)) at (ones_cat k n 0 (pow_pos k))
