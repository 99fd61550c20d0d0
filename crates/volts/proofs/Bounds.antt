-- Volts are bounded (`specs/Bounds`), for every card and every calibration that is accepted. Assumes nothing.
use mathlib.Core.Path.{◌≡◌, sym}
use mathlib.Core.Bool.{true, false, ◌&&◌, true≢false}
use mathlib.Core.List.{List}
use Prim.Native.Nat.{ℕ, ◌*◌, ◌≤◌, ◌<◌}
use native.Mathlib.Nat.{mul-pos}
use native.Mathlib.Omega.{arith}
use lib.ListN.{get_or, drop}
use lib.Dec.{T, lit<, lit≤}
use lib.Ieee.{Float, nan, inf, fin, binary64, up, down, lt, le, neg, of_int, round, mul, div}
use lib.Ieee.Fits.{down_pos, and_l, and_r}
use lib.Ieee.Exact.{HasValue}
use lib.Ieee.Bits.{is_true}
use lib.Ieee.Scale.{round_same}
use lib.Ieee.Back.{round_whole}
use lib.Ieee.Order.{round_mono}
use Rattle.octets.specs.Number.{be16}
use Rattle.octets.proofs.Bools.{by_cases}
use Rattle.volts.specs.Reading.{number, accepted, volts_of_raw, volts_of_millivolts}
use Rattle.volts.specs.Bounds.{Between, Bounded, VoltsBounded, MillivoltsGrow}
use Rattle.volts.specs.declared.Calibration.{Calibration}
use Rattle.cards.proofs.Kind.{each, after16}
use Rattle.volts.proofs.Judged.{volts_next, read_accepted, read_refused}
use Rattle.volts.proofs.Rounded.{at_most, at_least, round_between}
use Rattle.volts.proofs.Between.{number_between, mul_between, add_between}

-- ---- what the calibration's comparisons say
gain_between : (g : Float) → T (lt (number 0) g) → T (le g (number 1)) → Between 0 1 g
unfolding lt le of_int
gain_between nan a b = absurd a
gain_between (inf true) a b = absurd a
gain_between (inf false) a b = absurd b
gain_between (fin true m e) a b = absurd a
gain_between (fin false m e) a b = omega (arith, at_most (m * up e * 1) (1 * down e) b)

offset_between : (k : Float) → T (le (neg (number 100)) k) → T (le k (number 100)) → Between 100 100 k
unfolding lt le of_int neg
offset_between nan a b = absurd a
offset_between (inf true) a b = absurd a
offset_between (inf false) a b = absurd b
offset_between (fin true m e) a b = omega (arith, at_least (100 * down e) (m * up e * 1) a)
offset_between (fin false m e) a b = omega (arith, at_most (m * up e * 1) (100 * down e) b)

-- ---- volts
raw_between : (n : ℕ) (c : Calibration) → n ≤ 65535 → T (accepted c) → Between 100 65635 (volts_of_raw n c)
raw_between n c h t =
    let g = c.gain in
    let k = c.offset in
    let a = lt (number 0) g in
    let b = le g (number 1) in
    let d = le (neg (number 100)) k in
    let abd : T (a && b && d) = and_l (a && b && d) (le k (number 100)) t in
    let ab : T (a && b) = and_l (a && b) d abd in
    add_between (mul binary64 (number n) g) k 65535 100 (lit≤ tt)
    (mul_between (number n) g 65535 (lit≤ tt) (number_between n 65535 h (lit≤ tt)) (gain_between g (and_l a b ab) (and_r a b ab)))
    (offset_between k (and_r (a && b) d abd) (and_r (a && b && d) (le k (number 100)) t))

quotient : (x : Float) (n : ℕ) → HasValue x false n 1 → div binary64 x (number 1000) ≡ round binary64 false n 1000
unfolding div of_int
quotient nan n p = absurd p
quotient (inf s) n p = absurd p
quotient (fin true m e) n p = absurd (true≢false p.0)
quotient (fin false m e) n p =
    round_same binary64 false (m * up e * 1) (1000 * down e) n 1000 (mul-pos (lit< tt) (down_pos e)) (lit< tt) (omega (arith, p.1))

millivolts_rounded : (n : ℕ) → n ≤ 65535 → volts_of_millivolts n ≡ round binary64 false n 1000
unfolding of_int
millivolts_rounded n h = quotient (number n) n (round_whole binary64 false n (omega arith))

millivolts_between : (n : ℕ) → n ≤ 65535 → Between 0 66 (volts_of_millivolts n)
millivolts_between n h = rw (millivolts_rounded n h) (round_between false n 1000 0 66 (lit< tt) (lit≤ tt) (omega arith))

pub millivolts_grow : MillivoltsGrow
millivolts_grow n k h l =
    rw (millivolts_rounded n (omega arith), millivolts_rounded k l)
    (is_true _ (round_mono binary64 n 1000 k 1000 (lit< tt) (lit< tt) (omega arith)))

-- ---- the answer of a reading, for any octets and any calibration
word_small : (o : List ℕ) → ((i : ℕ) → get_or o i 0 < 256) → be16 (drop 1 o) 0 ≤ 65535
unfolding be16
word_small o octets = rw (← after16 o) (omega (arith, octets 1, octets 2))

pub volts_bounded : VoltsBounded
volts_bounded o octets c r e =
    rw e
    (by_cases (accepted c)
    (λ ok.
    rw (← read_accepted o c (sym ok))
    (each (λ r. Bounded (volts_next r c)) o tt tt tt (λ k l. tt)
    (λ k l. raw_between (be16 (drop 1 o) 0) c (word_small o octets) (rw ok tt))
    (λ k l. millivolts_between (be16 (drop 1 o) 0) (word_small o octets))))
    (λ bad. rw (← read_refused o c (sym bad)) tt))
