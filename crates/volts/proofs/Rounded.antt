-- A fraction within a whole number rounds to a double that is finite, has the fraction's sign and is within that number. Assumes nothing.
use mathlib.Core.Path.{◌≡◌, refl, sym, subst}
use mathlib.Core.Bool.{Bool, true, false, ◌&&◌, ◌||◌, cond, true≢false}
use Prim.Native.Nat.{ℕ, ◌*◌, ◌^◌, ◌≤◌, ◌<◌}
use native.Mathlib.Nat.{le_of_eq, le_of_lt}
use native.Mathlib.Omega.{arith}
use lib.Dec.{T, ltb, eqb, ltb→lt, eqb→eq, lit<}
use lib.Pow.{pow_pos}
use lib.IntN.{pos}
use lib.Ieee.{Float, nan, inf, fin, binary64, up, down, low, le, round}
use lib.Ieee.Fits.{down_pos, round_is}
use lib.Ieee.Exact.{HasValue, units_val}
use lib.Ieee.Back.{round_whole}
use lib.Ieee.Order.{round_mono, transfer, kept, drop}
use lib.Ieee.Scale.{finite, grid, round_under}
use Rattle.volts.specs.Bounds.{Between}

-- what lies from zero to a finite value is finite
from_zero : (x y : Float) → T (le (fin false 0 (pos 0)) x) → T (le x y) → T (finite y) → T (finite x)
unfolding le
from_zero nan y a b f = absurd a
from_zero (inf true) y a b f = absurd a
from_zero (inf false) nan a b f = absurd f
from_zero (inf false) (inf t) a b f = absurd f
from_zero (inf false) (fin t n d) a b f = absurd b
from_zero (fin s m e) y a b f = tt

value_finite : (x : Float) (s : Bool) (a c : ℕ) → HasValue x s a c → T (finite x)
value_finite nan s a c p = absurd p
value_finite (inf t) s a c p = absurd p
value_finite (fin t m e) s a c p = tt

-- what `le` computes to at two values of one sign, above zero and below it
less_or_same : (a b : ℕ) (same : Bool) → (T same → a ≡ b) → T (ltb a b || (same && true)) → a ≤ b
less_or_same a b same equal = go (ltb a b) same (ltb→lt a b) equal
  where
    go : (x y : Bool) → (T x → a < b) → (T y → a ≡ b) → T (x || (y && true)) → a ≤ b
    go true y l e t = le_of_lt (l tt)
    go false true l e t = le_of_eq (e tt)
    go false false l e t = absurd t

pub at_most : (a b : ℕ) → T (ltb a b || (eqb a b && true)) → a ≤ b
at_most a b = less_or_same a b (eqb a b) (eqb→eq a b)

pub at_least : (a b : ℕ) → T (ltb b a || (eqb a b && true)) → b ≤ a
at_least a b = less_or_same b a (eqb a b) (λ (t : T (eqb a b)). sym (eqb→eq a b t))

-- of two values that are not negative, a / c and b, the order is that of the fractions
fractions : (x y : Float) (a c b : ℕ) → HasValue x false a c → HasValue y false b 1 → T (le x y) → a * 1 ≤ b * c
unfolding le
fractions nan y a c b p q h = absurd p
fractions (inf s) y a c b p q h = absurd p
fractions (fin true m e) y a c b p q h = absurd (true≢false p.0)
fractions (fin false m e) nan a c b p q h = absurd q
fractions (fin false m e) (inf t) a c b p q h = absurd q
fractions (fin false m e) (fin true n d) a c b p q h = absurd (true≢false q.0)
fractions (fin false m e) (fin false n d) a c b p q h =
    transfer a b c 1 (m * up e) (n * up d) (down e) (down d) (down_pos e) (down_pos d) (sym p.1) (sym q.1)
    (at_most (m * up e * down d) (n * up d * down e) h)

of_fraction : (x : Float) (s : Bool) (a c lo hi : ℕ) → 0 < c → HasValue x s a c → a * 1 ≤ cond s lo hi * c → Between lo hi x
of_fraction nan s a c lo hi C p h = absurd p
of_fraction (inf t) s a c lo hi C p h = absurd p
of_fraction (fin t m e) s a c lo hi C p h =
    let b = cond s lo hi in
    let k : m * up e * 1 ≤ b * down e = transfer (m * up e) b (down e) 1 a b c 1 C (lit< tt) p.1 refl h in
    rw p.0 (omega arith)

-- the sign says which of the two numbers bounds it
pub round_between : (s : Bool) (num den lo hi : ℕ) → 0 < den → cond s lo hi ≤ 2 ^ 53 → num ≤ cond s lo hi * den
    → Between lo hi (round binary64 s num den)
unfolding round
round_between s num den lo hi D small h =
    let f = binary64 in
    let b = cond s lo hi in
    let x = round f false num den in
    let y = round f false b 1 in
    let c = 2 ^ low f in
    let top : HasValue y false b 1 = round_whole f false b small in
    let below : T (le x y) = round_mono f num den b 1 D (lit< tt) (omega arith) in
    let above : T (le (round f false 0 1) x) = round_mono f 0 1 num den (lit< tt) D (omega arith) in
    let fine : grid f num den < 2 ^ 2098 = round_under f num den (from_zero x y above below (value_finite y false b 1 top)) in
    let units = grid f num den in
    let v : (t : Bool) → HasValue (round f t num den) t units c = λ t.
    subst (λ (z : Float). HasValue z t units c) (sym (round_is f t num den))
    (units_val f t (kept 53 (num * c) den) (drop 53 (num * c) den) fine) in
    of_fraction (round f s num den) s units c lo hi (pow_pos (low f)) (v s) (fractions x y units c b (v false) top below)
