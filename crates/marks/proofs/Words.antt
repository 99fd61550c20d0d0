-- Words and the number that they are: what a word of it is, and that marks are their number. Each law is over a list of words of any
-- length. Assumes nothing.
use Prim.Native.Nat.{ℕ, zero, suc, ◌+◌, ◌*◌, ◌/◌, ◌%◌, ◌^◌, ◌<◌}
use native.Mathlib.Nat.{div-one, zero-div, mod-lt, mod-eq_of_lt}
use native.Mathlib.Omega.{arith}
use mathlib.Core.Path.{◌≡◌, refl, sym, ap, subst, ◌∙◌}
use mathlib.Core.Bool.{true}
use mathlib.Core.List.{List, [], ◌∷◌}
use lib.ListN.{length, get_or}
use lib.Arith.{digits_lt}
use lib.Dec.{ltb, eqb}
use lib.Pow.{pow_pos, pow-add, shr-shr, shr_lt, split, high, low}
use borrow.Author.Tests.{ltb-true, ltb-false, eqb-true, eq-eqb}
use Rattle.octets.proofs.Bools.{by_cases, both}
use Rattle.marks.proofs.Digits.{digit, digit_low}
use Rattle.marks.specs.declared.Marks.{Marks}
use Rattle.marks.specs.Window.{bits, value_of, words_of, same_words, number, word_in, marks_of, clear_from}

-- each a word
abbrev pub Fit : List ℕ → Type 0
Fit [] = Unit
Fit (w ∷ words) = (w < 2 ^ bits) × Fit words

-- and past the last there is none
pub at_fit : (i : ℕ) (words : List ℕ) → Fit words → get_or words i 0 < 2 ^ bits
at_fit i [] fit = omega arith
at_fit zero (w ∷ words) fit = fit.0
at_fit (suc i) (w ∷ words) fit = at_fit i words fit.1

-- past the first word a number is that of the others
value_rest : (i w : ℕ) (words : List ℕ) → w < 2 ^ bits → value_of (w ∷ words) / 2 ^ (bits * suc i) ≡ value_of words / 2 ^ (bits * i)
unfolding value_of
value_rest i w words fit =
    let apart : bits * suc i ≡ bits + bits * i = omega arith in
    ap (λ (n : ℕ). value_of (w ∷ words) / 2 ^ n) apart
    ∙ sym (shr-shr (value_of (w ∷ words)) bits (bits * i))
    ∙ ap (λ (n : ℕ). n / 2 ^ (bits * i)) (high (value_of words) bits fit)

-- word i of words is word i of their number
pub word_at : (i : ℕ) (words : List ℕ) → Fit words → word_in i (value_of words) ≡ get_or words i 0
unfolding value_of word_in
word_at i [] fit = ap (λ (n : ℕ). n % 2 ^ bits) (zero-div (2 ^ (bits * i)))
word_at zero (w ∷ words) fit = ap (λ (n : ℕ). n % 2 ^ bits) (div-one (value_of (w ∷ words))) ∙ low (value_of words) bits fit.0
word_at (suc i) (w ∷ words) fit =
    ap (λ (n : ℕ). n % 2 ^ bits) (value_rest i w words fit.0) ∙ word_at i words fit.1

-- and digit k stands in word k / bits
pub digit_at : (k : ℕ) (words : List ℕ) → Fit words → digit k (value_of words) ≡ digit (k % bits) (get_or words (k / bits) 0)
unfolding digit word_in
digit_at k words fit =
    let apart : k ≡ bits * (k / bits) + k % bits = omega arith in
    let n = value_of words in
    ap (λ (m : ℕ). n / 2 ^ m % 2) apart
    ∙ ap (λ (m : ℕ). m % 2) (sym (shr-shr n (bits * (k / bits)) (k % bits)))
    ∙ sym (digit_low bits (k % bits) (n / 2 ^ (bits * (k / bits))) (omega arith))
    ∙ ap (digit (k % bits)) (word_at (k / bits) words fit)

-- the words of a number from word i on, k of them and what is above in one more
unfoldable from : ℕ → ℕ → ℕ → List ℕ
from i zero n = n / 2 ^ (bits * i) ∷ []
from i (suc k) n = word_in i n ∷ from (suc i) k n

value_from : (i k n : ℕ) → value_of (from i k n) ≡ n / 2 ^ (bits * i)
unfolding value_of from word_in
value_from i zero n = omega arith
value_from i (suc k) n =
    let apart : bits * suc i ≡ bits * i + bits = omega arith in
    ap (λ (m : ℕ). m * 2 ^ bits + word_in i n)
    (value_from (suc i) k n ∙ ap (λ (m : ℕ). n / 2 ^ m) apart ∙ sym (shr-shr n (bits * i) bits))
    ∙ split (n / 2 ^ (bits * i)) bits

-- how marks are kept, for the laws: a number comes back as it was
pub number_of : (n : ℕ) → number (marks_of n) ≡ n
unfolding number marks_of from
number_of n = value_from 0 7 n ∙ div-one n

-- words are below the power of all their digits
pub value_fit : (words : List ℕ) → Fit words → value_of words < 2 ^ (bits * length words)
unfolding value_of
value_fit [] fit = omega arith
value_fit (w ∷ words) fit =
    let apart : bits * suc (length words) ≡ bits * length words + bits = omega arith in
    rw (apart, pow-add 2 (bits * length words) bits) (digits_lt (value_fit words fit.1) fit.0)

-- and marks do
pub marks_back : (marks : Marks) → Fit (words_of marks) → marks_of (number marks) ≡ marks
unfolding number marks_of word_in
marks_back marks fit = rw (at 0, at 1, at 2, at 3, at 4, at 5, at 6, last)
  where
    at : (i : ℕ) → word_in i (value_of (words_of marks)) ≡ get_or (words_of marks) i 0
    at i = word_at i (words_of marks) fit

    last : value_of (words_of marks) / 2 ^ (bits * 7) ≡ marks.w7
    last = sym (mod-eq_of_lt (shr_lt bits (bits * 7) (value_fit (words_of marks) fit))) ∙ at 7

-- eight words, one by one
pub eight : {a b c d e f g h i j k l m n o p : ℕ}
    → a ≡ i → b ≡ j → c ≡ k → d ≡ l → e ≡ m → f ≡ n → g ≡ o → h ≡ p
    → a ∷ b ∷ c ∷ d ∷ e ∷ f ∷ g ∷ h ∷ [] ≡ i ∷ j ∷ k ∷ l ∷ m ∷ n ∷ o ∷ p ∷ []
eight p q r s t u v w = rw (p, q, r, s, t, u, v, w)

-- so marks are those of a number where their words are
pub marks_by : (marks : Marks) (words : List ℕ) (n : ℕ) → words_of marks ≡ words → Fit words → value_of words ≡ n → marks ≡ marks_of n
unfolding number
marks_by marks words n are fit is =
    sym (marks_back marks (subst Fit (sym are) fit)) ∙ ap marks_of (ap value_of are ∙ is)

-- marks with the same words are one number
all_same : (a b : Marks) → same_words a b ≡ true → number a ≡ number b
unfolding number
all_same a b e =
    let h = both _ _ e in
    let g = both _ _ h.0 in
    let f = both _ _ g.0 in
    let t = both _ _ f.0 in
    let r = both _ _ t.0 in
    let q = both _ _ r.0 in
    let p = both _ _ q.0 in
    ap value_of (eight (is p.0) (is p.1) (is q.1) (is r.1) (is t.1) (is f.1) (is g.1) (is h.1))
  where
    is : {i j : ℕ} → eqb i j ≡ true → i ≡ j
    is {i} {j} = eqb-true i j

itself : (a : Marks) → same_words a a ≡ true
itself a = rw (yes a.w0, yes a.w1, yes a.w2, yes a.w3, yes a.w4, yes a.w5, yes a.w6, yes a.w7)
  where
    yes : (n : ℕ) → eqb n n ≡ true
    yes n = eq-eqb n n refl

-- marks that are the same cut off at h have none there or above
pub clear_by : (h : ℕ) (marks low : Marks) → Fit (words_of marks) → low ≡ marks_of (number marks % 2 ^ h)
    → same_words marks low ≡ clear_from h marks
unfolding clear_from
clear_by h marks low fit is =
    let n = number marks in
    by_cases (ltb n (2 ^ h))
    (λ below.
    let cut : low ≡ marks = is ∙ ap marks_of (mod-eq_of_lt (ltb-true n (2 ^ h) below)) ∙ marks_back marks fit in
    rw (below, cut) (itself marks))
    (λ above.
    by_cases (same_words marks low)
    (λ yes.
    let cut : n ≡ n % 2 ^ h = all_same marks low yes ∙ ap number is ∙ number_of (n % 2 ^ h) in
    absurd (omega (arith, cut, ltb-false n (2 ^ h) above, mod-lt n (pow_pos h))))
    (λ no. no ∙ sym above))
