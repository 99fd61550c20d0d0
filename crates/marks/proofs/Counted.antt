-- What is done to words, word by word, as done to their number: cut off, moved within words and by whole ones, counted. Assumes nothing.
use Prim.Native.Nat.{ℕ, zero, suc, ◌+◌, ◌-◌, ◌*◌, ◌/◌, ◌%◌, ◌^◌, ◌<◌, ◌≤◌, min}
use native.Mathlib.Nat.{sub-zero, add-zero, zero-div, mul_assoc, zero-mod, mod-one, mod-lt, mod-le, mod-eq_of_lt}
use native.Mathlib.Nat.{min-eq_left, min-eq_right, add-mul, mul_right_comm, mul-div_cancel, mul-mod_left, mul-div-mul_right}
use native.Mathlib.Nat.{lt_of_le_of_lt, lt_of_lt_of_le, add-mul-div_right, zero-mul}
use native.Mathlib.Omega.{arith}
use mathlib.Core.Path.{◌≡◌, refl, sym, ap, ◌∙◌}
use mathlib.Core.Bool.{true, false, cond}
use mathlib.Core.List.{List, [], ◌∷◌, ◌++◌}
use lib.Arith.{digits_lt}
use lib.Bits.{bit_and, bit_or, and_mask, and_zero_r, or_lt, or_zero_l, or_zero_r, or_shifted}
use lib.Dec.{leb, ltb, eqb}
use lib.ListN.{length, get_or}
use lib.Pow.{pow_pos, pow-add, pow_mono, shr_lt, shr-shr, split, high, low, mod-pow-add, field}
use lib.Count.{ones, ones_cat}
use borrow.Author.Tests.{ltb-true, ltb-false, leb-true, leb-false, eqb-true, eqb-false, ne_eqb}
use Rattle.octets.proofs.Bools.{by_cases, either}
use Rattle.marks.specs.declared.Marks.{Marks}
use Rattle.marks.specs.Window.{bits, value_of, words_of, number, word_in, clear_from}
use Rattle.marks.proofs.Digits.{digit, ones_left, cut_cut, cut_moved, or_one}
use Rattle.marks.proofs.Words.{Fit, at_fit, word_at}

-- from word i on, what is below `end`
unfoldable pub cut_words : ℕ → ℕ → List ℕ → List ℕ
cut_words i end [] = []
cut_words i end (w ∷ words) = w % 2 ^ min bits (end - bits * i) ∷ cut_words (suc i) end words

-- the mask that cuts word i off: as many ones as it has digits below `end`
pub mask_cut : (w i end : ℕ)
    → bit_and w (cond (ltb (bits * i) end) ((2 ^ bits - 1) / 2 ^ ((bits * i + bits - end) % bits)) 0) ≡ w % 2 ^ min bits (end - bits * i)
mask_cut w i end =
    by_cases (ltb (bits * i) end)
    (λ some.
    let n = min bits (end - bits * i) in
    let over : (bits * i + bits - end) % bits ≡ bits - n = omega (arith, ltb-true (bits * i) end some) in
    rw (some, over, ones_left bits n (omega arith)) (and_mask w n))
    (λ none.
    let empty : min bits (end - bits * i) ≡ 0 = omega (arith, ltb-false (bits * i) end none) in
    rw (none, empty, and_zero_r w) (sym (mod-one w)))

pub cut_fit : (i end : ℕ) (words : List ℕ) → Fit words → Fit (cut_words i end words)
unfolding cut_words
cut_fit i end [] fit = fit
cut_fit i end (w ∷ words) fit = (lt_of_le_of_lt (mod-le w _) fit.0, cut_fit (suc i) end words fit.1)

cut_value : (i end : ℕ) (words : List ℕ) → Fit words → value_of (cut_words i end words) ≡ value_of words % 2 ^ (end - bits * i)
unfolding cut_words value_of
cut_value i end [] fit = sym (zero-mod (2 ^ (end - bits * i)))
cut_value i end (w ∷ words) fit =
    by_cases (leb bits (end - bits * i))
    (λ past.
    let e = end - bits * suc i in
    let apart : end - bits * i ≡ e + bits = omega (arith, leb-true bits (end - bits * i) past) in
    let v = value_of words in
    rw (
      cut_value (suc i) end words fit.1,
      min-eq_left (leb-true bits (end - bits * i) past),
      mod-eq_of_lt fit.0,
      apart,
      mod-pow-add (v * 2 ^ bits + w) e bits,
      high v bits fit.0,
      low v bits fit.0,
    ))
    (λ within.
    let below : end - bits * i ≤ bits = omega (arith, leb-false bits (end - bits * i) within) in
    let none : end - bits * suc i ≡ 0 = omega (arith, below) in
    let v = value_of words in
    let word = cut_cut (end - bits * i) bits (v * 2 ^ bits + w) below in
    rw (cut_value (suc i) end words fit.1, none, mod-one v, min-eq_right below, ← word, low v bits fit.0) (omega arith))

pub cut_number : (end : ℕ) (words : List ℕ) → Fit words → value_of (cut_words 0 end words) ≡ value_of words % 2 ^ end
cut_number end words fit = cut_value 0 end words fit ∙ ap (λ (n : ℕ). value_of words % 2 ^ n) (sub-zero end)

-- words moved by b digits, with what the word below carries over
unfoldable pub carry_words : ℕ → ℕ → List ℕ → List ℕ
carry_words b under [] = []
carry_words b under (w ∷ words) = (w * 2 ^ b % 2 ^ bits + under / 2 ^ (bits - b)) ∷ carry_words b w words

-- a word moved is as many of its digits as there is room for
carry_part : (b w : ℕ) → b < bits → w * 2 ^ b % 2 ^ bits ≡ w % 2 ^ (bits - b) * 2 ^ b
carry_part b w p =
    let apart : bits - b + b ≡ bits = omega arith in
    rw apart at (mod-pow-add (w * 2 ^ b) (bits - b) b) ∙ rw (mul-div_cancel w (pow_pos b), mul-mod_left w (2 ^ b)) (omega arith)

-- what a word carries over is less than b digits have
carry_low : (b w : ℕ) → b < bits → w < 2 ^ bits → w / 2 ^ (bits - b) < 2 ^ b
carry_low b w p q =
    let apart : b + (bits - b) ≡ bits = omega arith in
    shr_lt b (bits - b) (rw apart q)

-- so both are a word
carry_word : (b under w : ℕ) → b < bits → under < 2 ^ bits → w * 2 ^ b % 2 ^ bits + under / 2 ^ (bits - b) < 2 ^ bits
carry_word b under w p q =
    let apart : bits - b + b ≡ bits = omega arith in
    let room : 2 ^ (bits - b) * 2 ^ b ≡ 2 ^ bits = rw apart at (sym (pow-add 2 (bits - b) b)) in
    rw (carry_part b w p, ← room) (digits_lt (mod-lt w (pow_pos (bits - b))) (carry_low b under p q))

-- and `or` joins them
pub carry_or : (b under w : ℕ) → b < bits → under < 2 ^ bits
    → bit_or (w * 2 ^ b % 2 ^ bits) (under / 2 / 2 ^ (bits - 1 - b)) ≡ w * 2 ^ b % 2 ^ bits + under / 2 ^ (bits - b)
carry_or b under w p q =
    let apart : 1 + (bits - 1 - b) ≡ bits - b = omega arith in
    let down : under / 2 / 2 ^ (bits - 1 - b) ≡ under / 2 ^ (bits - b) = rw apart at (shr-shr under 1 (bits - 1 - b)) in
    rw (down, carry_part b w p) (or_shifted (w % 2 ^ (bits - b)) b _ (carry_low b under p q))

pub carry_fit : (b under : ℕ) (words : List ℕ) → b < bits → under < 2 ^ bits → Fit words → Fit (carry_words b under words)
unfolding carry_words
carry_fit b under [] p q fit = fit
carry_fit b under (w ∷ words) p q fit = (carry_word b under w p q, carry_fit b w words p fit.0 fit.1)

-- the number of those is the number moved, with what came in, and cut off at its last word
carry_value : (b under : ℕ) (words : List ℕ) → b < bits → under < 2 ^ bits → Fit words
    → value_of (carry_words b under words) ≡ (value_of words * 2 ^ b + under / 2 ^ (bits - b)) % 2 ^ (bits * length words)
unfolding carry_words value_of
carry_value b under [] p q fit = sym (mod-one (0 * 2 ^ b + under / 2 ^ (bits - b)))
carry_value b under (w ∷ words) p q fit =
    let l = bits * length words in
    let v = value_of words in
    let here = w * 2 ^ b % 2 ^ bits + under / 2 ^ (bits - b) in
    let over : w * 2 ^ b / 2 ^ bits ≡ w / 2 ^ (bits - b) =
    let apart : bits ≡ bits - b + b = omega arith in
    ap (λ (n : ℕ). w * 2 ^ b / 2 ^ n) apart ∙ rw (pow-add 2 (bits - b) b, mul-div-mul_right w (2 ^ (bits - b)) (pow_pos b)) in
    let whole : (v * 2 ^ bits + w) * 2 ^ b + under / 2 ^ (bits - b) ≡ (v * 2 ^ b + w / 2 ^ (bits - b)) * 2 ^ bits + here =
    rw (add-mul (v * 2 ^ bits) w (2 ^ b), mul_right_comm v (2 ^ bits) (2 ^ b), add-mul (v * 2 ^ b) (w / 2 ^ (bits - b)) (2 ^ bits))
    (omega (arith, rw over at (split (w * 2 ^ b) bits))) in
    let apart : bits * suc (length words) ≡ l + bits = omega arith in
    rw (carry_value b w words p fit.0 fit.1, apart, mod-pow-add _ l bits, whole)
    (rw (
      high (v * 2 ^ b + w / 2 ^ (bits - b)) bits (carry_word b under w p q),
      low (v * 2 ^ b + w / 2 ^ (bits - b)) bits (carry_word b under w p q),
    ))

pub carry_number : (b : ℕ) (words : List ℕ) → b < bits → Fit words
    → value_of (carry_words b 0 words) ≡ value_of words * 2 ^ b % 2 ^ (bits * length words)
carry_number b words p fit =
    carry_value b 0 words p (pow_pos bits) fit
    ∙ ap (λ (n : ℕ). n % 2 ^ (bits * length words)) (omega (arith, zero-div (2 ^ (bits - b))))

-- n words of 0 below the others
unfoldable pub raised : ℕ → List ℕ → List ℕ
raised zero words = words
raised (suc n) words = 0 ∷ raised n words

raised_fit : (n : ℕ) (words : List ℕ) → Fit words → Fit (raised n words)
unfolding raised
raised_fit zero words fit = fit
raised_fit (suc n) words fit = (pow_pos bits, raised_fit n words fit)

raised_value : (n : ℕ) (words : List ℕ) → value_of (raised n words) ≡ value_of words * 2 ^ (bits * n)
unfolding raised value_of
raised_value zero words = omega arith
raised_value (suc n) words =
    let longer : bits * suc n ≡ bits * n + bits = omega arith in
    rw (raised_value n words, longer, pow-add 2 (bits * n) bits, mul_assoc) (omega arith)

-- words of a row, n of them from the i-th behind word k on
unfoldable pub listed : ℕ → ℕ → ℕ → List ℕ → List ℕ
listed k i zero row = []
listed k i (suc n) row = get_or row (k + i) 0 ∷ listed k (suc i) n row

listed_fit : (k i n : ℕ) (row : List ℕ) → Fit row → Fit (listed k i n row)
unfolding listed
listed_fit k i zero row fit = tt
listed_fit k i (suc n) row fit = (at_fit (k + i) row fit, listed_fit k (suc i) n row fit)

listed_value : (k i n : ℕ) (row : List ℕ) → Fit row → value_of (listed k i n row) ≡ value_of row / 2 ^ (bits * (k + i)) % 2 ^ (bits * n)
unfolding listed value_of word_in
listed_value k i zero row fit = sym (mod-one (value_of row / 2 ^ (bits * (k + i))))
listed_value k i (suc n) row fit =
    let apart : bits * (k + suc i) ≡ bits * (k + i) + bits = omega arith in
    let longer : bits * suc n ≡ bits * n + bits = omega arith in
    let v = value_of row in
    let j = bits * (k + i) in
    rw (listed_value k (suc i) n row fit, apart, longer, mod-pow-add (v / 2 ^ j) (bits * n) bits, shr-shr v j bits)
    (ap (λ (w : ℕ). v / 2 ^ (j + bits) % 2 ^ (bits * n) * 2 ^ bits + w) (sym (word_at (k + i) row fit)))

-- words of 0 above the others are nothing to their number
above_fit : (n : ℕ) (words : List ℕ) → Fit words → Fit (words ++ raised n [])
above_fit n [] fit = raised_fit n [] fit
above_fit n (w ∷ words) fit = (fit.0, above_fit n words fit.1)

above_value : (n : ℕ) (words : List ℕ) → value_of (words ++ raised n []) ≡ value_of words
unfolding value_of
above_value n [] = raised_value n [] ∙ zero-mul (2 ^ (bits * n))
above_value n (w ∷ words) = ap (λ (m : ℕ). m * 2 ^ bits + w) (above_value n words)

-- n words of a row that has n words of 0 on either side of others
abbrev pub amid : ℕ → ℕ → List ℕ → List ℕ
amid n k words = listed k 0 n (raised n (words ++ raised n []))

module _ (n k : ℕ) (words : List ℕ) (fit : Fit words) where
  row_fit : Fit (raised n (words ++ raised n []))
  row_fit = raised_fit n (words ++ raised n []) (above_fit n words fit)

  pub amid_fit : Fit (amid n k words)
  amid_fit = listed_fit k 0 n _ row_fit

  pub amid_number : value_of (amid n k words) ≡ value_of words * 2 ^ (bits * n) / 2 ^ (bits * k) % 2 ^ (bits * n)
  amid_number = listed_value k 0 n _ row_fit ∙ rw (add-zero k, raised_value n (words ++ raised n []), above_value n words)

-- lower in it, a number is moved up; higher, down
pub moved_up : (m q n : ℕ) → q ≤ m → n * 2 ^ (bits * m) / 2 ^ (bits * (m - q)) ≡ n * 2 ^ (bits * q)
moved_up m q n few =
    let all : bits * m ≡ bits * q + bits * (m - q) = omega arith in
    rw (all, pow-add 2 (bits * q) (bits * (m - q)), ← mul_assoc n (2 ^ (bits * q)) (2 ^ (bits * (m - q))))
    (mul-div_cancel (n * 2 ^ (bits * q)) (pow_pos (bits * (m - q))))

pub moved_down : (m i n : ℕ) → n * 2 ^ (bits * m) / 2 ^ (bits * (m + i)) ≡ n / 2 ^ (bits * i)
moved_down m i n =
    let all : bits * (m + i) ≡ bits * m + bits * i = omega arith in
    rw (all, ← shr-shr (n * 2 ^ (bits * m)) (bits * m) (bits * i), mul-div_cancel n (pow_pos (bits * m)))

-- the word for which a bit is meant gets it, from word j on
unfoldable pub with_bit : ℕ → ℕ → ℕ → List ℕ → List ℕ
with_bit i bit j [] = []
with_bit i bit j (w ∷ words) = bit_or w (cond (eqb i j) bit 0) ∷ with_bit i bit (suc j) words

pub bit_fit : (i bit j : ℕ) (words : List ℕ) → bit < 2 ^ bits → Fit words → Fit (with_bit i bit j words)
unfolding with_bit
bit_fit i bit j [] p fit = fit
bit_fit i bit j (w ∷ words) p fit =
    let bits_below : cond (eqb i j) bit 0 < 2 ^ bits = either (λ (n : ℕ). n < 2 ^ bits) (eqb i j) (λ _. p) (λ _. pow_pos bits) in
    (or_lt bits w _ fit.0 bits_below, bit_fit i bit (suc j) words p fit.1)

-- words before it stay
bit_past : (i bit j : ℕ) (words : List ℕ) → i < j → with_bit i bit j words ≡ words
unfolding with_bit
bit_past i bit j [] p = refl
bit_past i bit j (w ∷ words) p =
    let other : eqb i j ≡ false = ne_eqb i j (λ e. omega arith) in
    rw (other, or_zero_r w, bit_past i bit (suc j) words (omega arith))

-- the number grows by the bit where its digit was 0, and by nothing where it was 1
pub bit_value : (i b j : ℕ) (words : List ℕ) → j ≤ i → i < j + length words
    → value_of (with_bit i (2 ^ b) j words) + digit b (get_or words (i - j) 0) * 2 ^ (b + bits * (i - j))
    ≡ value_of words + 2 ^ (b + bits * (i - j))
unfolding with_bit value_of
bit_value i b j [] p q = absurd (omega arith)
bit_value i b j (w ∷ words) p q =
    by_cases (eqb i j)
    (λ here.
    let none : i - j ≡ 0 = omega (arith, eqb-true i j here) in
    rw (here, none, bit_past i (2 ^ b) (suc j) words (omega (arith, eqb-true i j here)), add-zero b) (omega (arith, or_one b w)))
    (λ other.
    let later : i - j ≡ suc (i - suc j) = omega (arith, eqb-false i j other) in
    let far : b + bits * suc (i - suc j) ≡ b + bits * (i - suc j) + bits = omega arith in
    let rest = bit_value i b (suc j) words (omega (arith, eqb-false i j other)) (omega arith) in
    let up = 2 ^ (b + bits * (i - suc j)) in
    let d = digit b (get_or words (i - suc j) 0) in
    let grown : (value_of (with_bit i (2 ^ b) (suc j) words) + d * up) * 2 ^ bits ≡ (value_of words + up) * 2 ^ bits =
    ap (λ (n : ℕ). n * 2 ^ bits) rest in
    rw (other, or_zero_r w, later, far, pow-add 2 (b + bits * (i - suc j)) bits)
    (omega (
      arith,
      grown,
      add-mul (value_of words) up (2 ^ bits),
      add-mul (value_of (with_bit i (2 ^ b) (suc j) words)) (d * up) (2 ^ bits),
      mul_assoc d up (2 ^ bits),
    )))

-- past the last word nothing is to be set
pub bit_none : (i bit j : ℕ) (words : List ℕ) → j + length words ≤ i → with_bit i bit j words ≡ words
unfolding with_bit
bit_none i bit j [] p = refl
bit_none i bit j (w ∷ words) p =
    let other : eqb i j ≡ false = ne_eqb i j (λ e. omega arith) in
    rw (other, or_zero_r w, bit_none i bit (suc j) words (omega arith))

-- the one word that is asked for, of words that are else 0, joined by `or`
unfoldable pub picked : ℕ → ℕ → ℕ → List ℕ → ℕ
picked i j sum [] = sum
picked i j sum (w ∷ words) = picked i (suc j) (bit_or sum (cond (eqb i j) w 0)) words

pick_past : (i j sum : ℕ) (words : List ℕ) → i < j → picked i j sum words ≡ sum
unfolding picked
pick_past i j sum [] p = refl
pick_past i j sum (w ∷ words) p =
    let other : eqb i j ≡ false = ne_eqb i j (λ e. omega arith) in
    rw (other, or_zero_r sum) (pick_past i (suc j) sum words (omega arith))

pick_at : (i j : ℕ) (words : List ℕ) → j ≤ i → picked i j 0 words ≡ get_or words (i - j) 0
unfolding picked
pick_at i j [] p = refl
pick_at i j (w ∷ words) p =
    by_cases (eqb i j)
    (λ here.
    let none : i - j ≡ 0 = omega (arith, eqb-true i j here) in
    rw (here, none, or_zero_l w) (pick_past i (suc j) w words (omega (arith, eqb-true i j here))))
    (λ other.
    let later : i - j ≡ suc (i - suc j) = omega (arith, eqb-false i j other) in
    rw (other, later, or_zero_l) (pick_at i (suc j) words (omega (arith, eqb-false i j other))))

-- as eight words are joined
pub pick_word : {a b c d e f g h : ℕ} (i : ℕ) (marks : Marks)
    → a ≡ cond (eqb i 0) marks.w0 0
    → b ≡ cond (eqb i 1) marks.w1 0
    → c ≡ cond (eqb i 2) marks.w2 0
    → d ≡ cond (eqb i 3) marks.w3 0
    → e ≡ cond (eqb i 4) marks.w4 0
    → f ≡ cond (eqb i 5) marks.w5 0
    → g ≡ cond (eqb i 6) marks.w6 0
    → h ≡ cond (eqb i 7) marks.w7 0
    → bit_or (bit_or (bit_or (bit_or (bit_or (bit_or (bit_or a b) c) d) e) f) g) h ≡ get_or (words_of marks) i 0
unfolding picked
pick_word i marks p q r s t u v w =
    rw (p, q, r, s, t, u, v, w)
    (rw (or_zero_l (cond (eqb i 0) marks.w0 0), sub-zero i) at (pick_at i 0 (words_of marks) (omega arith)))

-- the ones of words, counted word by word
unfoldable pub ones_of : List ℕ → ℕ
ones_of [] = 0
ones_of (w ∷ words) = ones w + ones_of words

ones_value : (words : List ℕ) → Fit words → ones (value_of words) ≡ ones_of words
unfolding ones_of value_of ones
ones_value [] fit = refl
ones_value (w ∷ words) fit = ones_cat bits (value_of words) w fit.0 ∙ omega (arith, ones_value words fit.1)

-- from digit b of the first word on: what is left of it, and the others
ones_rest : (b w : ℕ) (words : List ℕ) → b < bits → w < 2 ^ bits → Fit words
    → ones (value_of (w ∷ words) / 2 ^ b) ≡ ones (w / 2 ^ b) + ones_of words
unfolding value_of
ones_rest b w words p q fit =
    let v = value_of words in
    let apart : bits - b + b ≡ bits = omega arith in
    let room : 2 ^ (bits - b) * 2 ^ b ≡ 2 ^ bits = rw apart at (sym (pow-add 2 (bits - b) b)) in
    let whole : v * 2 ^ bits + w ≡ w + v * 2 ^ (bits - b) * 2 ^ b = rw (mul_assoc v (2 ^ (bits - b)) (2 ^ b), room) (omega arith) in
    let parts : (v * 2 ^ bits + w) / 2 ^ b ≡ v * 2 ^ (bits - b) + w / 2 ^ b =
    rw (whole, add-mul-div_right w (v * 2 ^ (bits - b)) (pow_pos b)) (omega arith) in
    let left : w / 2 ^ b < 2 ^ (bits - b) = shr_lt (bits - b) b (rw apart q) in
    rw (parts, ones_cat (bits - b) v (w / 2 ^ b) left) (omega (arith, ones_value words fit))

-- from digit k of a number on: of its words from word k / bits on, the first from its digit k % bits on and the others
pub ones-from : (k n w : ℕ) (words : List ℕ) → value_of (w ∷ words) ≡ n / 2 ^ (bits * (k / bits)) → w < 2 ^ bits → Fit words
    → ones (n / 2 ^ k) ≡ ones (w / 2 ^ (k % bits)) + ones_of words
ones-from k n w words are p fit =
    let apart : k ≡ bits * (k / bits) + k % bits = omega arith in
    ap (λ (m : ℕ). ones (n / 2 ^ m)) apart
    ∙ ap ones (sym (shr-shr n (bits * (k / bits)) (k % bits)))
    ∙ ap (λ (m : ℕ). ones (m / 2 ^ (k % bits))) (sym are)
    ∙ ones_rest (k % bits) w words (omega arith) p fit

-- words of which the number is 0 are 0
none_left : (words : List ℕ) → value_of words ≡ 0 → words ≡ raised (length words) []
unfolding value_of raised
none_left [] e = refl
none_left (w ∷ words) e =
    let first : w ≡ 0 = omega arith in
    let others : value_of words ≡ 0 = omega arith in
    rw (first, ← none_left words others)

only_first : (v w : ℕ) → v * 2 ^ bits + w < 2 ^ bits → v ≡ 0
only_first v w p = omega arith

-- and past the first they are, where all marks above a history of up to a word are clear
pub first_alone : (h : ℕ) (marks : Marks) → h ≤ bits → clear_from h marks ≡ true
    → marks.w1 ∷ marks.w2 ∷ marks.w3 ∷ marks.w4 ∷ marks.w5 ∷ marks.w6 ∷ marks.w7 ∷ [] ≡ raised 7 []
unfolding clear_from number value_of
first_alone h marks p clear =
    let below : number marks < 2 ^ bits = lt_of_lt_of_le (ltb-true (number marks) (2 ^ h) clear) (pow_mono p) in
    none_left _ (only_first _ marks.w0 below)

-- what is done within the first word does not see the others
module _ (w : ℕ) (words : List ℕ) (fit : w < 2 ^ bits) where
  first_cut : (r : ℕ) → r ≤ bits → value_of (w ∷ words) % 2 ^ r ≡ w % 2 ^ r
  unfolding value_of
  first_cut r p = sym (cut_cut r bits (value_of (w ∷ words)) p) ∙ ap (λ (m : ℕ). m % 2 ^ r) (low (value_of words) bits fit)

  pub first_row : (k n : ℕ) → k + n ≤ bits → w / 2 ^ k % 2 ^ n ≡ value_of (w ∷ words) / 2 ^ k % 2 ^ n
  first_row k n p =
      sym (field w n k) ∙ ap (λ (m : ℕ). m / 2 ^ k) (sym (first_cut (n + k) (omega arith))) ∙ field (value_of (w ∷ words)) n k

  pub first_moved : (r d : ℕ) → r ≤ bits → w * 2 ^ d % 2 ^ bits % 2 ^ r ≡ value_of (w ∷ words) * 2 ^ d % 2 ^ r
  first_moved r d p =
      cut_cut r bits (w * 2 ^ d) p
      ∙ sym (cut_moved r d w)
      ∙ ap (λ (m : ℕ). m * 2 ^ d % 2 ^ r) (sym (first_cut r p))
      ∙ cut_moved r d (value_of (w ∷ words))
