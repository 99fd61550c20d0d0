-- Moved by whole words and then within them is moved by both.
use Rattle.std.proofs.Common.{ℕ, ◌≡◌, ◌+◌, ◌*◌, ◌/◌, ◌%◌, ◌^◌, min, ap, sym, ◌∙◌, arith}
use native.Mathlib.Nat.{mul_assoc}
use lib.Pow.{pow-add}
use lib.Dec.{ltb}
use borrow.Author.Tests.{ltb-true, ltb-false}
use Rattle.octets.proofs.Bools.{by_cases}
use Rattle.marks.specs.Window.{bits, most, number, marks_of}
use Rattle.marks.proofs.Digits.{cut_moved, none_below}
use Rattle.marks.proofs.Words.{number_of}
use Rattle.marks.proofs.number.moved.Goals as goal

-- a number moved twice and cut off each time
twice : (n i j : ℕ) → number (marks_of (n * 2 ^ i % 2 ^ most)) * 2 ^ j % 2 ^ most ≡ n * 2 ^ (i + j) % 2 ^ most
twice n i j =
    ap (λ (m : ℕ). m * 2 ^ j % 2 ^ most) (number_of _)
    ∙ cut_moved most j (n * 2 ^ i)
    ∙ ap (λ (m : ℕ). m % 2 ^ most) (mul_assoc n (2 ^ i) (2 ^ j) ∙ ap (λ (m : ℕ). n * m) (sym (pow-add 2 i j)))

pub returns : goal.returns
returns c =
    let a = c.args in
    let n = number a.marks in
    let q = min (a.places / bits) 8 in
    c.within.ensures
    ∙ ap marks_of
    (rw (c.whole.ensures, c.words_of.ensures) (twice n (bits * q) (a.places % bits))
    ∙ by_cases (ltb a.places most)
    (λ some.
    let all : bits * q + a.places % bits ≡ a.places = omega (arith, ltb-true a.places most some) in
    ap (λ (m : ℕ). n * 2 ^ m % 2 ^ most) all)
    (λ none.
    let past = ltb-false a.places most none in
    none_below most (bits * q + a.places % bits) n (omega (arith, past)) ∙ sym (none_below most a.places n past)))
