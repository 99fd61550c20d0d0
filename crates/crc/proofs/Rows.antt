-- A table by its rule: the test over all its words, and the rule at each of its indices. Assumes nothing.
use Prim.Native.Nat.{ℕ, zero, suc, ◌+◌, ◌<◌}
use native.Mathlib.Nat.{add-zero, zero-add, add-suc, suc-add, le_of_suc-le-suc, not-suc-le-zero}
use mathlib.Core.Path.{◌≡◌, ◌∙◌, refl, sym, ap, ap₂}
use mathlib.Core.Bool.{Bool, true, ◌&&◌}
use mathlib.Core.List.{List, [], ◌∷◌}
use lib.ListN.{get_or, length}
use lib.Dec.{eqb}
use borrow.Author.Tests.{eqb-true}
use Rattle.octets.proofs.Bools.{both}
use Rattle.crc.specs.Tables.{steps, row, EightSteps}

-- the test that is computed over a table: each word is the rule's
unfoldable pub fits : (ℕ → ℕ) → ℕ → List ℕ → Bool
fits rule i [] = true
fits rule i (x ∷ l) = eqb x (rule i) && fits rule (suc i) l

pub fits_row : (rule : ℕ → ℕ) (i : ℕ) (l : List ℕ) → fits rule i l ≡ true → l ≡ row rule i (length l)
unfolding fits row
fits_row rule i [] e = refl
fits_row rule i (x ∷ l) e =
    let p = both (eqb x (rule i)) (fits rule (suc i) l) e in
    ap₂ (λ (n : ℕ) (m : List ℕ). n ∷ m) (eqb-true x (rule i) p.0) (fits_row rule (suc i) l p.1)

from : (rule : ℕ → ℕ) (i n k : ℕ) → k < n → get_or (row rule i n) k 0 ≡ rule (i + k)
unfolding row
from rule i zero k h = absurd (not-suc-le-zero h)
from rule i (suc n) zero h = ap rule (sym (add-zero i))
from rule i (suc n) (suc k) h = from rule (suc i) n k (le_of_suc-le-suc h) ∙ ap rule (suc-add i k ∙ sym (add-suc i k))

pub by-rule : (rule : ℕ → ℕ) (n k : ℕ) → k < n → get_or (row rule 0 n) k 0 ≡ rule k
by-rule rule n k h = from rule 0 n k h ∙ ap rule (zero-add k)

pub eight_steps : EightSteps
eight_steps = by-rule (steps 8) 256
