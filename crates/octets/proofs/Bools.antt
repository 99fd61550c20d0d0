-- Tests and flags: what a test decides, tests that say the same, and choices by a flag. Every room's laws cite these. Assumes nothing.
use Prim.Native.Nat.{ℕ, ◌<◌}
use mathlib.Core.Path.{◌≡◌, refl, sym, ap, ◌∙◌}
use mathlib.Core.Bool.{Bool, true, false, not, cond, ◌&&◌, ◌||◌, or-false, false≢true}
use lib.Dec.{ltb}
use borrow.Author.Tests.{lt-ltb, ltb-true, not-true, not-false}
use mir.Val.{bool_byte}

-- to show something, show it with each of the two things that a test can say
pub by_cases : {P : Type 0} (b : Bool) → (b ≡ true → P) → (b ≡ false → P) → P
by_cases true t f = t refl
by_cases false t f = f refl

-- to show something of what a test chooses, show it of each choice, with what the test says
pub either : {A : Type 0} (P : A → Type 0) (b : Bool) {x y : A} → (b ≡ true → P x) → (b ≡ false → P y) → P (cond b x y)
either P true t f = t refl
either P false t f = f refl

-- a choice whose test is known
pub choose_first : {A : Type 0} {b : Bool} (x y : A) → b ≡ true → cond b x y ≡ x
choose_first x y e = rw e

pub choose_second : {A : Type 0} {b : Bool} (x y : A) → b ≡ false → cond b x y ≡ y
choose_second x y e = rw e

-- a choice, said without a branch
pub chosen : (b x y : Bool) → ((b && x) || (not b && y)) ≡ cond b x y
chosen true x y = or-false x
chosen false x y = refl

-- two orders that follow from each other are one test
pub ltb_same : {a b c d : ℕ} → (a < b → c < d) → (c < d → a < b) → ltb a b ≡ ltb c d
ltb_same {a} {b} {c} {d} f g =
    by_cases (ltb a b) (λ first. first ∙ sym (lt-ltb c d (f (ltb-true a b first))))
    (λ no-first. by_cases (ltb c d) (λ second. lt-ltb a b (g (ltb-true c d second)) ∙ sym second) (λ no_second. no-first ∙ sym no_second))

-- a flag cast to a number
pub one_if : (b : Bool) → bool_byte b ≡ cond b 1 0
one_if true = refl
one_if false = refl

pub one_unless : (b : Bool) → bool_byte (not b) ≡ cond b 0 1
one_unless true = refl
one_unless false = refl

-- a conjunction holds exactly if both parts do, and where a disjunction fails both do
pub both : (a b : Bool) → (a && b) ≡ true → (a ≡ true) × (b ≡ true)
both true b e = (refl, e)
both false b e = absurd (false≢true e)

pub and_true : {a b : Bool} → a ≡ true → b ≡ true → (a && b) ≡ true
and_true p q = rw (p, q)

pub and_none : (a : Bool) {b : Bool} → b ≡ false → (a && b) ≡ false
and_none true e = e
and_none false e = refl

pub neither : (a b : Bool) → (a || b) ≡ false → (a ≡ false) × (b ≡ false)
neither false b e = (refl, e)
neither true b e = (cc, cc)

-- `p && b` as the code makes it, with p in a flag: where the flag is set it becomes b, else it stays
module _ (b : Bool) {flag p later : Bool} (so_far : flag ≡ p) where
  pub and_set : flag ≡ true → later ≡ b → later ≡ p && b
  and_set t e = e ∙ ap (λ (x : Bool). x && b) (sym t ∙ so_far)

  pub and_clear : flag ≡ false → later ≡ flag → later ≡ p && b
  and_clear f e = e ∙ f ∙ ap (λ (x : Bool). x && b) (sym f ∙ so_far)

-- what a call said, by the branch that was taken on its negation
pub said_yes : {r b : Bool} → r ≡ b → not r ≡ false → b ≡ true
said_yes e p = sym e ∙ not-false _ p

pub said_no : {r b : Bool} → r ≡ b → not r ≡ true → b ≡ false
said_no e p = sym e ∙ not-true _ p
