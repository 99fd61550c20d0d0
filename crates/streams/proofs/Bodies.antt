-- What the length of a body tells of its kind. Assumes nothing.
use Prim.Native.Nat.{ℕ, ◌≤◌}
use native.Mathlib.Omega.{arith}
use mathlib.Core.Path.{◌≡◌, refl, ◌∙◌}
use mathlib.Core.Bool.{false, ◌||◌}
use lib.Dec.{eqb}
use borrow.Author.Tests.{eqb-true}
use Rattle.octets.proofs.Bools.{by_cases}
use Rattle.entry.specs.Contents.{body_length}

-- a body has 11 octets, 25 or none
pub no_other : (kind : ℕ) {body : ℕ} → body ≡ body_length kind → (body ≡ 11 → ⊥) → (body ≡ 25 → ⊥) → body ≡ 0
unfolding body_length
no_other kind e p q =
    by_cases (eqb kind 1 || eqb kind 2) (λ k. absurd (p (e ∙ rw k refl)))
    (λ k. by_cases (eqb kind 4) (λ m. absurd (q (e ∙ rw (k, m) refl))) (λ m. e ∙ rw (k, m) refl))

pub least_body : (k : ℕ) → (body_length k ≡ 0 → ⊥) → 11 ≤ body_length k
unfolding body_length
least_body k n =
    by_cases (eqb k 1 || eqb k 2) (λ e. rw e (omega arith))
    (λ e. by_cases (eqb k 4) (λ f. rw (e, f) (omega arith)) (λ f. absurd (n (rw (e, f) refl))))

pub not_ip : (k : ℕ) → 11 ≡ body_length k → eqb k 4 ≡ false
unfolding body_length
not_ip k b = by_cases (eqb k 4) (λ f. absurd (omega (arith, rw (eqb-true k 4 f) at b))) (λ f. f)

pub is_ip : (k : ℕ) → 25 ≡ body_length k → k ≡ 4
unfolding body_length
is_ip k b =
    by_cases (eqb k 1 || eqb k 2) (λ e. absurd (omega (arith, rw e at b)))
    (λ e. by_cases (eqb k 4) (λ f. eqb-true _ _ f) (λ f. absurd (omega (arith, rw (e, f) at b))))
