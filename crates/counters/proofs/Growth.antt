-- The counters grow as the third demand says (`specs/Growth.antt`), and growing adds up. Assumes nothing.
use Rattle.std.proofs.Common.{◌≡◌, ℕ, ◌+◌, ◌%◌, ◌^◌, sym, refl, ap, ◌∙◌, add_assoc, arith}
use native.Mathlib.Nat.{mod-add-mod, mod-mod}
use Rattle.counters.specs.Counting.{plus, counted, reset_counted}
use Rattle.counters.specs.LatentErrors.{latent_counted}
use Rattle.counters.specs.Growth.{Grown, PacketsGrow, ResetsStay, LatentResetsStay}

pub packets_grow : PacketsGrow
unfolding plus counted
packets_grow k tagless holes effect = record { passed_grown = mod-mod _ _; lost_grown = mod-mod _ _; before_grown = mod-mod _ _ }

pub resets_stay : ResetsStay
unfolding reset_counted
resets_stay k = record { same_passed = refl; same_lost = refl; same_before = refl }

pub latent_resets_stay : LatentResetsStay
unfolding latent_counted
latent_resets_stay k = record { same_passed = refl; same_lost = refl; same_before = refl }

-- what is equal modulo 2^64 is so with the same added
with_more : (a b n : ℕ) → a % 2 ^ 64 ≡ b % 2 ^ 64 → (a + n) % 2 ^ 64 ≡ (b + n) % 2 ^ 64
with_more a b n e =
    sym (mod-add-mod a (2 ^ 64) n) ∙ ap (λ (x : ℕ). (x + n) % 2 ^ 64) e ∙ mod-add-mod b (2 ^ 64) n

-- a counter that has grown, and grows once more
pub grown_more : (a n b m c : ℕ) → Grown a n b → Grown b m c → Grown a (n + m) c
grown_more a n b m c first then = then ∙ with_more b (a + n) m first ∙ ap (λ (x : ℕ). x % 2 ^ 64) (add_assoc a n m)

-- where one counter has grown by m more than another, so has their difference, which is said by sums
pub grown_apart : (a n m b c d : ℕ) → Grown a (n + m) b → Grown c n d → Grown (a + d) m (b + c)
grown_apart a n m b c d first second =
    let together : a + (n + m) + c ≡ c + n + (a + m) = omega arith in
    let order : d + (a + m) ≡ a + d + m = omega arith in
    with_more b (a + (n + m)) c first
    ∙ ap (λ (x : ℕ). x % 2 ^ 64) together
    ∙ sym (with_more d (c + n) (a + m) second)
    ∙ ap (λ (x : ℕ). x % 2 ^ 64) order
