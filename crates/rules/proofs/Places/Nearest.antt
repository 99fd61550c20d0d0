-- The place nearest the newest: it alone bears the number (`NearestAlone` of `specs/Places`), and d of the vector rule leads to it. Assumes
-- nothing.
use mathlib.Core.Path.{◌≡◌, refl, sym, ap, ◌∙◌}
use mathlib.Core.Bool.{true, false}
use Prim.Native.Nat.{ℕ, ◌+◌, ◌-◌, ◌%◌, ◌≤◌, ◌<◌}
use native.Mathlib.Omega.{arith}
use mathlib.Core.Logic.{◌≢◌}
use lib.Dec.{eqb, ltb}
use borrow.Author.Tests.{eqb-true, eqb-false, ltb-true, ltb-false}
use Rattle.octets.proofs.Bools.{by_cases}
use Rattle.rules.specs.Places.{nearest, NearestAlone}
use Rattle.rules.specs.Difference.{Difference, ahead, behind, apart, difference}
use Rattle.rules.proofs.VectorLaws.{is_same, is_ahead, is_behind}

pub nearest_bears : (newest number : ℕ) → number < 65536 → nearest newest number % 65536 ≡ number
unfolding nearest
nearest_bears newest number h = omega arith

nearest_low : (newest number : ℕ) → newest ≤ nearest newest number + 32768
unfolding nearest
nearest_low newest number = omega arith

nearest_high : (newest number : ℕ) → 32768 ≤ newest → nearest newest number < newest + 32768
unfolding nearest
nearest_high newest number h = omega arith

-- of the places in one turn, no two bear one number
one_in_turn : (low a b : ℕ) → low ≤ a → a < low + 65536 → low ≤ b → b < low + 65536 → a % 65536 ≡ b % 65536 → a ≡ b
one_in_turn low a b la ha lb hb same = omega arith

pub nearest_alone : NearestAlone
nearest_alone newest number p room bits low high =
    (λ is. sym (ap (λ (q : ℕ). q % 65536) is) ∙ nearest_bears newest number bits, only)
  where
    only : p % 65536 ≡ number → nearest newest number ≡ p
    only bears =
        let above = nearest_low newest number in
        let below = nearest_high newest number room in
        let same = nearest_bears newest number bits ∙ sym bears in
        one_in_turn (newest - 32768) (nearest newest number) p (omega arith) (omega arith) (omega arith) (omega arith) same

apart_turn : (newest number : ℕ) → apart newest number < 65536
unfolding apart
apart_turn newest number = omega arith

-- the difference modulo 65,536 leads from the newest number to the packet's
apart_leads : (newest number : ℕ) → number < 65536 → (newest + apart (newest % 65536) number) % 65536 ≡ number
unfolding apart
apart_leads newest number bits = omega arith

-- d leads from the newest place to the place of the packet: ahead of it, or at it and behind
pub data Leads (newest place : ℕ) : Difference → Type 0 where
  on : (k : ℕ) → 1 ≤ k → place ≡ newest + k → Leads newest place (ahead k)
  back : (k : ℕ) → place + k ≡ newest → Leads newest place (behind k)

pub leads : (newest number : ℕ) → 65536 ≤ newest → number < 65536
    → Leads newest (nearest newest number) (difference (newest % 65536) number)
leads newest number room bits =
    by_cases (eqb far 0)
    (λ z. rw (is_same r number far refl (eqb-true far 0 z)) (back 0 (none z)))
    (λ z. by_cases (ltb far 32768)
    (λ t. rw (is_ahead r number far refl (eqb-false far 0 z) (ltb-true far 32768 t)) (ahead_by z t))
    (λ t. rw (is_behind r number far refl (ltb-false far 32768 t)) (behind_by t)))
  where
    r : ℕ
    r = newest % 65536

    far : ℕ
    far = apart r number

    turn : far < 65536
    turn = apart_turn r number

    bears : (newest + far) % 65536 ≡ number
    bears = apart_leads newest number bits

    at : (p : ℕ) → newest ≤ p + 32768 → p < newest + 32768 → p % 65536 ≡ number → nearest newest number ≡ p
    at p low high there = (nearest_alone newest number p (omega arith) bits low high).1 there

    none : eqb far 0 ≡ true → nearest newest number + 0 ≡ newest
    none z =
        let same : far ≡ 0 = eqb-true far 0 z in
        omega (arith, at newest (omega arith) (omega arith) (omega (arith, bears)))

    ahead_by : eqb far 0 ≡ false → ltb far 32768 ≡ true → Leads newest (nearest newest number) (ahead far)
    ahead_by z t =
        let off : far ≢ 0 = eqb-false far 0 z in
        let up : far < 32768 = ltb-true far 32768 t in
        on far (omega arith) (at (newest + far) (omega arith) (omega arith) bears)

    behind_by : ltb far 32768 ≡ false → Leads newest (nearest newest number) (behind (65536 - far))
    behind_by t =
        let down : 32768 ≤ far = ltb-false far 32768 t in
        let there = at (newest + far - 65536) (omega (arith, turn)) (omega (arith, turn)) (omega (arith, bears)) in
        back (65536 - far) (omega (arith, turn))
