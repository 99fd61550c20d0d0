-- The places lost are those below the first packet's and those above it (`LostParted` of `specs/Places`). Assumes nothing.
use mathlib.Core.Path.{◌≡◌, ap, ◌∙◌}
use mathlib.Core.Bool.{true, or-true}
use mathlib.Core.List.{List, [], ◌∷◌}
use Prim.Native.Nat.{ℕ, suc, ◌+◌, ◌-◌, ◌≤◌, min}
use native.Mathlib.Nat.{add-zero}
use native.Mathlib.Omega.{arith}
use lib.Dec.{eqb, ltb}
use borrow.Author.Tests.{ltb-true, ltb-false}
use Rattle.octets.proofs.Bools.{by_cases}
use Rattle.rules.specs.Places.{newest_place, first_place, among, passed, unpassed}
use Rattle.rules.specs.Places.{moved_on, lost, before_first, lost_above, Parted, LostParted}
use Rattle.rules.proofs.Places.Among.{among_itself}
use Rattle.rules.proofs.Places.Counting.{unpassed_zero, unpassed_split, unpassed_last}
use Rattle.rules.proofs.Places.Sum.{Kept, Kept_or_none, all_kept}

-- the first place has passed
first_among : (p : ℕ) (ps : List ℕ) → among (first_place (p ∷ ps)) (p ∷ ps) ≡ true
unfolding first_place among
first_among p [] = among_itself p []
first_among p (q ∷ ps) = rw (first_among q ps) (or-true (eqb (first_place (q ∷ ps)) p))

-- while the window has not left it all that are lost lie below it; then it stands between the two parts and is in neither
kept_parted : (h p : ℕ) (ps : List ℕ) → 1 ≤ h → h ≤ 65536 → Kept h (p ∷ ps) → Parted h (p ∷ ps)
unfolding lost before_first lost_above
kept_parted h p ps hs room kept =
    by_cases (ltb moved h)
    (λ t.
    let here = ltb-true moved h t in
    let all : min moved (h - 1) ≡ moved = omega arith in
    let none : moved - h ≡ 0 = omega arith in
    rw (all, none, unpassed_zero, add-zero))
    (λ t.
    let gone = ltb-false moved h t in
    let low : min moved (h - 1) ≡ h - 1 = omega arith in
    let all : moved ≡ suc (h - 1) + (moved - h) = omega arith in
    let first : F + 1 - h + (h - 1) ≡ F = omega (arith, kept.turn) in
    let next : F + 1 - h + suc (h - 1) ≡ F + 1 = omega (arith, kept.turn) in
    ap (unpassed qs (F + 1 - h)) all ∙ unpassed_split qs (F + 1 - h) (suc (h - 1)) (moved - h)
    ∙ rw (low, next, unpassed_last, first, first_among p ps, add-zero))
  where
    qs : List ℕ
    qs = p ∷ ps

    F : ℕ
    F = first_place qs

    moved : ℕ
    moved = moved_on qs

none_parted : (h : ℕ) → Parted h []
unfolding lost before_first lost_above moved_on newest_place first_place
none_parted h =
    let none : min 0 (h - 1) ≡ 0 = omega arith in
    let gone : 0 - h ≡ 0 = omega arith in
    rw (none, gone, unpassed_zero [] 1, unpassed_zero)

pub lost_parted : LostParted
lost_parted h numbers hs room = by (passed h numbers) (all_kept h numbers hs room)
  where
    by : (ps : List ℕ) → Kept_or_none h ps → Parted h ps
    by [] kept = none_parted h
    by (p ∷ ps) kept = kept_parted h p ps hs room kept
