-- What a setup in range says: every check of the list is met, and so each value lies in its range. Assumes nothing.
use Prim.Native.Nat.{ℕ, ◌≤◌}
use Rattle.std.specs.Prelude.{is_ok, Ok}
use mathlib.Core.Path.{◌≡◌, refl}
use mathlib.Core.Bool.{true, not}
use lib.Dec.{leb}
use borrow.Author.Tests.{leb-true, not-false}
use native.Mathlib.Nat.{mul-le-mul}
use native.Mathlib.Omega.{arith}
use Rattle.octets.specs.declared.Refusal.TheVariants.{NoRule, HistoryRange, TimeoutRange, RateRange, PathsRange, TakenOrUse}
use Rattle.octets.specs.Checks.{Verdict, good, refuse, answered}
use Rattle.octets.proofs.Bools.{both}
use Rattle.octets.proofs.Order.{clear}
use Rattle.setup.specs.declared.Setup.{Setup}
use Rattle.setup.specs.Conversion.{full_ticks, ticks_of}
use Rattle.setup.specs.Range.{within, setup_checks, checked, in_range, full_of}

within_is : (lo hi n : ℕ) → within lo hi n ≡ true → (lo ≤ n) × (n ≤ hi)
within_is lo hi n e =
    let p = both (leb lo n) (leb n hi) e in
    (leb-true lo n p.0, leb-true n hi p.1)

pub record InRange (setup : Setup) : Type 0 where
  pub rule : setup.rule ≤ 1
  pub taken : setup.taken ≤ 1
  pub usage : setup.usage ≤ 1
  pub history : (2 ≤ setup.history) × (setup.history ≤ 512)
  pub timeout : (1 ≤ setup.timeout.0) × (setup.timeout.0 ≤ 3600000)
  pub rate : (1 ≤ setup.rate) × (setup.rate ≤ 10000)
  pub paths : (2 ≤ setup.paths) × (setup.paths ≤ 8)

-- an answer comes of no refusal, and is what was to be had
answered_ok : {A : Type 0} (v : Verdict) {a r : A} → answered v a ≡ Ok r → (v ≡ good) × (r ≡ a)
answered_ok good e = (refl, cc)
answered_ok (refuse n) e = cc

-- a setup in range meets every check
pub all_met : (setup : Setup) → in_range setup ≡ true → checked setup ≡ good
all_met setup e = by (checked setup) e
  where
    by : (v : Verdict) → is_ok (answered v (tt {0})) ≡ true → v ≡ good
    by good e = refl
    by (refuse n) e = cc

-- what is had only of a setup in range
pub had_in_range : {A : Type 0} (setup : Setup) {a r : A} → answered (checked setup) a ≡ Ok r → (in_range setup ≡ true) × (r ≡ a)
had_in_range setup e =
    let met = answered_ok (checked setup) e in
    (rw met.0, met.1)

pub ranges : (setup : Setup) → in_range setup ≡ true → InRange setup
unfolding checked setup_checks
ranges setup e =
    let rule = clear (not (leb setup.rule 1)) NoRule _ (all_met setup e) in
    let taken = clear (not (leb setup.taken 1)) TakenOrUse _ rule.1 in
    let usage = clear (not (leb setup.usage 1)) TakenOrUse _ taken.1 in
    let history = clear (not (within 2 512 setup.history)) HistoryRange _ usage.1 in
    let timeout = clear (not (within 1 3600000 setup.timeout.0)) TimeoutRange _ history.1 in
    let rate = clear (not (within 1 10000 setup.rate)) RateRange _ timeout.1 in
    let paths = clear (not (within 2 8 setup.paths)) PathsRange _ rate.1 in
    record {
      rule = leb-true _ _ (not-false _ rule.0);
      taken = leb-true _ _ (not-false _ taken.0);
      usage = leb-true _ _ (not-false _ usage.0);
      history = within_is _ _ _ (not-false _ history.0);
      timeout = within_is _ _ _ (not-false _ timeout.0);
      rate = within_is _ _ _ (not-false _ rate.0);
      paths = within_is _ _ _ (not-false _ paths.0);
    }

-- full ticks are 1 or more
pub full_positive : (setup : Setup) → in_range setup ≡ true → 1 ≤ (full_of setup).0
unfolding ticks_of full_ticks
full_positive setup e =
    let r = ranges setup e in
    omega (arith, mul-le-mul r.timeout.0 r.rate.0)
