-- Which rule a packet with a number falls under, and what becomes of the first place with it. Assumes nothing.
use Prim.Native.Nat.{ℕ}
use mathlib.Core.Path.{◌≡◌, ◌∙◌}
use mathlib.Core.Bool.{true, false}
use Rattle.recovery.specs.declared.State.{State}
use Rattle.setup.specs.Range.{is_vector}
use Rattle.rules.specs.Vector.{vector}
use Rattle.rules.specs.TakeAny.{first}
use Rattle.rules.specs.Difference.{apart}
use Rattle.rules.specs.Matching.{match}
use Rattle.rules.specs.ByRule.{by_rule}
use Rattle.rules.specs.FirstPlace.{opened, carried, traced}
use Rattle.recovery.specs.Packets.{numbered, tracing}
use Rattle.octets.proofs.Bools.{choose_first, choose_second}

module _ (s : State) (number : ℕ) where
  pub by_take_any : s.take_any ≡ true → numbered s number ≡ first (is_vector s.setup) number
  unfolding numbered by_rule
  by_take_any e = choose_first _ _ e

  pub by_vector : s.take_any ≡ false → is_vector s.setup ≡ true
      → numbered s number ≡ vector s.setup.history s.newest s.marks number
  unfolding numbered by_rule
  by_vector e v = choose_second _ _ e ∙ choose_first _ _ v

  pub by_match : s.take_any ≡ false → is_vector s.setup ≡ false → numbered s number ≡ match s.newest s.marks number
  unfolding numbered by_rule
  by_match e v = choose_second _ _ e ∙ choose_second _ _ v

  pub opens : s.take_any ≡ true → (tracing s number).first ≡ opened (is_vector s.setup)
  unfolding tracing traced
  opens e = rw e

  pub carries : s.take_any ≡ false
      → (tracing s number).first ≡ carried s.setup.history (apart s.newest (numbered s number).newest) s.first
  unfolding tracing traced
  carries e = rw e
