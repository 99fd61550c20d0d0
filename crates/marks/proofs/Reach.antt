-- A history length that there can be is its own. Assumes nothing.
use Prim.Native.Nat.{ℕ, ◌≤◌}
use mathlib.Core.Path.{◌≡◌}
use native.Mathlib.Omega.{arith}
use Rattle.marks.specs.Window.{most, reach}

pub reach_is : (h : ℕ) → 1 ≤ h → h ≤ most → reach h ≡ h
unfolding reach
reach_is h p q = omega arith

pub reach_low : (h : ℕ) → 1 ≤ reach h
unfolding reach
reach_low h = omega arith

pub reach_high : (h : ℕ) → reach h ≤ most
unfolding reach
reach_high h = omega arith
