-- Of each call, two answers that its promise allows are equal. Assumes nothing.
use Prim.Native.Nat.{ℕ}
use mathlib.Core.Path.{◌≡◌}
use mathlib.Core.Bool.{Bool}
use Rattle.octets.proofs.Unique.{one}
use Rattle.marks.specs.declared.Marks.{Marks}
use Rattle.rules.specs.declared.Effect.{Effect}
use Rattle.rules.specs.declared.Window.{Window}
use Rattle.rules.specs.NoNumber.{HearsNoNumber}
use Rattle.rules.specs.TakeAny.{HearsFirst}
use Rattle.rules.specs.Vector.{HearsVector}
use Rattle.rules.specs.Matching.{HearsMatch}
use Rattle.rules.specs.ByRule.{HearsNumbered}
use Rattle.rules.specs.declared.First.{First}
use Rattle.rules.specs.declared.Traced.{Traced}
use Rattle.rules.specs.FirstPlace.{TracesFirst}

module _ {a b : Effect} where
  pub hears_no_number_one : (taken newest : ℕ) (marks : Marks) → HearsNoNumber taken newest marks a
      → HearsNoNumber taken newest marks b → a ≡ b
  hears_no_number_one taken newest marks = one

  pub hears_first_one : (vector : Bool) (number : ℕ) → HearsFirst vector number a → HearsFirst vector number b → a ≡ b
  hears_first_one vector number = one

  pub hears_vector_one : (h newest : ℕ) (marks : Marks) (number : ℕ) → HearsVector h newest marks number a
      → HearsVector h newest marks number b → a ≡ b
  hears_vector_one h newest marks number = one

  pub hears_match_one : (newest : ℕ) (marks : Marks) (number : ℕ) → HearsMatch newest marks number a
      → HearsMatch newest marks number b → a ≡ b
  hears_match_one newest marks number = one

  pub hears_numbered_one : (w : Window) (number : ℕ) → HearsNumbered w number a → HearsNumbered w number b → a ≡ b
  hears_numbered_one w number = one

pub traces_first_one : (w : Window) (first : First) (now : ℕ) {a b : Traced} → TracesFirst w first now a → TracesFirst w first now b → a ≡ b
traces_first_one w first now = one
