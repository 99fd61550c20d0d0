-- Of each call, two answers that its promise allows are equal, and so is all that was lent to it. Assumes nothing.
use Prim.Native.Nat.{ℕ}
use mathlib.Core.Path.{◌≡◌}
use mathlib.Core.List.{List}
use Rattle.encoding.specs.declared.Encoding.{Encoding}
use Rattle.words.proofs.Unique.{writes_to_one}
use Rattle.tag_c.specs.Tags.{InsertsTo, RemovesTo}

module _ (e : Encoding) (o : List ℕ) {out : List ℕ} {before a b : ℕ} {l m : List ℕ} {i j : ℕ} where
  pub inserts_to_one : (n id : ℕ) → InsertsTo e o n id out before a l i → InsertsTo e o n id out before b m j → (a ≡ b) × (l ≡ m) × (i ≡ j)
  inserts_to_one n id = writes_to_one

  pub removes_to_one : RemovesTo e o out before a l i → RemovesTo e o out before b m j → (a ≡ b) × (l ≡ m) × (i ≡ j)
  removes_to_one = writes_to_one
