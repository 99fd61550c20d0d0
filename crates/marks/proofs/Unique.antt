-- Of each call, two answers that its promise allows are equal. Assumes nothing.
use Prim.Native.Nat.{ℕ}
use mathlib.Core.Path.{◌≡◌, ap₂}
use mathlib.Core.Bool.{Bool}
use Rattle.octets.proofs.Unique.{one}
use Rattle.marks.specs.declared.Marks.{Marks}
use Rattle.marks.specs.declared.Slid.{Slid}
use Rattle.marks.specs.Window.{StartsClear, ClearsFrom, IsSet, Sets, Slides}

pub starts_clear_one : {a b : Marks} → StartsClear a → StartsClear b → a ≡ b
starts_clear_one = one

module _ (marks : Marks) where
  pub clears_from_one : (h : ℕ) {a b : Bool} → ClearsFrom marks h a → ClearsFrom marks h b → a ≡ b
  clears_from_one h = one

  pub is_set_one : (k : ℕ) {a b : Bool} → IsSet marks k a → IsSet marks k b → a ≡ b
  is_set_one k = one

  pub sets_one : (k : ℕ) {a b : Marks} → Sets marks k a → Sets marks k b → a ≡ b
  sets_one k = one

  pub slides_one : (h d : ℕ) {a b : Slid} → Slides marks h d a → Slides marks h d b → a ≡ b
  slides_one h d p q = ap₂ (λ (m : Marks) (n : ℕ). record { marks = m; lost = n }) (one p.moves q.moves) (one p.loses q.loses)
