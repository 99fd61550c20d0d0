-- An event of the tape is one at the front of what is left of it. Assumes nothing.
use Prim.Native.Nat.{ℕ, ◌+◌}
use native.Mathlib.Omega.{arith}
use mathlib.Core.Path.{◌≡◌}
use mathlib.Core.List.{List}
use lib.ListN.{get_or, drop}
use lib.Seq.{get_or-drop}
use Rattle.octets.specs.Number.{be16, be32}
use Rattle.recovery.specs.declared.State.{State}
use Rattle.turns.specs.Turn.{setup_at, call_at, runs, begins}

module _ (tape : List ℕ) (at : ℕ) where
  octet : (k : ℕ) → get_or (drop at tape) k 0 ≡ get_or tape (at + k) 0
  octet k = get_or-drop at tape k 0

  word16 : (k : ℕ) → be16 (drop at tape) k ≡ be16 tape (at + k)
  unfolding be16
  word16 k = let e : at + (k + 1) ≡ at + k + 1 = omega arith in rw (octet k, octet (k + 1), e)

  word32 : (k : ℕ) → be32 (drop at tape) k ≡ be32 tape (at + k)
  unfolding be32
  word32 k = let e : at + (k + 2) ≡ at + k + 2 = omega arith in rw (word16 k, word16 (k + 2), e)

  pub begins_rest : begins (drop at tape) 0 ≡ begins tape at
  unfolding begins setup_at
  begins_rest = rw (octet 1, octet 2, octet 3, word16 4, word32 6, word16 10, octet 12, word32 13)

  pub runs_rest : (s : State) → runs (drop at tape) 0 s ≡ runs tape at s
  unfolding runs call_at
  runs_rest s = let e : at + 0 ≡ at = omega arith in rw (octet 0, e, word16 1)
