-- Past the end every octet and every number counts as 0. Assumes nothing.
use Prim.Native.Nat.{ℕ, ◌+◌, ◌≤◌}
use native.Mathlib.Omega.{arith}
use mathlib.Core.Path.{◌≡◌, sym}
use mathlib.Core.List.{List}
use lib.ListN.{length, get_or, get_or-eq_default}
use Rattle.octets.specs.Number.{be16, be32, be48, be64}

pub octet_past : (o : List ℕ) (at : ℕ) → length o ≤ at → 0 ≡ get_or o at 0
octet_past o at past = sym (get_or-eq_default o 0 past)

pub word16_past : (o : List ℕ) (at : ℕ) → length o ≤ at → 0 ≡ be16 o at
unfolding be16
word16_past o at past = omega (arith, octet_past o at past, octet_past o (at + 1) (omega arith))

pub word32_past : (o : List ℕ) (at : ℕ) → length o ≤ at → 0 ≡ be32 o at
unfolding be32
word32_past o at past = omega (arith, word16_past o at past, word16_past o (at + 2) (omega arith))

pub word48_past : (o : List ℕ) (at : ℕ) → length o ≤ at → 0 ≡ be48 o at
unfolding be48
word48_past o at past = omega (arith, word16_past o at past, word32_past o (at + 2) (omega arith))

pub word64_past : (o : List ℕ) (at : ℕ) → length o ≤ at → 0 ≡ be64 o at
unfolding be64
word64_past o at past = omega (arith, word32_past o at past, word32_past o (at + 4) (omega arith))
