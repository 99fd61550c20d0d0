-- Numbers taken apart into their octets again, and numbers in a part of lent octets. Assumes nothing.
use Prim.Native.Nat.{ℕ, ◌+◌, ◌/◌, ◌%◌, ◌<◌}
use native.Mathlib.Omega.{arith}
use mathlib.Core.Path.{◌≡◌, ◌∙◌}
use mathlib.Core.List.{List}
use lib.ListN.{get_or, take, drop}
use lib.Seq.{get_or-take, get_or-drop}
use Rattle.octets.specs.Number.{be16, be32, be48, be64}

-- lent octets have 256 values, and past the end 0
module _ (o : List ℕ) (octets : (k : ℕ) → get_or o k 0 < 256) (at : ℕ) where
  -- the first six of eight octets
  pub first_six : be64 o at / 65536 ≡ be48 o at
  unfolding be16 be32 be48 be64
  first_six =
      let n : at + 4 + 2 ≡ at + 6 = omega arith in
      let m : at + 2 + 2 ≡ at + 4 = omega arith in
      rw (n, m) (omega (arith, octets (at + 6), octets (at + 6 + 1)))

  -- the first
  pub first_octet : be64 o at / 72057594037927936 ≡ get_or o at 0
  unfolding be16 be32 be64
  first_octet =
      let a : at + 4 + 1 ≡ at + 5 = omega arith in
      rw a
      (omega (
        arith,
        octets (at + 1),
        octets (at + 2),
        octets (at + 2 + 1),
        octets (at + 4),
        octets (at + 5),
        octets (at + 4 + 2),
        octets (at + 4 + 2 + 1),
      ))

  -- the last
  pub last_octet : be64 o at % 256 ≡ get_or o (at + 7) 0
  unfolding be16 be32 be64
  last_octet =
      let n : at + 4 + 2 + 1 ≡ at + 7 = omega arith in
      rw n (omega (arith, octets (at + 7)))

  -- the six between them
  pub middle_six : be64 o at / 256 % 281474976710656 ≡ be48 o (at + 1)
  unfolding be16 be32 be48 be64
  middle_six =
      let a : at + 2 + 1 ≡ at + 3 = omega arith in
      let b : at + 4 + 1 ≡ at + 5 = omega arith in
      let c : at + 4 + 2 ≡ at + 6 = omega arith in
      let d : at + 6 + 1 ≡ at + 7 = omega arith in
      let e : at + 1 + 1 ≡ at + 2 = omega arith in
      let f : at + 1 + 2 ≡ at + 3 = omega arith in
      let g : at + 3 + 1 ≡ at + 4 = omega arith in
      let h : at + 3 + 2 ≡ at + 5 = omega arith in
      let i : at + 5 + 1 ≡ at + 6 = omega arith in
      rw (a, b, c, d, e, f, g, h, i)
      (omega (
        arith,
        octets (at + 1),
        octets (at + 2),
        octets (at + 3),
        octets (at + 4),
        octets (at + 5),
        octets (at + 6),
        octets (at + 7),
      ))

-- a part of so many octets from a place on
module _ (o : List ℕ) (at n : ℕ) where
  pub octet_in : (k : ℕ) → k < n → get_or (take n (drop at o)) k 0 ≡ get_or o (at + k) 0
  octet_in k l = get_or-take n (drop at o) k 0 l ∙ get_or-drop at o k 0

  pub word16_in : (k : ℕ) → k + 1 < n → be16 (take n (drop at o)) k ≡ be16 o (at + k)
  unfolding be16
  word16_in k l =
      let m : at + (k + 1) ≡ at + k + 1 = omega arith in
      rw (octet_in k (omega arith), octet_in (k + 1) l, m)

  pub word48_in : (k : ℕ) → k + 5 < n → be48 (take n (drop at o)) k ≡ be48 o (at + k)
  unfolding be32 be48
  word48_in k l =
      let a : at + (k + 2) ≡ at + k + 2 = omega arith in
      let b : at + (k + 2 + 2) ≡ at + k + 2 + 2 = omega arith in
      rw (word16_in k (omega arith), word16_in (k + 2) (omega arith), word16_in (k + 2 + 2) (omega arith), a, b)
