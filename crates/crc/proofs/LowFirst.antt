-- Octets as a number, the low octet first. Assumes nothing.
use Prim.Native.Nat.{ℕ, zero, suc, ◌+◌, ◌*◌, ◌/◌, ◌%◌, ◌^◌, ◌<◌, ◌≤◌}
use native.Mathlib.Nat.{div-one, pow-suc, div-div-eq-div-mul}
use native.Mathlib.Omega.{arith}
use mathlib.Core.Path.{◌≡◌, refl, sym, ap, ap₂, ◌∙◌}
use mathlib.Core.Bool.{Bool}
use mathlib.Core.List.{List, [], ◌∷◌, ◌++◌, append-nil, append_assoc}
use lib.Dec.{ltb, lit<}
use lib.ListN.{length, get_or, take, drop, length-drop, length-take, get_or-eq_default}
use lib.Seq.{drop-cons, length-take-le}
use mir.Syntax.{w8}
use mir.Val.{Fits}
use borrow.Author.Tests.{ltb-true, ltb-false}
use Rattle.std.specs.Int.{w32, w64, byte_at, bytes_low_first, from_le_bytes}
use Rattle.std.proofs.lemmas.Nat.{le_bytes_4, le_bytes_8}
use Rattle.octets.proofs.Bools.{by_cases}
use Rattle.octets.proofs.Taken.{octet_in}
use Rattle.crc.specs.Bits.{bits_of, sent}
use Rattle.crc.specs.Tables.{Low}
use Rattle.crc.proofs.Numbers.{bits_split, bits_low}

pub sent_append : (o p : List ℕ) → sent (o ++ p) ≡ sent o ++ sent p
unfolding sent
sent_append [] p = refl
sent_append (x ∷ o) p = ap (λ (r : List Bool). bits_of 8 x ++ r) (sent_append o p) ∙ sym (append_assoc (bits_of 8 x) (sent o) (sent p))

pub low_one : (o : List ℕ) (at : ℕ) → at < length o → Low 1 o at (get_or o at 0)
unfolding sent
low_one o at h = sym (ap (λ (l : List ℕ). sent (take 1 l)) (drop-cons o at 0 h) ∙ append-nil (bits_of 8 (get_or o at 0)))

-- the octets that a number is written as, the low one first, are its bits
sent_from : (i k n : ℕ) → sent (bytes_low_first i k n) ≡ bits_of (8 * k) (n / 256 ^ i)
unfolding sent bits_of
sent_from i zero n = refl
sent_from i (suc k) n =
    let more : 8 + 8 * k ≡ 8 * suc k = omega arith in
    ap₂ (λ (l r : List Bool). l ++ r) (ap (bits_of 8) (octet_at i n) ∙ bits_low 8 (n / 256 ^ i)) (sent_from (suc i) k n ∙ ap (bits_of (8 * k)) (next_octet i n))
    ∙ sym (bits_split 8 (8 * k) (n / 256 ^ i))
    ∙ ap (λ (j : ℕ). bits_of j (n / 256 ^ i)) more
  where
    octet_at : (i n : ℕ) → byte_at i n ≡ n / 256 ^ i % 256
    octet_at zero n = rw (div-one n) refl
    octet_at (suc i) n = refl

    next_octet : (i n : ℕ) → n / 256 ^ suc i ≡ n / 256 ^ i / 256
    next_octet i n = rw (pow-suc 256 i) (sym (div-div-eq-div-mul n (256 ^ i) 256))

pub sent_octets : (k n : ℕ) → sent (bytes_low_first 0 k n) ≡ bits_of (8 * k) n
sent_octets k n = sent_from 0 k n ∙ ap (bits_of (8 * k)) (div-one n)

-- so many of lent octets, read as a number
module _ (o : List ℕ) (octets : (k : ℕ) → Fits w8 (get_or o k 0)) (at : ℕ) where
  small : (n k : ℕ) → get_or (take n (drop at o)) k 0 < 256
  small n k =
      by_cases (ltb k n) (λ l. rw (octet_in o at n k (ltb-true k n l)) (octets (at + k)).fits)
      (λ l. rw (get_or-eq_default (take n (drop at o)) 0 {n = k} (omega (arith, ltb-false k n l, length-take n (drop at o)))) (lit< tt))

  part : (n : ℕ) → at + n ≤ length o → length (take n (drop at o)) ≡ n
  part n h = length-take-le n (drop at o) (omega (arith, length-drop at o))

  pub low_four : (x : ℕ) → at + 4 ≤ length o → x ≡ from_le_bytes w32 (take 4 (drop at o)) → Low 4 o at x
  low_four x h e = sym (sent_octets 4 x) ∙ ap sent (le_bytes_4 (take 4 (drop at o)) x (part 4 h) (small 4) e)

  pub low_eight : (x : ℕ) → at + 8 ≤ length o → x ≡ from_le_bytes w64 (take 8 (drop at o)) → Low 8 o at x
  low_eight x h e = sym (sent_octets 8 x) ∙ ap sent (le_bytes_8 (take 8 (drop at o)) x (part 8 h) (small 8) e)
