-- A register's way through octets eight at a time, and through four behind these. Assumes nothing.
use Prim.Native.Nat.{ℕ, zero, suc, ◌+◌, ◌*◌, ◌/◌, ◌%◌, ◌^◌, ◌<◌, ◌≤◌}
use native.Mathlib.Nat.{not-suc-le-zero, le_of_suc-le-suc, mul-zero, mul-suc}
use native.Mathlib.Omega.{arith}
use mathlib.Core.Path.{◌≡◌, refl, ap, ◌∙◌}
use mathlib.Core.List.{List, []}
use lib.Bits.{bit_xor}
use lib.ListN.{length, get_or, take, drop, length-drop}
use lib.Seq.{drop-drop}
use mir.Syntax.{w8}
use mir.Val.{Fits}
use Rattle.std.specs.Array.{IsFirstChunk}
use Rattle.std.specs.Int.{w32, w64, from_le_bytes}
use Rattle.std.specs.Simd.{first_chunks}
use Rattle.crc.specs.Tables.{steps, through}
use Rattle.crc.proofs.LowFirst.{low_four, low_eight}
use Rattle.crc.proofs.Register.{word_more, four_left as last_four}

-- the i-th of the parts that a list is cut into
part_at : (n k i : ℕ) (o : List ℕ) → i < k → get_or (first_chunks n k o) i [] ≡ take n (drop (n * i) o)
part_at n zero i o h = absurd (not-suc-le-zero h)
part_at n (suc k) zero o h = rw (mul-zero n) refl
part_at n (suc k) (suc i) o h =
    let at : n + n * i ≡ n * suc i = omega (arith, mul-suc n i) in
    part_at n k i (drop n o) (le_of_suc-le-suc h) ∙ ap (take n) (drop-drop (n * i) n o ∙ ap (λ (j : ℕ). drop j o) at)

module _ (o : List ℕ) (octets : (k : ℕ) → Fits w8 (get_or o k 0)) (c past : ℕ) where
  -- eight more
  pub eight_more : (eights : List (List ℕ)) (i x : ℕ) → eights ≡ first_chunks 8 (length o / 8) o → i < length o / 8
      → past ≡ through c (take (8 * i) o) → x ≡ from_le_bytes w64 (get_or eights i []) → x < 2 ^ 64
      → steps 64 (bit_xor past x) ≡ through c (take (8 * (i + 1)) o)
  eight_more eights i x e h so_far read below =
      let here = 8 * i in
      let part : get_or eights i [] ≡ take 8 (drop here o) = rw e (part_at 8 (length o / 8) i o h) in
      let value : x ≡ from_le_bytes w64 (take 8 (drop here o)) = read ∙ ap (from_le_bytes w64) part in
      let next : here + 8 ≡ 8 * (i + 1) = omega arith in
      rw (so_far, ← next) (word_more 8 c o here x (omega arith) below (low_eight o octets here x (omega arith) value))

  -- four behind the last eight
  pub four_left : (rest four : List ℕ) (i x : ℕ) → rest ≡ drop (length o / 8 * 8) o → IsFirstChunk rest four 4 → i ≡ length o / 8
      → length o % 4 ≡ 0 → past ≡ through c (take (8 * i) o) → x ≡ from_le_bytes w32 four → x < 2 ^ 32
      → steps 32 (bit_xor past x) ≡ through c o
  four_left rest four i x r first all fours so_far read below =
      let here = 8 * i in
      let behind : length o / 8 * 8 ≡ here = omega arith in
      let left : rest ≡ drop here o = r ∙ ap (λ (j : ℕ). drop j o) behind in
      let value : x ≡ from_le_bytes w32 (take 4 (drop here o))
      = read ∙ ap (from_le_bytes w32) (first.same ∙ ap (take 4) left) in
      let room : here + 4 ≤ length o = omega (arith, first.enough, ap length left, length-drop here o) in
      last_four c o here x past so_far (omega arith) below (low_four o octets here x room value)
