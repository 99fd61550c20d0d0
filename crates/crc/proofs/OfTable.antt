-- That the slices follow from the table. Assumes nothing.
use Prim.Native.Nat.{ℕ, zero, suc, ◌+◌, ◌*◌, ◌/◌, ◌%◌, ◌<◌}
use native.Mathlib.Omega.{arith}
use mathlib.Core.Path.{◌≡◌, refl, sym, ap, ap₂, ◌∙◌}
use mathlib.Core.Bool.{Bool, false}
use mathlib.Core.List.{List, ◌++◌, append_assoc}
use lib.ListN.{get_or, length-append, replicate, length-replicate, replicate-append-replicate}
use Rattle.crc.specs.Bits.{bits_of, sent, zeros, ◌⊕◌}
use Rattle.crc.specs.Division.{divide}
use Rattle.crc.specs.Tables.{steps, table, slice, left, through, SlicesOfTable}
use Rattle.crc.proofs.Rows.{by-rule, eight_steps}
use Rattle.crc.proofs.Steps.{divide_add}
use Rattle.crc.proofs.Numbers.{bits_zero, bits_padded, same_bits}
use Rattle.crc.proofs.Sliced.{bits_steps, steps_below, steps_above}
use Rattle.crc.proofs.Register.{steps_over, bits_through, through_below}

-- octets of zeros
sent_zeros : (m : ℕ) → sent (replicate m 0) ≡ zeros (8 * m)
unfolding sent
sent_zeros zero = refl
sent_zeros (suc m) =
    let more : 8 + 8 * m ≡ 8 * suc m = omega arith in
    ap₂ (λ (l r : List Bool). l ++ r) (bits_zero 8) (sent_zeros m) ∙ replicate-append-replicate 8 (8 * m) false
    ∙ ap (λ (n : ℕ). zeros n) more

-- a word with so many of them behind it
zeros_left : (k i : ℕ) → i < 256 → bits_of 32 (steps (8 + k) i) ≡ left (bits_of 32 (get_or table i 0)) (zeros k)
unfolding left
zeros_left k i h =
    let behind = zeros k ++ zeros 32 in
    let first : divide 8 (bits_of 8 i ++ zeros 32) ≡ bits_of 32 (get_or table i 0)
    = sym (ap (bits_of 32) (eight_steps i h) ∙ bits_steps 8 i) in
    bits_steps (8 + k) i
    ∙ ap (λ (l : List Bool). divide (8 + k) (l ++ zeros 32)) (bits_padded 8 k i h)
    ∙ ap (divide (8 + k)) (append_assoc (bits_of 8 i) (zeros k) (zeros 32))
    ∙ divide_add 8 k (bits_of 8 i ++ behind)
    ∙ ap (divide k) (steps_over 8 i behind (omega (arith, length-append (zeros k) (zeros 32))))
    ∙ ap (λ (l : List Bool). divide k (l ⊕ behind)) first
    ∙ ap (λ (n : ℕ). divide n (bits_of 32 (get_or table i 0) ⊕ behind)) (sym (length-replicate k false))

zeros_through : (m i : ℕ) → i < 256 → steps (8 + 8 * m) i ≡ through (get_or table i 0) (replicate m 0)
zeros_through m i h =
    let word = get_or table i 0 in
    same_bits 32 (steps (8 + 8 * m) i) (through word (replicate m 0)) (steps_below (8 + 8 * m) i) (through_below word (replicate m 0))
    (zeros_left (8 * m) i h ∙ ap (left (bits_of 32 word)) (sym (sent_zeros m)) ∙ sym (bits_through word (replicate m 0)))

pub slices_of_table : SlicesOfTable
slices_of_table m j p q =
    let lower = 32 * m + 16 + j in
    let upper = 32 * m + j in
    let k : 4 * suc (lower / 16) ≡ 8 + 8 * m = omega arith in
    let k' : 4 + 4 * suc (upper / 16) ≡ 8 + 8 * m = omega arith in
    let i : lower % 16 ≡ j = omega arith in
    let i' : upper % 16 ≡ j = omega arith in
    let above : j * 16 ≡ 16 * j = omega arith in (
      by-rule slice 256 lower (omega arith) ∙ ap₂ steps k i ∙ zeros_through m j (omega arith),
      by-rule slice 256 upper (omega arith) ∙ sym (steps_above 4 (4 * suc (upper / 16)) (upper % 16))
          ∙ ap₂ steps k' (ap (λ (n : ℕ). n * 16) i' ∙ above) ∙ zeros_through m (16 * j) (omega arith),
    )
