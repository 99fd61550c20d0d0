-- A step of the division can be undone, since the last bit of G(x) is 1: so what has made a difference goes on to make one. Assumes
-- nothing.
use Prim.Native.Nat.{ℕ, zero, suc, ◌+◌, ◌-◌, ◌≤◌}
use native.Mathlib.Omega.{arith}
use mathlib.Core.Path.{◌≡◌, refl, sym, ap, ap₂, ◌∙◌}
use mathlib.Core.Bool.{Bool, true, false, not}
use mathlib.Core.List.{List, [], ◌∷◌, ◌++◌, map, append-nil, append_cancel_right}
use lib.ListN.{length, get_or, length-map, length-replicate, replicate-append-replicate, get_or-eq_default}
use Rattle.crc.specs.Bits.{bits_of, zeros, ones, differ, ◌⊕◌}
use Rattle.crc.specs.Division.{generator, divide, remainder}
use Rattle.crc.specs.Tables.{left}
use Rattle.crc.specs.Damage.{residue, ResidueLeft, BurstsSeen}
use Rattle.crc.proofs.Sums.{sum_comm, sum_assoc, sum_twice, sum_zeros, sum_self, zeros_sum, length_sum}
use Rattle.crc.proofs.Steps.{taken, length_generator}
use Rattle.crc.proofs.Register.{left_append, length_left}

differ_none : (a : Bool) → differ a false ≡ a
differ_none true = refl
differ_none false = refl

differ_twice : (a b : Bool) → differ (differ a b) b ≡ a
differ_twice true true = refl
differ_twice true false = refl
differ_twice false true = refl
differ_twice false false = refl

left_nothing : (r : List Bool) → length r ≡ 32 → left r [] ≡ r
unfolding left divide
left_nothing r p = sum_comm r (zeros 32) ∙ zeros_sum 32 r (omega (arith, p))

-- a bit of a sum
bit_sum : (l m : List Bool) (i : ℕ) → get_or (l ⊕ m) i false ≡ differ (get_or l i false) (get_or m i false)
unfolding ◌⊕◌
bit_sum [] m i = refl
bit_sum (a ∷ l) [] i = sym (differ_none (get_or (a ∷ l) i false))
bit_sum (a ∷ l) (b ∷ m) zero = refl
bit_sum (a ∷ l) (b ∷ m) (suc i) = bit_sum l m i

-- the last bit that a step leaves tells whether G(x) was taken away
moved_on : (t : List Bool) → length t ≡ 31 → get_or (t ⊕ zeros 32) 31 false ≡ false
moved_on t e = bit_sum t (zeros 32) 31 ∙ ap (λ (x : Bool). differ x false) (get_or-eq_default t false (omega (arith, e)))

last_bit : (c : Bool) (t : List Bool) → length t ≡ 31 → get_or (taken c (t ⊕ zeros 32)) 31 false ≡ c
unfolding generator bits_of
last_bit true t e = bit_sum generator (t ⊕ zeros 32) 31 ∙ ap (differ true) (moved_on t e)
last_bit false t e = moved_on t e

taken_back : (c : Bool) (m m' : List Bool) → 32 ≤ length m → 32 ≤ length m' → taken c m ≡ taken c m' → m ≡ m'
taken_back true m m' p p' e =
    sym (sum_twice generator m (omega (arith, length_generator)))
    ∙ ap (λ (l : List Bool). generator ⊕ l) e ∙ sum_twice generator m' (omega (arith, length_generator))
taken_back false m m' p p' e = e

-- so the register before a bit can be told from the one behind it
step_back : (a a' b : Bool) (t t' : List Bool) → length t ≡ 31 → length t' ≡ 31 → left (a ∷ t) (b ∷ []) ≡ left (a' ∷ t') (b ∷ [])
    → a ∷ t ≡ a' ∷ t'
unfolding left divide ◌⊕◌
step_back a a' b t t' p p' e =
    let same : differ a b ≡ differ a' b
    = sym (last_bit (differ a b) t p) ∙ ap (λ (l : List Bool). get_or l 31 false) e ∙ last_bit (differ a' b) t' p' in
    let long : (m : List Bool) → length m ≡ 31 → 32 ≤ length (m ⊕ zeros 32)
    = λ m h. omega (arith, length_sum m (zeros 32) (omega (arith, h))) in
    let rest : t ⊕ zeros 32 ≡ t' ⊕ zeros 32
    = taken_back (differ a b) (t ⊕ zeros 32) (t' ⊕ zeros 32) (long t p) (long t' p')
    (e ∙ ap (λ (c : Bool). taken c (t' ⊕ zeros 32)) (sym same)) in
    let behind : (m : List Bool) → length m ≡ 31 → m ⊕ zeros 32 ≡ m ++ zeros 1 = λ m h. rw h at (sum_zeros m 1) in
    ap₂ (λ (x : Bool) (l : List Bool). x ∷ l) (sym (differ_twice a b) ∙ ap (λ (x : Bool). differ x b) same ∙ differ_twice a' b)
    (append_cancel_right t t' (zeros 1) (sym (behind t p) ∙ rest ∙ behind t' p'))

-- and before any bits
left_back : (s r r' : List Bool) → length r ≡ 32 → length r' ≡ 32 → left r s ≡ left r' s → r ≡ r'
left_back [] r r' p p' e = sym (left_nothing r p) ∙ e ∙ left_nothing r' p'
left_back (b ∷ s) [] r' p p' e = absurd (omega arith)
left_back (b ∷ s) (a ∷ t) [] p p' e = absurd (omega arith)
left_back (b ∷ s) (a ∷ t) (a' ∷ t') p p' e =
    let one = b ∷ [] in
    step_back a a' b t t' (omega arith) (omega arith)
    (left_back s (left (a ∷ t) one) (left (a' ∷ t') one) (length_left (a ∷ t) one p) (length_left (a' ∷ t') one p')
    (sym (left_append (a ∷ t) one s) ∙ e ∙ left_append (a' ∷ t') one s))

-- bits added to the register at once, or as they come
carried : (r w : List Bool) → left r w ≡ left (r ⊕ w) (zeros (length w))
unfolding left
carried r w =
    let k = length w in
    let zeroed : zeros k ++ zeros 32 ≡ zeros (k + 32) = replicate-append-replicate k 32 false in
    ap (λ (l : List Bool). divide k (r ⊕ l)) (sym (sum_zeros w 32))
    ∙ ap (divide k) (sym (sum_assoc r w (zeros (k + 32))))
    ∙ sym (ap₂ (λ (n : ℕ) (l : List Bool). divide n ((r ⊕ w) ⊕ l)) (length-replicate k false) zeroed)

-- what is added to a register of 32 bits can be told from the sum
told_apart : (r w : List Bool) → length r ≡ 32 → length w ≤ 32 → r ⊕ (r ⊕ w) ≡ w ++ zeros (32 - length w)
told_apart r w p h =
    let all : length w + (32 - length w) ≡ 32 = omega arith in
    sym (sum_assoc r r w)
    ∙ ap (λ (l : List Bool). l ⊕ w) (sum_self r)
    ∙ rw p (sum_comm (zeros 32) w)
    ∙ rw all at (sum_zeros w (32 - length w))

burst_back : (r w w' s : List Bool) → length r ≡ 32 → length w ≡ length w' → length w ≤ 32 → left (left r w) s ≡ left (left r w') s
    → w ≡ w'
burst_back r w w' s p q h e =
    let k = length w in
    let wide : (v : List Bool) → length v ≤ 32 → length (r ⊕ v) ≡ 32
    = λ v l. ap length (sum_comm r v) ∙ length_sum v r (omega (arith, p)) ∙ p in
    let behind : left r w ≡ left r w' = left_back s (left r w) (left r w') (length_left r w p) (length_left r w' p) e in
    let zeroed : left (r ⊕ w) (zeros k) ≡ left (r ⊕ w') (zeros k)
    = sym (carried r w) ∙ behind ∙ carried r w' ∙ ap (λ (n : ℕ). left (r ⊕ w') (zeros n)) (sym q) in
    let sums : r ⊕ w ≡ r ⊕ w'
    = left_back (zeros k) (r ⊕ w) (r ⊕ w') (wide w h) (wide w' (omega (arith, q))) zeroed in
    append_cancel_right w w' (zeros (32 - k))
    (sym (told_apart r w p h) ∙ ap (λ (l : List Bool). r ⊕ l) sums ∙ told_apart r w' p (omega (arith, q))
    ∙ ap (λ (n : ℕ). w' ++ zeros (32 - n)) (sym q))

pub bursts_seen : BurstsSeen
unfolding remainder left
bursts_seen p w w' s q h e =
    let r = left (ones 32) p in
    let parts : (v : List Bool) → left (ones 32) (p ++ (v ++ s)) ≡ left (left r v) s
    = λ v. left_append (ones 32) p (v ++ s) ∙ left_append r v s in
    burst_back r w w' s (length_left (ones 32) p refl) q h (sym (parts w) ∙ e ∙ parts w')

-- what is left where the check follows
complement_sum : (r : List Bool) → r ⊕ map not r ≡ ones (length r)
unfolding ◌⊕◌
complement_sum [] = refl
complement_sum (true ∷ r) = ap (λ (l : List Bool). true ∷ l) (complement_sum r)
complement_sum (false ∷ r) = ap (λ (l : List Bool). true ∷ l) (complement_sum r)

of_ones : left (ones 32) (zeros 32) ≡ residue
unfolding bits_of ◌⊕◌ generator divide left residue
of_ones = refl

checked : (r : List Bool) → length r ≡ 32 → left r (map not r) ≡ residue
checked r p =
    carried r (map not r)
    ∙ ap₂ (λ (l : List Bool) (n : ℕ). left l (zeros n)) (complement_sum r ∙ ap (λ (n : ℕ). ones n) p) (length-map r not ∙ p)
    ∙ of_ones

pub residue_left : ResidueLeft
unfolding remainder left
residue_left m c p =
    let r = left (ones 32) m in
    let wide = length_left (ones 32) m refl in
    let after : left (ones 32) (m ++ map not r) ≡ residue = left_append (ones 32) m (map not r) ∙ checked r wide in
    let bare : (v : List Bool) → left (ones 32) (m ++ (v ++ [])) ≡ left (ones 32) (m ++ v)
    = λ v. ap (λ (l : List Bool). left (ones 32) (m ++ l)) (append-nil v) in
    let same : length c ≡ length (map not r) = p ∙ sym (length-map r not ∙ wide) in (
      λ e. ap (λ (l : List Bool). left (ones 32) (m ++ l)) e ∙ after,
      λ e. bursts_seen m c (map not r) [] same (omega (arith, p)) (bare c ∙ e ∙ sym (bare (map not r) ∙ after)),
    )
