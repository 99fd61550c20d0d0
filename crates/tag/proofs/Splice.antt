-- Octets with six others put in or taken off at a place: their number, and what stands where. Assumes nothing.
use Prim.Native.Nat.{ℕ, zero, suc, ◌+◌, ◌-◌, ◌≤◌, ◌<◌}
use native.Mathlib.Omega.{arith}
use mathlib.Core.Path.{◌≡◌, refl, sym, ◌∙◌, ap}
use mathlib.Core.Bool.{Bool, true}
use mathlib.Core.List.{List, [], ◌∷◌, ◌++◌, append_assoc}
use lib.ListN.{length, get_or, take, drop, length-append, length-drop, take-append-drop, get_or-append}
use lib.Seq.{length-take-le, take_at, drop_at, drop-drop, ext_get_or, get_or-append-add, get_or-take, get_or-drop}
use borrow.Author.Tests.{le-leb}
use Rattle.octets.specs.Number.{be16}
use Rattle.octets.specs.Copy.{put_in, Puts}
use borrow.Rule.Slice.PartMut.{put_mid, mid_of}
use Rattle.octets.proofs.Parts.{to_end, put_first, put_next}
use Rattle.encoding.specs.Encodings.{as_octets}
use Rattle.tag.specs.Insertion.{inserted_at}
use Rattle.tag.specs.Removal.{removed_at}

pub length_inserted : (o six : List ℕ) (at : ℕ) → length six ≡ 6 → at ≤ length o → length (inserted_at o at six) ≡ length o + 6
unfolding inserted_at
length_inserted o six at n h = simp (length-append, length-take-le at o h, length-drop, n) (omega arith)

pub length_removed : (o : List ℕ) (at : ℕ) → at + 6 ≤ length o → length (removed_at o at) ≡ length o - 6
unfolding removed_at
length_removed o at h =
    let front = length-take-le at o (omega arith) in simp (length-append, front, length-drop) (omega arith)

-- what stands at a place of two lists in a row, past the first
past : (x y : List ℕ) (k : ℕ) → length x ≤ k → get_or (x ++ y) k 0 ≡ get_or y (k - length x) 0
past x y k h =
    let e : length x + (k - length x) ≡ k = omega arith in
    ap (λ (j : ℕ). get_or (x ++ y) j 0) (sym e) ∙ get_or-append-add x y (k - length x) 0

-- before a place that a list is cut at
before_cut : (o y : List ℕ) (at k : ℕ) → at ≤ length o → k < at → get_or (take at o ++ y) k 0 ≡ get_or o k 0
before_cut o y at k w h =
    let l = length-take-le at o w in
    get_or-append (take at o) y 0 k (omega arith) ∙ get_or-take at o k 0 h

-- and past it
past_cut : (o y : List ℕ) (at k : ℕ) → at ≤ length o → at ≤ k → get_or (take at o ++ y) k 0 ≡ get_or y (k - at) 0
past_cut o y at k w h =
    let l = length-take-le at o w in
    past (take at o) y k (omega arith) ∙ ap (λ (j : ℕ). get_or y (k - j) 0) l

-- `i` is `b` with six octets put in at a place
pub record Spliced (b i : List ℕ) (at : ℕ) : Type 0 where
  pub within : at ≤ length b
  pub long : length i ≡ length b + 6
  pub before : (k : ℕ) → k < at → get_or i k 0 ≡ get_or b k 0
  pub behind : (k : ℕ) → at ≤ k → get_or i (k + 6) 0 ≡ get_or b k 0

module _ (o six : List ℕ) (at : ℕ) (n : length six ≡ 6) (w : at ≤ length o) where
  in_six : (k : ℕ) → k < 6 → get_or (inserted_at o at six) (at + k) 0 ≡ get_or six k 0
  unfolding inserted_at
  in_six k h =
      let e : at + k - at ≡ k = omega arith in
      past_cut o (six ++ drop at o) at (at + k) w (omega arith)
      ∙ ap (λ (j : ℕ). get_or (six ++ drop at o) j 0) e
      ∙ get_or-append six (drop at o) 0 k (omega arith)

  -- a word of the six
  pub word_in : (k : ℕ) → k + 1 < 6 → be16 (inserted_at o at six) (at + k) ≡ be16 six k
  unfolding be16
  word_in k h =
      let next : at + k + 1 ≡ at + (k + 1) = omega arith in
      rw next (rw (in_six k (omega arith), in_six (k + 1) h) refl)

  pub inserting : Spliced o (inserted_at o at six) at
  unfolding inserted_at
  inserting =
      record {
        within = w;
        long = length_inserted o six at n w;
        before = λ k h. before_cut o (six ++ drop at o) at k w h;
        behind =
            λ k h.
            let e : at + (k + 6 - at - length six) ≡ k = omega arith in
            past_cut o (six ++ drop at o) at (k + 6) w (omega arith)
            ∙ past six (drop at o) (k + 6 - at) (omega arith)
            ∙ get_or-drop at o (k + 6 - at - length six) 0
            ∙ ap (λ (j : ℕ). get_or o j 0) e;
      }

-- the six and the octets behind them, one after the other, are put as one copy would put them
pub put_tagged : (six rest out : List ℕ) → length six ≡ 6 → length rest + 6 ≤ length out
    → {front back : List ℕ} {r r' : Bool} → Puts six out r front
    → Puts rest (mid_of 6 (length front - 6) front) r' back
    → Puts (six ++ rest) out true (put_mid 6 (length front - 6) front back)
put_tagged six rest out n room p q =
    let fits : length (six ++ rest) ≤ length out = simp (length-append) (omega arith) in
    let whole = put_next six rest out (put_first (omega arith) p) (sym n) (omega arith) q in
    record { answer = sym (le-leb _ _ fits); buffer = simp (le-leb _ _ fits, whole) }

-- two copies in a row: the octets before a place, and others behind them
put_two : (o others out : List ℕ) (at : ℕ) → at ≤ length o → at + length others ≤ length out
    → {front back : List ℕ} {r r' : Bool} → Puts (take at o) out r front → Puts others (mid_of at (length front - at) front) r' back
    → put_mid at (length front - at) front back ≡ put_in (take at o ++ others) out
put_two o others out at within room p q =
    let l = length-take-le at o within in
    put_next (take at o) others out (put_first (omega (arith, l)) p) (sym l) (omega (arith, l)) q

-- and three: the six between them
pub put_with : (o six out : List ℕ) (at : ℕ) → length six ≡ 6 → at ≤ length o → length o + 6 ≤ length out
    → {front mid back : List ℕ} {r r' r'' : Bool} → Puts (take at o) out r front → Puts six (mid_of at (length front - at) front) r' mid
    → let two = put_mid at (length front - at) front mid in
    Puts (take (length o - at) (drop at o)) (mid_of (at + 6) (length two - (at + 6)) two) r'' back
    → put_mid (at + 6) (length two - (at + 6)) two back ≡ put_in (inserted_at o at six) out
unfolding inserted_at
put_with o six out at n within room p q t =
    let l = length-take-le at o within in
    let long : length (take at o ++ six) ≡ at + 6 = simp (length-append, l, n) in
    rw (← append_assoc (take at o) six (drop at o))
    (put_next (take at o ++ six) (drop at o) out (put_two o six out at within (omega arith) p q) (sym long) (omega (arith, long, length-drop at o))
    (rw (to_end at o) at t))

pub put_without : (o out : List ℕ) (at : ℕ) → at + 6 ≤ length o → length o ≤ length out + 6
    → {front back : List ℕ} {r r' : Bool} → Puts (take at o) out r front
    → Puts (take (length o - (at + 6)) (drop (at + 6) o)) (mid_of at (length front - at) front) r' back
    → put_mid at (length front - at) front back ≡ put_in (removed_at o at) out
unfolding removed_at
put_without o out at within room p q =
    put_two o (drop (at + 6) o) out at (omega arith) (omega (arith, length-drop (at + 6) o)) p (rw (to_end (at + 6) o) at q)

-- put in, then taken off
pub put_off : (o six : List ℕ) (at : ℕ) → length six ≡ 6 → at ≤ length o → removed_at (inserted_at o at six) at ≡ o
unfolding inserted_at removed_at
put_off o six at n w =
    let l = length-take-le at o w in
    let front = take_at (take at o) (six ++ drop at o) at l in
    let all : length (take at o ++ six) ≡ at + 6 = simp (length-append, l, n) in
    let back = drop_at (take at o ++ six) (drop at o) (at + 6) all in
    rw front (rw (sym (append_assoc (take at o) six (drop at o))) (rw back (take-append-drop at o)))

module _ (o : List ℕ) (at : ℕ) (w : at + 6 ≤ length o) where
  pub removing : Spliced (removed_at o at) o at
  unfolding removed_at
  removing =
      let l = length_removed o at w in
      let v : at ≤ length o = omega arith in
      record {
        within = omega arith;
        long = omega arith;
        before = λ k h. sym (before_cut o (drop (at + 6) o) at k v h);
        behind =
            λ k h.
            let e : at + 6 + (k - at) ≡ k + 6 = omega arith in
            sym
            (past_cut o (drop (at + 6) o) at k v h
            ∙ get_or-drop (at + 6) o (k - at) 0
            ∙ ap (λ (j : ℕ). get_or o j 0) e);
      }

  -- taken off, then put in: the six octets alone may differ
  pub off_put : (six : List ℕ) → inserted_at (removed_at o at) at six ≡ take at o ++ (six ++ drop (at + 6) o)
  unfolding inserted_at removed_at
  off_put six =
      let l = length-take-le at o (omega arith) in
      rw (take_at (take at o) (drop (at + 6) o) at l, drop_at (take at o) (drop (at + 6) o) at l)

  pub with_own_six : take at o ++ (take 6 (drop at o) ++ drop (at + 6) o) ≡ o
  with_own_six = rw (← drop-drop 6 at o) (rw (take-append-drop 6 (drop at o)) (take-append-drop at o))

  -- six octets are those of their three words
  pub six_of_words : ((k : ℕ) → get_or o k 0 < 256)
      → take 6 (drop at o) ≡ as_octets (be16 o at ∷ be16 o (at + 2) ∷ be16 o (at + 4) ∷ [])
  unfolding be16 as_octets
  six_of_words octets =
      let l = length-take-le 6 (drop at o) (omega (arith, length-drop at o)) in
      ext_get_or 0 (take 6 (drop at o)) (as_octets (be16 o at ∷ be16 o (at + 2) ∷ be16 o (at + 4) ∷ [])) l
      (λ k h. let s : k < 6 = omega arith in get_or-take 6 (drop at o) k 0 s ∙ get_or-drop at o k 0 ∙ own k s)
    where
      own : (k : ℕ) → k < 6 → get_or o (at + k) 0 ≡ get_or (as_octets (be16 o at ∷ be16 o (at + 2) ∷ be16 o (at + 4) ∷ [])) k 0
      own zero h = let e : at + 0 ≡ at = omega arith in rw e (omega (arith, octets (at + 1)))
      own (suc zero) h = omega (arith, octets (at + 1))
      own (suc (suc zero)) h = omega (arith, octets (at + 2 + 1))
      own (suc (suc (suc zero))) h = let e : at + 3 ≡ at + 2 + 1 = omega arith in rw e (omega (arith, octets (at + 2 + 1)))
      own (suc (suc (suc (suc zero)))) h = omega (arith, octets (at + 4 + 1))
      own (suc (suc (suc (suc (suc zero))))) h = let e : at + 5 ≡ at + 4 + 1 = omega arith in rw e (omega (arith, octets (at + 4 + 1)))
      own (suc (suc (suc (suc (suc (suc k)))))) h = omega arith
